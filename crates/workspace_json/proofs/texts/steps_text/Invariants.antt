use Rattle.std.proofs.Common.{◌≡◌, take, map, string_bytes}
use Rattle.workspace_json.specs.Places.{step_text}
use Rattle.workspace_json.specs.Places.{spaced}
use Rattle.workspace_json.proofs.texts.steps_text.Given as goal

abbrev pub invariant-loop-at : goal.invariant-loop-at
invariant-loop-at l = string_bytes l.text ≡ spaced (map step_text (take l.at l.steps))
