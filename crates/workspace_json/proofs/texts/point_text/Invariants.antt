use Rattle.std.proofs.Common.{◌≡◌, take, map, string_bytes}
use Rattle.workspace_json.specs.Paths.{height_text}
use Rattle.workspace_json.specs.Places.{spaced}
use Rattle.workspace_json.proofs.texts.point_text.Given as goal

abbrev pub invariant-loop-at : goal.invariant-loop-at
invariant-loop-at l = string_bytes l.text ≡ spaced (map height_text (take l.at l.heights))
