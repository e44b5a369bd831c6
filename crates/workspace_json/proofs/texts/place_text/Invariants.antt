use Rattle.std.proofs.Common.{◌≡◌, ◌++◌, take, codes, string_bytes}
use Rattle.std.specs.List.{flat_map}
use Rattle.workspace_json.specs.Places.{step_text}
use Rattle.workspace_json.proofs.texts.place_text.Given as goal

abbrev pub invariant-loop-step : goal.invariant-loop-step
invariant-loop-step l = string_bytes l.text ≡ flat_map (λ s. step_text s ++ codes " ") (take l.step-index l.place.steps)
