-- The text of a place.
use Rattle.std.specs.Prelude.{ℕ, List, ◌++◌, map, codes}
use Rattle.std.specs.Fmt.{decimal}
use Rattle.std.specs.List.{flat_map, join_with_byte}
use Rattle.diagram_terms.specs.declared.place.Step.{Step}
use Rattle.diagram_terms.specs.declared.place.Step.TheVariants as step
use Rattle.diagram_terms.specs.declared.place.End.{End}
use Rattle.diagram_terms.specs.declared.place.End.TheVariants as at_end
use Rattle.diagram_terms.specs.declared.place.Fault.{Fault}
use Rattle.diagram_terms.specs.declared.place.Fault.TheVariants as fault
use Rattle.diagram_terms.specs.declared.place.Place.{Place}
use Rattle.workspace_json.specs.Paths.{height_text}

-- a step: a letter and the height or the slice, or the end of a map
abbrev pub step_text : Step → List ℕ
step_text step.SourceEnd = codes "source"
step_text step.TargetEnd = codes "target"
step_text (step.R j) = codes "r" ++ decimal j
step_text (step.S i) = codes "s" ++ decimal i
step_text (step.F k) = codes "f" ++ decimal k
step_text (step.B k) = codes "b" ++ decimal k

-- what fails there: the ends, or the square at a height
abbrev pub end_text : End → List ℕ
end_text at_end.Ends = codes "ends"
end_text (at_end.Square k) = codes "q" ++ decimal k

-- each step and a space after it, and then the end
abbrev pub place_text : Place → List ℕ
place_text p = flat_map (λ s. step_text s ++ codes " ") p.steps ++ end_text p.end

-- ---- faults

-- texts with one space (32) between them
abbrev pub spaced : List (List ℕ) → List ℕ
spaced texts = join_with_byte 32 texts

-- the word of a fault, and the text of its place: a place with what fails there, the steps to a leg, or a point
abbrev pub fault_word : Fault → List ℕ
fault_word (fault.SquareAt p) = codes "square"
fault_word (fault.LooseAt steps) = codes "loose"
fault_word (fault.LabelAt point) = codes "label"
fault_word (fault.TypeAt point) = codes "type"

abbrev pub fault_place : Fault → List ℕ
fault_place (fault.SquareAt p) = place_text p
fault_place (fault.LooseAt steps) = spaced (map step_text steps)
fault_place (fault.LabelAt point) = spaced (map height_text point)
fault_place (fault.TypeAt point) = spaced (map height_text point)
