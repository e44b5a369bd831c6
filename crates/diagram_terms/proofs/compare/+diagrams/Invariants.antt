use Rattle.std.proofs.Common.{◌≡◌, length, take}
use Rattle.diagram_terms.specs.Values.{trees_of_diagrams}
use Rattle.diagram_terms.proofs.compare.+diagrams.Given as goal

abbrev pub invariant-all_diagrams_equal-loop-i : goal.invariant-all_diagrams_equal-loop-i
invariant-all_diagrams_equal-loop-i l = (length l.xs ≡ length l.ys) × (take l.i (trees_of_diagrams l.xs) ≡ take l.i (trees_of_diagrams l.ys))
