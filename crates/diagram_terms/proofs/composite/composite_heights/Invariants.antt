use Rattle.std.proofs.Common.{◌≡◌, map, get_or, take}
use Rattle.diagram_terms.proofs.composite.composite_heights.Given as goal

abbrev pub invariant-loop-h : goal.invariant-loop-h
invariant-loop-h l = l.made.items ≡ map (λ i. get_or l.second i 0) (take l.h-index l.first)
