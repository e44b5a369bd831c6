use Rattle.std.proofs.Common.{◌≡◌, take}
use Rattle.diagram_terms.specs.Dual.{after}
use Rattle.diagram_terms.specs.Tree.{heights}
use Rattle.hashcons.specs.Contents.{arrow_at}
use Rattle.zigzag_maps.proofs.composites.composite_heights.Given as goal

abbrev pub invariant-loop-i : goal.invariant-loop-i
invariant-loop-i l = l.heights.items ≡ after (heights (arrow_at l.store l.g)) (take l.i (heights (arrow_at l.store l.f)))
