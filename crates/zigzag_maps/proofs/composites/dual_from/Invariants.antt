use Rattle.std.proofs.Common.{◌-◌, ◌≤◌}
use Rattle.diagram_terms.specs.Dual.{dual}
use Rattle.diagram_terms.specs.Tree.{heights}
use Rattle.hashcons.specs.Contents.{arrow_at}
use Rattle.zigzag_maps.proofs.composites.dual_from.Given as goal

abbrev pub invariant-loop-at : goal.invariant-loop-at
invariant-loop-at l = l.at ≤ dual (heights (arrow_at l.store l.a)) l.k

abbrev pub decreases-loop-at : goal.decreases-loop-at
decreases-loop-at l = l.end - l.at
