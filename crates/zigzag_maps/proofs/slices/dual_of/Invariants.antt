use Rattle.std.proofs.Common.{◌-◌, ◌≤◌, length}
use Rattle.diagram_terms.specs.Dual.{dual}
use Rattle.diagram_terms.specs.Tree.{heights}
use Rattle.hashcons.specs.Contents.{arrow_at}
use Rattle.zigzag_maps.proofs.slices.dual_of.Given as goal

abbrev pub invariant-loop-low : goal.invariant-loop-low
invariant-loop-low l = record {
  least : l.low ≤ dual (heights (arrow_at l.store l.a)) l.k;
  most : dual (heights (arrow_at l.store l.a)) l.k ≤ l.high;
  within : l.high ≤ length (heights (arrow_at l.store l.a));
}

abbrev pub decreases-loop-low : goal.decreases-loop-low
decreases-loop-low l = l.high - l.low
