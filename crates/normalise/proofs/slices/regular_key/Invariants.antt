use Rattle.std.proofs.Common.{take}
use Rattle.diagram_terms.specs.Shape.{reg_at}
use Rattle.hashcons.specs.Contents.{diagram_at}
use Rattle.normalise.specs.LegSlices.{regular_slice_trees}
use Rattle.normalise.specs.StoreForms.{AreLegsWith, legs_of}
use Rattle.normalise.proofs.slices.regular_key.Given as goal

abbrev pub invariant-loop-i : goal.invariant-loop-i
invariant-loop-i l = AreLegsWith l.store (reg_at (diagram_at l.store l.key.target) l.j) (regular_slice_trees (legs_of l.store (take l.i l.key.legs.items)) l.j) l.legs.items
