use Rattle.std.proofs.Common.{take}
use Rattle.diagram_terms.specs.Shape.{sing_at}
use Rattle.hashcons.specs.Contents.{diagram_at}
use Rattle.normalise.specs.LegSlices.{slice_trees_over}
use Rattle.normalise.specs.StoreForms.{AreLegsWith, legs_of}
use Rattle.normalise.proofs.slices.slices_over.Given as goal

abbrev pub invariant-loop-i : goal.invariant-loop-i
invariant-loop-i l = AreLegsWith l.store (sing_at (diagram_at l.store l.key.target) l.k) (slice_trees_over (legs_of l.store (take l.i l.key.legs.items)) l.k) l.slices.items
