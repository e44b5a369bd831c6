use Rattle.diagram_terms.specs.Shape.{sing_at}
use Rattle.hashcons.specs.Contents.{diagram_at, leg_of}
use Rattle.normalise.specs.LegSlices.{first_slices_to}
use Rattle.normalise.specs.NormalMaps.{as_leg}
use Rattle.normalise.specs.StoreForms.{AreLegsWith}
use Rattle.normalise.proofs.slices.slices_of.Given as goal

abbrev pub invariant-loop-i : goal.invariant-loop-i
invariant-loop-i l = AreLegsWith l.store (sing_at (diagram_at l.store l.leg.target) l.k) (first_slices_to l.k (leg_of l.store (as_leg l.leg)) l.i) l.slices.items
