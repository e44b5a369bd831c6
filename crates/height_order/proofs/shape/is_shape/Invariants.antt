use Rattle.std.proofs.Common.{take}
use Rattle.diagram_terms.specs.HeightClasses.{IsHeightShape}
use Rattle.height_order.specs.Shapes.{shape_of}
use Rattle.height_order.proofs.shape.is_shape.Given as goal

abbrev pub invariant-loop-map : goal.invariant-loop-map
invariant-loop-map l = IsHeightShape (shape_of l.lengths (take l.map-index l.maps))
