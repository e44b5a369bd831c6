-- The shape of the lengths of objects and of the maps between them.
use Rattle.std.specs.Prelude.{ℕ, List, map}
use Rattle.height_order.specs.declared.height_map.HeightMap.{HeightMap}
use Rattle.diagram_terms.specs.HeightClasses.{HeightShape}
use Rattle.diagram_terms.specs.HeightClasses as height_classes

-- a map as the definitions of orders see it
abbrev pub as_map : HeightMap → height_classes.HeightMap
as_map m = record { from = m.from; to = m.to; heights = m.heights.heights }

-- the shape of these lengths and maps
abbrev pub shape_of : List ℕ → List HeightMap → HeightShape
shape_of lengths maps = record { lengths = lengths; maps = map as_map maps }
