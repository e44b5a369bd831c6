-- What is found out about ids of a store.
use Rattle.std.specs.Prelude.{Result}
use Rattle.diagram_terms.specs.Tree.{Tree}
use Rattle.hashcons.specs.declared.id.AnyId.TheVariants as id
use Rattle.hashcons.specs.Contents.{Contents, IsValidTriple}
pub use Rattle.hashcons.specs.Contents.{IsValidDiagram}
use Rattle.hashcons.specs.Made.{Makes}
use Rattle.zigzag_maps.specs.declared.map.Map.{Map}

-- the ends of m are valid, and its arrow is valid between them
abbrev pub IsValidMap : Contents → Map → Type 0
IsValidMap c m = IsValidTriple c m.source m.target m.arrow

-- the answer is a map whose arrow has this tree
abbrev pub MakesMap : {E : Type 0} → Contents → Contents → Tree → Result Map E → Type 0
MakesMap old new t r = Makes (λ m. id.Arrow m.arrow) old new t r
