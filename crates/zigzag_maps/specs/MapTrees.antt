-- The trees of a map, and valid arrows between valid diagrams, on trees.
use Rattle.std.specs.Prelude.{◌≡◌, ℕ}
use Rattle.diagram_terms.specs.Decoded.{dia, arr}
use Rattle.diagram_terms.specs.Shape.{IsArrow}
use Rattle.diagram_terms.specs.Tree.{Tree}
use Rattle.diagram_terms.specs.Valid.{ValidArrow}
use Rattle.diagram_terms.specs.ValidTrees.{IsValidTreeAt}
use Rattle.hashcons.specs.Contents.{Contents, diagram_at, arrow_at}
use Rattle.zigzag_maps.specs.declared.map.Map.{Map}

-- the source, the target and the arrow of the map m have these trees
pub record IsMapWith (c : Contents) (s t f : Tree) (m : Map) : Type 0 where
  pub source : diagram_at c m.source ≡ s
  pub target : diagram_at c m.target ≡ t
  pub arrow : arrow_at c m.arrow ≡ f

-- f is a valid arrow from s to t, both valid, of dimension d
pub record IsValidArrowAt (d : ℕ) (s t f : Tree) : Type 0 where
  pub source : IsValidTreeAt d s
  pub target : IsValidTreeAt d t
  pub shape : IsArrow d f
  pub valid : ValidArrow d (dia d s) (dia d t) (arr d f)

pub record IsValidArrowTree (s t f : Tree) : Type 0 where
  pub dim : ℕ
  pub at_dim : IsValidArrowAt dim s t f
