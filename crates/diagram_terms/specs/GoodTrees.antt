-- Trees of good diagrams and of good arrows.
use Rattle.std.specs.Prelude.{◌≡◌}
use Rattle.diagram_terms.specs.Decoded.{dia, arr}
use Rattle.diagram_terms.specs.Dimension.{dimension_of, IsDiagramTree, IsArrowTree}
use Rattle.diagram_terms.specs.Tree.{Tree}
use Rattle.diagram_terms.specs.Good.{GoodDiagram, GoodArrow}

-- t is the tree of a valid plain diagram
pub record IsGoodTree (t : Tree) : Type 0 where
  pub shape : IsDiagramTree t
  pub good : GoodDiagram (dimension_of t) (dia (dimension_of t) t)

-- f is the tree of a valid plain arrow from s to t
pub record IsGoodArrowTree (s t f : Tree) : Type 0 where
  pub source : IsGoodTree s
  pub target : IsGoodTree t
  pub shape : IsArrowTree f
  pub target_dim : dimension_of t ≡ dimension_of s
  pub arrow_dim : dimension_of f ≡ dimension_of s
  pub good : GoodArrow (dimension_of s) (dia (dimension_of s) s) (dia (dimension_of s) t) (arr (dimension_of s) f)
