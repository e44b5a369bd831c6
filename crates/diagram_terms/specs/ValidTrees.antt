-- Valid trees.
use Rattle.std.specs.Prelude.{ℕ}
use Rattle.diagram_terms.specs.Tree.{Tree}
use Rattle.diagram_terms.specs.Shape.{IsDiagram, IsArrow}
use Rattle.diagram_terms.specs.Family.{Dia}
use Rattle.diagram_terms.specs.Decoded.{dia, arr}
use Rattle.diagram_terms.specs.Valid.{Valid, ValidArrow}

-- t is a valid diagram, of dimension d
pub record IsValidTreeAt (d : ℕ) (t : Tree) : Type 0 where
  pub shape : IsDiagram d t
  pub valid : Valid d (dia d t)

pub record IsValidTree (t : Tree) : Type 0 where
  pub dim : ℕ
  pub at_dim : IsValidTreeAt dim t

-- f is a valid arrow from s to t, of dimension d
pub record IsArrowBetweenAt (d : ℕ) (s t f : Tree) : Type 0 where
  pub source : IsDiagram d s
  pub target : IsDiagram d t
  pub shape : IsArrow d f
  pub valid : ValidArrow d (dia d s) (dia d t) (arr d f)

pub record IsArrowBetween (s t f : Tree) : Type 0 where
  pub dim : ℕ
  pub at_dim : IsArrowBetweenAt dim s t f

-- f is a valid arrow into a diagram out of which g is a valid arrow, both of dimension d
pub record AreComposableAt (d : ℕ) (g f : Tree) : Type 0 where
  pub outer : IsArrow d g
  pub inner : IsArrow d f
  pub source : Dia d
  pub middle : Dia d
  pub target : Dia d
  pub inner_valid : ValidArrow d source middle (arr d f)
  pub outer_valid : ValidArrow d middle target (arr d g)

pub record AreComposable (g f : Tree) : Type 0 where
  pub dim : ℕ
  pub at_dim : AreComposableAt dim g f
