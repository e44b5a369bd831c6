-- Good diagrams and arrows: those that are valid and plain.
use Rattle.std.specs.Prelude.{ℕ}
use Rattle.diagram_terms.specs.Family.{Dia, Arr}
use Rattle.diagram_terms.specs.Plain.{PlainArrow, Plain}
use Rattle.diagram_terms.specs.Valid.{ValidArrow, Valid}

-- a valid plain diagram
pub record GoodDiagram (d : ℕ) (X : Dia d) : Type 0 where
  pub valid : Valid d X
  pub plain : Plain d X

-- a valid plain arrow between valid plain diagrams
pub record GoodArrow (d : ℕ) (X Y : Dia d) (f : Arr d) : Type 0 where
  pub source : GoodDiagram d X
  pub target : GoodDiagram d Y
  pub valid : ValidArrow d X Y f
  pub plain : PlainArrow d f
