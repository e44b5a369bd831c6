-- Valid arrows and diagrams with a closed region.
use Rattle.std.specs.Prelude.{ℕ}
use Rattle.diagram_terms.specs.Tree.{Tree}
use Rattle.diagram_terms.specs.Shape.{IsDiagram, IsArrow}
use Rattle.diagram_terms.specs.Family.{Dia}
use Rattle.diagram_terms.specs.Decoded.{dia, arr}
use Rattle.diagram_terms.specs.Valid.{Valid, ValidArrow}
use Rattle.diagram_terms.specs.ClosedRegions.{IsClosedRegion}
use Rattle.diagram_terms.specs.Regions.{Reg}

-- f is a valid arrow of dimension d out of X, and W a closed region of its target
pub record IsOver (d : ℕ) (X : Dia d) (f : Tree) (W : Reg d) : Type 0 where
  pub shape : IsArrow d f
  pub target : Dia d
  pub valid_source : Valid d X
  pub valid_target : Valid d target
  pub valid : ValidArrow d X target (arr d f)
  pub closed : IsClosedRegion d target W

-- the same out of some diagram
pub record IsOverSome (d : ℕ) (f : Tree) (W : Reg d) : Type 0 where
  pub source : Dia d
  pub over : IsOver d source f W

-- t is a valid diagram of dimension d, and W a closed region of it
pub record HasRegion (d : ℕ) (t : Tree) (W : Reg d) : Type 0 where
  pub shape : IsDiagram d t
  pub valid : Valid d (dia d t)
  pub closed : IsClosedRegion d (dia d t) W
