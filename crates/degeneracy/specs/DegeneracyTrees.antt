-- Degeneracies and factors, on the trees that a store holds.
use Rattle.std.specs.Prelude.{◌≡◌, ℕ}
use Rattle.diagram_terms.specs.Decoded.{dia, arr}
use Rattle.diagram_terms.specs.Degeneracy.{Degeneracy}
use Rattle.diagram_terms.specs.Shape.{IsDiagram, IsArrow}
use Rattle.diagram_terms.specs.Tree.{Tree}
use Rattle.hashcons.specs.Contents.{Contents, diagram_at, arrow_at}
use Rattle.diagram_terms.specs.Operations.{composite_tree}
use Rattle.zigzag_maps.specs.declared.map.Map.{Map}
use Rattle.zigzag_maps.specs.Found.{IsValidMap}
use Rattle.diagram_terms.specs.ValidTrees.{IsArrowBetween}

-- f is a degeneracy from s to t, of dimension d
pub record IsDegeneracyAt (d : ℕ) (s t f : Tree) : Type 0 where
  pub source : IsDiagram d s
  pub target : IsDiagram d t
  pub shape : IsArrow d f
  pub degeneracy : Degeneracy d (dia d s) (dia d t) (arr d f)

pub record IsDegeneracyTree (s t f : Tree) : Type 0 where
  pub dim : ℕ
  pub at_dim : IsDegeneracyAt dim s t f

-- the map is a degeneracy
abbrev pub IsDegeneracyMap : Contents → Map → Type 0
IsDegeneracyMap c m = IsDegeneracyTree (diagram_at c m.source) (diagram_at c m.target) (arrow_at c m.arrow)

-- g : s → r is valid, and the composite of e after g is f
pub record IsFactorTree (s r f e g : Tree) : Type 0 where
  pub between : IsArrowBetween s r g
  pub composite : composite_tree e g ≡ f

-- g is an arrow by which the map f factors through e
abbrev pub IsFactorArrow : Contents → Map → Map → Tree → Type 0
IsFactorArrow c f e g = IsFactorTree (diagram_at c f.source) (diagram_at c e.source) (arrow_at c f.arrow) (arrow_at c e.arrow) g

-- the map m from the source of f to the source of e is the one factor of f through e
pub record IsFactorMap (c : Contents) (f e m : Map) : Type 0 where
  pub source : m.source ≡ f.source
  pub target : m.target ≡ e.source
  pub valid : IsValidMap c m
  pub factor : IsFactorArrow c f e (arrow_at c m.arrow)
  pub only : (g : Tree) → IsFactorArrow c f e g → g ≡ arrow_at c m.arrow
