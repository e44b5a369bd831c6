-- Shapes: diagrams of one dimension, and arrows between them.
use Rattle.std.specs.Prelude.{ℕ, suc, ◌<◌, List, length, get_or, map}
use Rattle.std.specs.List.{Contains}
use Rattle.diagram_terms.specs.Family.{Dia, Arr, no_dia, length_of}
use Rattle.diagram_terms.specs.Valid.{ValidArrow, Valid}
use Rattle.diagram_terms.specs.Plain.{PlainArrow, Plain}
use Rattle.diagram_terms.specs.HeightClasses.{HeightShape}

-- an arrow between two of the objects of a shape, which go by their places in its list
pub record ShapeArrow (d : ℕ) : Type 0 where
  pub from : ℕ
  pub to : ℕ
  pub arrow : Arr d

-- the objects, and the arrows between them
pub record Shape (d : ℕ) : Type 0 where
  pub objects : List (Dia d)
  pub arrows : List (ShapeArrow d)

-- the object x
abbrev pub object : (d : ℕ) → Shape d → ℕ → Dia d
object d S x = get_or S.objects x (no_dia d)

-- a chain of arrows of S, each taken in either direction, leads from x to y
pub data AreConnected (d : ℕ) (S : Shape d) (x : ℕ) : ℕ → Type 0 where
  here : AreConnected d S x x
  forth : (g : ShapeArrow d) → Contains S.arrows g → AreConnected d S x g.from → AreConnected d S x g.to
  back : (g : ShapeArrow d) → Contains S.arrows g → AreConnected d S x g.to → AreConnected d S x g.from

-- g is a valid plain arrow between objects of S
pub record IsArrowOf (d : ℕ) (S : Shape d) (g : ShapeArrow d) : Type 0 where
  pub from_within : g.from < length S.objects
  pub to_within : g.to < length S.objects
  pub valid : ValidArrow d (object d S g.from) (object d S g.to) g.arrow
  pub plain : PlainArrow d g.arrow

-- S is a shape: its objects are valid and plain, there is at least one, its arrows are valid and plain, and they connect all
-- objects
pub record IsShape (d : ℕ) (S : Shape d) : Type 0 where
  pub nonempty : 0 < length S.objects
  pub valid : (x : ℕ) → x < length S.objects → Valid d (object d S x)
  pub plain : (x : ℕ) → x < length S.objects → Plain d (object d S x)
  pub arrows : (g : ShapeArrow d) → Contains S.arrows g → IsArrowOf d S g
  pub connected : (x y : ℕ) → x < length S.objects → y < length S.objects → AreConnected d S x y

-- the lengths of the objects and the heights of the arrows, which are put in order
abbrev pub heights_of : (d : ℕ) → Shape (suc d) → HeightShape
heights_of d S = record {
  lengths = map (λ X. length_of (suc d) X) S.objects;
  maps = map (λ g. record { from = g.from; to = g.to; heights = g.arrow.heights }) S.arrows;
}
