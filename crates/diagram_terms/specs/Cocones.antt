-- Cocones over shapes, and factors through them.
use Rattle.std.specs.Prelude.{◌≡◌, ℕ, ◌<◌, List, length, get_or}
use Rattle.std.specs.List.{Contains}
use Rattle.diagram_terms.specs.Family.{Dia, Arr, no_arr}
use Rattle.diagram_terms.specs.Composite.{comp}
use Rattle.diagram_terms.specs.Valid.{ValidArrow, Valid}
use Rattle.diagram_terms.specs.Plain.{PlainArrow, Plain}
use Rattle.diagram_terms.specs.Shapes.{ShapeArrow, Shape, object}

-- a diagram, the apex, and for each object an arrow into it, its leg
pub record Cocone (d : ℕ) : Type 0 where
  pub apex : Dia d
  pub legs : List (Arr d)

-- the leg of the object x
abbrev pub leg : (d : ℕ) → Cocone d → ℕ → Arr d
leg d c x = get_or c.legs x (no_arr d)

-- the legs are valid arrows into the valid apex, one for each object, and agree with the arrows of S: each arrow, followed by
-- the leg of its target, is the leg of its source
pub record IsCocone (d : ℕ) (S : Shape d) (c : Cocone d) : Type 0 where
  pub legs_len : length c.legs ≡ length S.objects
  pub apex : Valid d c.apex
  pub legs : (x : ℕ) → x < length S.objects → ValidArrow d (object d S x) c.apex (leg d c x)
  pub agree : (g : ShapeArrow d) → Contains S.arrows g → comp d (leg d c g.to) g.arrow ≡ leg d c g.from

-- and the apex and the legs are plain
pub record IsPlainCocone (d : ℕ) (S : Shape d) (c : Cocone d) : Type 0 where
  pub cocone : IsCocone d S c
  pub plain : Plain d c.apex
  pub plain_legs : (x : ℕ) → x < length S.objects → PlainArrow d (leg d c x)

-- v is a valid arrow from the apex of c to that of u, and after the legs of c it gives those of u
pub record IsFactor (d : ℕ) (S : Shape d) (c u : Cocone d) (v : Arr d) : Type 0 where
  pub valid : ValidArrow d c.apex u.apex v
  pub gives : (x : ℕ) → x < length S.objects → comp d v (leg d c x) ≡ leg d u x
