-- The comparison of points, and what it is to list all points of a diagram.
use Rattle.std.specs.Prelude.{◌≡◌, ◌⊎◌, ℕ, suc, ◌+◌, ◌<◌, List, [], ◌∷◌, length, get_or}
use Rattle.diagram_terms.specs.declared.place.Height.{Height}
use Rattle.diagram_terms.specs.declared.place.Height.TheVariants as height_kind
use Rattle.diagram_terms.specs.Family.{Dia, no_label}
use Rattle.diagram_terms.specs.Points.{Point}
use Rattle.diagram_terms.specs.Paths.{IsPointOf, point_label}

-- the place of a height in the order r0, s0, r1, s1 and so on
abbrev pub height_rank : Height → ℕ
height_rank (height_kind.R j) = j + j
height_rank (height_kind.S k) = suc (k + k)

-- one list of heights is before another of its length: it is so at the first height at which they differ
abbrev pub IsBefore : List Height → List Height → Type 0
IsBefore [] hs = ⊥
IsBefore (g ∷ gs) [] = ⊥
IsBefore (g ∷ gs) (h ∷ hs) = (height_rank g < height_rank h) ⊎ ((g ≡ h) × IsBefore gs hs)

-- the point at i of a list
abbrev pub point_at : List Point → ℕ → Point
point_at ps i = get_or ps i (record { heights = []; label = no_label })

-- the list has every point of X once, in order, each with its label
pub record ListsPoints (d : ℕ) (X : Dia d) (ps : List Point) : Type 0 where
  pub points : (i : ℕ) → i < length ps → IsPointOf d X (point_at ps i).heights
  pub labels : (i : ℕ) → i < length ps → (point_at ps i).label ≡ point_label d X (point_at ps i).heights
  pub every : (hs : List Height) → IsPointOf d X hs → (i : ℕ) × (i < length ps) × ((point_at ps i).heights ≡ hs)
  pub once : (i j : ℕ) → i < length ps → j < length ps → (point_at ps i).heights ≡ (point_at ps j).heights → i ≡ j
  pub in_order : (i j : ℕ) → i < j → j < length ps → IsBefore (point_at ps i).heights (point_at ps j).heights
