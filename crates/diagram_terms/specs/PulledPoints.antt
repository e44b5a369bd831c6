-- Points of the target of an arrow, pulled back to its source, and quiet points.
use Rattle.std.specs.Prelude.{◌≡◌, ◌⊎◌, ℕ, zero, suc, List, [], ◌∷◌, nat_lt, if◌then◌else◌}
use Rattle.diagram_terms.specs.declared.place.Height.{Height}
use Rattle.diagram_terms.specs.declared.place.Height.TheVariants as height_kind
use Rattle.diagram_terms.specs.Cuts.{cut_arrow}
use Rattle.diagram_terms.specs.Dual.{dual}
use Rattle.diagram_terms.specs.Valid.{left_edge}
use Rattle.diagram_terms.specs.Family.{Dia, Arr, reg, sing, fwd, bwd, arrow_reg, arrow_sing}
use Rattle.diagram_terms.specs.Identity.{IsIdentity}
use Rattle.diagram_terms.specs.PointRegions.{point_region}

-- The point of X to which a point of Y is pulled back along f : X → Y. Over a regular height it goes on under the regular
-- slice of f. Over a singular height it goes on in the first singular slice that goes there, or if there is none in the
-- regular slice there, along the composite into the singular slice of Y.
unfoldable pub pulled_point : (d : ℕ) → Dia d → Arr d → List Height → List Height
pulled_point zero y f hs = hs
pulled_point (suc d) Y f [] = []
pulled_point (suc d) Y f (height_kind.R j ∷ hs) = height_kind.R (dual f.heights j) ∷ pulled_point d (reg d Y j) (arrow_reg d f j) hs
pulled_point (suc d) Y f (height_kind.S k ∷ hs) =
    if nat_lt (dual f.heights k) (dual f.heights (suc k))
    then height_kind.S (dual f.heights k) ∷ pulled_point d (sing d Y k) (arrow_sing d f (dual f.heights k)) hs
    else height_kind.R (dual f.heights k) ∷ pulled_point d (sing d Y k) (left_edge d Y f k) hs

-- on the way of the point no height has two over it, and f is an identity where the point ends
abbrev pub PullsBack : (d : ℕ) → Dia d → Arr d → List Height → Type 0
PullsBack zero y f hs = IsIdentity zero f
PullsBack (suc d) Y f [] = Unit {0}
PullsBack (suc d) Y f (height_kind.R j ∷ hs) = PullsBack d (reg d Y j) (arrow_reg d f j) hs
PullsBack (suc d) Y f (height_kind.S k ∷ hs) =
    ((suc (dual f.heights k) ≡ dual f.heights (suc k)) × PullsBack d (sing d Y k) (arrow_sing d f (dual f.heights k)) hs)
    ⊎ ((dual f.heights k ≡ dual f.heights (suc k)) × PullsBack d (sing d Y k) (left_edge d Y f k) hs)

-- the point hs over the singular height k of X is quiet: the cuts of both legs at its region are identities
pub record IsQuiet (d : ℕ) (X : Dia (suc d)) (k : ℕ) (hs : List Height) : Type 0 where
  pub fwds : IsIdentity d (cut_arrow d (fwd d X k) (point_region d (sing d X k) hs))
  pub bwds : IsIdentity d (cut_arrow d (bwd d X k) (point_region d (sing d X k) hs))
