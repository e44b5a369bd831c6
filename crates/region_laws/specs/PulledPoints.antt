-- What is said of points that are pulled back, of quiet points and of deep ones.
use Rattle.std.specs.Prelude.{◌≡◌, ℕ, suc, List, ◌∷◌}
use Rattle.diagram_terms.specs.declared.place.Height.{Height}
use Rattle.diagram_terms.specs.declared.place.Height.TheVariants as height_kind
use Rattle.diagram_terms.specs.Composite.{identity_diagram}
use Rattle.diagram_terms.specs.Family.{Dia, Arr, sing, fwd}
use Rattle.diagram_terms.specs.Neighbourhoods.{neighbourhood, identity_cospan}
use Rattle.diagram_terms.specs.Paths.{IsPointOf, point_label, IsDeep}
use Rattle.diagram_terms.specs.PointRegions.{point_region, LiesIn}
use Rattle.diagram_terms.specs.Preimages.{preimage}
use Rattle.diagram_terms.specs.PulledPoints.{pulled_point}

-- the point of X to which one of Y is pulled back: its region is the preimage, and its label is the same
pub record IsPulledPoint (d : ℕ) (X Y : Dia d) (f : Arr d) (hs : List Height) : Type 0 where
  pub is_point : IsPointOf d X (pulled_point d Y f hs)
  pub region : point_region d X (pulled_point d Y f hs) ≡ preimage d X f (point_region d Y hs)
  pub label : point_label d X (pulled_point d Y f hs) ≡ point_label d Y hs

-- its neighbourhood is E → E ← E with identities, where E is that in the singular slice; and over the regular height k
-- stands a point with the same label whose neighbourhood is the identity diagram of E
pub record HasQuietNeighbourhood (d : ℕ) (X : Dia (suc d)) (k : ℕ) (hs : List Height) : Type 0 where
  pub around : neighbourhood (suc d) X (height_kind.S k ∷ hs) ≡ identity_cospan d (neighbourhood d (sing d X k) hs)
  pub is_point : IsPointOf (suc d) X (height_kind.R k ∷ pulled_point d (sing d X k) (fwd d X k) hs)
  pub label : point_label (suc d) X (height_kind.R k ∷ pulled_point d (sing d X k) (fwd d X k) hs) ≡ point_label (suc d) X (height_kind.S k ∷ hs)
  pub before : neighbourhood (suc d) X (height_kind.R k ∷ pulled_point d (sing d X k) (fwd d X k) hs)
      ≡ identity_diagram d (neighbourhood d (sing d X k) hs)

-- the point of X lies in the preimage of the region of a deep point of Y
pub record LiesUnderDeepPoint (d : ℕ) (X Y : Dia d) (f : Arr d) (hs : List Height) : Type 0 where
  pub point : List Height
  pub is_point : IsPointOf d Y point
  pub deep : IsDeep d Y point
  pub lies_in : LiesIn d (preimage d X f (point_region d Y point)) hs
