-- What relabelling and suspension do to regions, cuts and points.
use Rattle.std.specs.Prelude.{◌≡◌, ℕ, suc, List, [], ◌∷◌, ◌++◌}
use Rattle.diagram_terms.specs.declared.label.Label.{Label}
use Rattle.diagram_terms.specs.declared.place.Height.{Height}
use Rattle.diagram_terms.specs.declared.place.Height.TheVariants as height_kind
use Rattle.diagram_terms.specs.CarriedRegions.{relabelled_region, suspended_region}
use Rattle.diagram_terms.specs.Family.{Dia, Arr}
use Rattle.diagram_terms.specs.Valid.{ValidArrow, Valid}
use Rattle.diagram_terms.specs.Relabelling.{relabelled, relabelled_arrow, RisesWithDimension}
use Rattle.diagram_terms.specs.Suspension.{raised, suspended, suspended_arrow}
use Rattle.diagram_terms.specs.Regions.{Reg, IsRegionOf}
use Rattle.diagram_terms.specs.Paths.{IsPointOf, point_label}
use Rattle.diagram_terms.specs.Preimages.{preimage}
use Rattle.diagram_terms.specs.Cuts.{cut_arrow, cut_diagram}
use Rattle.diagram_terms.specs.Neighbourhoods.{neighbourhood}

-- o, a and r carry preimages and cuts over
pub record CarriesCutsOver (d e : ℕ) (o : Dia d → Dia e) (a : Arr d → Arr e) (r : Reg d → Reg e) : Type 0 where
  pub preimages : (X Y : Dia d) (f : Arr d) (W : Reg d) → Valid d X → Valid d Y → ValidArrow d X Y f → IsRegionOf d Y W
      → preimage e (o X) (a f) (r W) ≡ r (preimage d X f W)
  pub diagrams : (X : Dia d) (W : Reg d) → Valid d X → IsRegionOf d X W → cut_diagram e (o X) (r W) ≡ o (cut_diagram d X W)
  pub arrows : (X Y : Dia d) (f : Arr d) (W : Reg d) → Valid d X → Valid d Y → ValidArrow d X Y f → IsRegionOf d Y W
      → cut_arrow e (a f) (r W) ≡ a (cut_arrow d f W)

-- relabelling does so
abbrev pub RelabellingCarriesCutsOver : ℕ → Type 0
RelabellingCarriesCutsOver d = (image : Label → Label) → RisesWithDimension image
    → CarriesCutsOver d d (relabelled image d) (relabelled_arrow image d) (relabelled_region d)

-- and suspension
abbrev pub SuspensionCarriesCutsOver : ℕ → Type 0
SuspensionCarriesCutsOver d = CarriesCutsOver d (suc d) (suspended d) (suspended_arrow d) (suspended_region d)

-- the point hs of the relabelled diagram is one of the diagram itself: its neighbourhood and its label are relabelled
pub record IsRelabelledPoint (image : Label → Label) (d : ℕ) (X : Dia d) (hs : List Height) : Type 0 where
  pub is_point : IsPointOf d X hs
  pub neighbourhood : neighbourhood d (relabelled image d X) hs ≡ relabelled image d (neighbourhood d X hs)
  pub label : point_label d (relabelled image d X) hs ≡ image (point_label d X hs)

abbrev pub RelabelledPoints : ℕ → Type 0
RelabelledPoints d = (image : Label → Label) (X : Dia d) (hs : List Height) → RisesWithDimension image → Valid d X
    → IsPointOf d (relabelled image d X) hs → IsRelabelledPoint image d X hs

-- at the singular height over a point of X the suspended diagram has the suspended neighbourhood and the raised label
pub record IsSuspendedPoint (d : ℕ) (X : Dia d) (hs : List Height) : Type 0 where
  pub is_point : IsPointOf (suc d) (suspended d X) (hs ++ height_kind.S 0 ∷ [])
  pub neighbourhood : neighbourhood (suc d) (suspended d X) (hs ++ height_kind.S 0 ∷ []) ≡ suspended d (neighbourhood d X hs)
  pub label : point_label (suc d) (suspended d X) (hs ++ height_kind.S 0 ∷ []) ≡ raised (point_label d X hs)

abbrev pub SuspendedPoints : ℕ → Type 0
SuspendedPoints d = (X : Dia d) (hs : List Height) → Valid d X → IsPointOf d X hs → IsSuspendedPoint d X hs
