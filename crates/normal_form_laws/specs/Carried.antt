-- What relabelling and suspension keep.
use Rattle.std.specs.Prelude.{◌≡◌, ℕ, suc, List}
use Rattle.diagram_terms.specs.declared.place.Keep.TheVariants as keep
use Rattle.diagram_terms.specs.declared.label.Label.{Label}
use Rattle.diagram_terms.specs.Composite.{comp, ident}
use Rattle.diagram_terms.specs.Degeneracy.{Degeneracy}
use Rattle.diagram_terms.specs.Family.{Dia, Arr}
use Rattle.diagram_terms.specs.Identity.{IsIdentity}
use Rattle.diagram_terms.specs.Least.{Leg, ValidLegs, ReducedFor}
use Rattle.diagram_terms.specs.NormalForms.{normal_form}
use Rattle.diagram_terms.specs.Plain.{PlainArrow, Plain}
use Rattle.diagram_terms.specs.Relabelling.{relabelled, relabelled_arrow, RisesWithDimension}
use Rattle.diagram_terms.specs.SliceMaps.{on_leg, on_legs}
use Rattle.diagram_terms.specs.Suspension.{suspended, suspended_arrow}
use Rattle.diagram_terms.specs.Valid.{ValidArrow, Valid}

-- o and a keep validity, identities, composites, plainness, degeneracies, what is reduced, and so normal forms; and only
-- identities become identities
pub record CarriesOver (d e : ℕ) (o : Dia d → Dia e) (a : Arr d → Arr e) : Type 0 where
  pub diagrams : (X : Dia d) → Valid d X → Valid e (o X)
  pub arrows : (X Y : Dia d) (f : Arr d) → Valid d X → Valid d Y → ValidArrow d X Y f → ValidArrow e (o X) (o Y) (a f)
  pub identities : (X : Dia d) → a (ident d X) ≡ ident e (o X)
  pub composites : (X Y Z : Dia d) (f g : Arr d) → ValidArrow d X Y f → ValidArrow d Y Z g → a (comp d g f) ≡ comp e (a g) (a f)
  pub only_identities : (X Y : Dia d) (f : Arr d) → ValidArrow d X Y f → IsIdentity e (a f) → IsIdentity d f
  pub plain_arrows : (f : Arr d) → PlainArrow d f → PlainArrow e (a f)
  pub plain_diagrams : (X : Dia d) → Plain d X → Plain e (o X)
  pub degeneracies : (X Y : Dia d) (f : Arr d) → Degeneracy d X Y f → Degeneracy e (o X) (o Y) (a f)
  pub reduced : (X : Dia d) (gs : List (Leg d)) → Valid d X → ValidLegs d X gs → ReducedFor keep.Free d X gs
      → ReducedFor keep.Free e (o X) (on_legs d e o a gs)
  pub plain_reduced : (X : Dia d) (gs : List (Leg d)) → Valid d X → ValidLegs d X gs → ReducedFor keep.Plain d X gs
      → ReducedFor keep.Plain e (o X) (on_legs d e o a gs)
  pub normal_forms : (T : Dia d) (legs : List (Leg d)) → Valid d T → ValidLegs d T legs
      → normal_form keep.Free e (o T) (on_legs d e o a legs) ≡ on_leg d e o a (normal_form keep.Free d T legs)
  pub plain_forms : (T : Dia d) (legs : List (Leg d)) → Valid d T → Plain d T → ValidLegs d T legs
      → normal_form keep.Plain e (o T) (on_legs d e o a legs) ≡ on_leg d e o a (normal_form keep.Plain d T legs)

-- relabelling by a map under which greater dimensions stay greater does so
abbrev pub RelabellingCarriesOver : ℕ → Type 0
RelabellingCarriesOver d = (image : Label → Label) → RisesWithDimension image
    → CarriesOver d d (relabelled image d) (relabelled_arrow image d)

-- and suspension
abbrev pub SuspensionCarriesOver : ℕ → Type 0
SuspensionCarriesOver d = CarriesOver d (suc d) (suspended d) (suspended_arrow d)
