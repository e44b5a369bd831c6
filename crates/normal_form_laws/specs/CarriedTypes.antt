-- Relabelling and suspension of cones and of the types of generators.
use Rattle.std.specs.Prelude.{◌≡◌, ℕ, suc}
use Rattle.diagram_terms.specs.declared.label.Label.{Label}
use Rattle.diagram_terms.specs.Family.{Dia, Arr}
use Rattle.diagram_terms.specs.Valid.{Valid}
use Rattle.diagram_terms.specs.Cone.{Parallel, cone, mid, type_over, HasLabelsBelow}
use Rattle.diagram_terms.specs.Relabelling.{relabelled, relabelled_arrow, RisesWithDimension}
use Rattle.diagram_terms.specs.Suspension.{north, south, raised, suspended, suspended_arrow}

-- o and a carry the cone over D with x to the cone over the image of D with the image of x, parallel diagrams to parallel
-- ones, and diagrams whose labels have smaller dimensions than x to such diagrams
pub record CarriesConesOver (d e : ℕ) (o : Dia d → Dia e) (a : Arr d → Arr e) (image : Label → Label) : Type 0 where
  pub cones : (D : Dia d) (x : Label) → Valid d D → a (cone d D x) ≡ cone e (o D) (image x)
  pub mids : (D : Dia d) (x : Label) → Valid d D → o (mid d D x) ≡ mid e (o D) (image x)
  pub parallel : (S T : Dia d) → Valid d S → Valid d T → Parallel d S T → Parallel e (o S) (o T)
  pub below : (D : Dia d) (x : Label) → Valid d D → HasLabelsBelow x.dim d D → HasLabelsBelow (image x).dim e (o D)

abbrev pub RelabellingCarriesConesOver : ℕ → Type 0
RelabellingCarriesConesOver d = (image : Label → Label) → RisesWithDimension image
    → CarriesConesOver d d (relabelled image d) (relabelled_arrow image d) image

abbrev pub SuspensionCarriesConesOver : ℕ → Type 0
SuspensionCarriesConesOver d = CarriesConesOver d (suc d) (suspended d) (suspended_arrow d) raised

-- the type over relabelled diagrams is the relabelled type
abbrev pub RelabellingKeepsTypes : ℕ → Type 0
RelabellingKeepsTypes d = (image : Label → Label) → RisesWithDimension image → (S T : Dia d) (x : Label) → Valid d S → Valid d T
    → relabelled image (suc d) (type_over d S T x) ≡ type_over d (relabelled image d S) (relabelled image d T) (image x)

-- the type over suspended diagrams is the suspended type
abbrev pub SuspensionKeepsTypes : ℕ → Type 0
SuspensionKeepsTypes d = (S T : Dia d) (x : Label) → Valid d S → Valid d T
    → suspended (suc d) (type_over d S T x) ≡ type_over (suc d) (suspended d S) (suspended d T) (raised x)

-- a suspended label is the type over the two new labels
abbrev pub SuspendedLabelsAreTypes : Type 0
SuspendedLabelsAreTypes = (x : Label) → suspended 0 x ≡ type_over 0 north south (raised x)
