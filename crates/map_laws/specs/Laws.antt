-- The laws of identities and composites, each at one dimension.
use Rattle.std.specs.Prelude.{◌≡◌, ◌↔◌, ◌≤◌, ℕ, suc}
use Rattle.diagram_terms.specs.Family.{Dia, Arr}
use Rattle.diagram_terms.specs.Dual.{dual}
use Rattle.diagram_terms.specs.Composite.{comp, ident}
use Rattle.diagram_terms.specs.Identity.{IsIdentity}
use Rattle.diagram_terms.specs.Plain.{PlainArrow}
use Rattle.diagram_terms.specs.Valid.{ValidArrow, Valid, Commutes}
use Rattle.map_laws.specs.Edges.{HasEdges}

-- for valid arrows W → X → Y → Z
abbrev pub CompositionIsAssociative : ℕ → Type 0
CompositionIsAssociative d = (W X Y Z : Dia d) (f g h : Arr d)
    → ValidArrow d W X f → ValidArrow d X Y g → ValidArrow d Y Z h
    → comp d h (comp d g f) ≡ comp d (comp d h g) f

-- the composite of valid arrows X → Y → Z between valid diagrams is valid
abbrev pub CompositesAreValid : ℕ → Type 0
CompositesAreValid d = (X Y Z : Dia d) (f g : Arr d) → Valid d X → Valid d Y → Valid d Z
    → ValidArrow d X Y f → ValidArrow d Y Z g → ValidArrow d X Z (comp d g f)

-- the identity of a valid diagram is valid
abbrev pub IdentitiesAreValid : ℕ → Type 0
IdentitiesAreValid d = (X : Dia d) → Valid d X → ValidArrow d X X (ident d X)

-- an identity is neutral after a valid arrow into its diagram, and before one out of it
abbrev pub IdentitiesAreNeutralAfter : ℕ → Type 0
IdentitiesAreNeutralAfter d = (X Y : Dia d) (f : Arr d) → Valid d Y → ValidArrow d X Y f → comp d (ident d Y) f ≡ f

abbrev pub IdentitiesAreNeutralBefore : ℕ → Type 0
IdentitiesAreNeutralBefore d = (X Y : Dia d) (f : Arr d) → Valid d X → ValidArrow d X Y f → comp d f (ident d X) ≡ f

-- the identity of a valid diagram has the shape of an identity
abbrev pub IdentitiesHaveShape : ℕ → Type 0
IdentitiesHaveShape d = (X : Dia d) → Valid d X → IsIdentity d (ident d X)

-- a valid arrow of that shape has one diagram at both ends, and is its identity
abbrev pub ShapeMeansIdentity : ℕ → Type 0
ShapeMeansIdentity d = (X Y : Dia d) (f : Arr d) → Valid d X → Valid d Y → ValidArrow d X Y f
    → IsIdentity d f → (X ≡ Y) × (f ≡ ident d X)

-- the composite of valid identities is an identity
abbrev pub IdentitiesCompose : ℕ → Type 0
IdentitiesCompose d = (X Y Z : Dia d) (f g : Arr d) → ValidArrow d X Y f → ValidArrow d Y Z g
    → IsIdentity d f → IsIdentity d g → IsIdentity d (comp d g f)

-- a square over heights that do not fall commutes exactly if it has edges
abbrev pub SquaresHaveEdges : ℕ → Type 0
SquaresHaveEdges d = (X Y : Dia (suc d)) (f : Arr (suc d)) (k : ℕ) → dual f.heights k ≤ dual f.heights (suc k)
    → Commutes d X Y f k ↔ HasEdges d X Y f k

-- a valid arrow with a valid inverse is an identity
abbrev pub InvertibleMeansIdentity : ℕ → Type 0
InvertibleMeansIdentity d = (X Y : Dia d) (f g : Arr d) → Valid d X → Valid d Y
    → ValidArrow d X Y f → ValidArrow d Y X g → comp d g f ≡ ident d X → comp d f g ≡ ident d Y
    → IsIdentity d f

-- an identity is plain
abbrev pub IdentitiesArePlain : ℕ → Type 0
IdentitiesArePlain d = (f : Arr d) → IsIdentity d f → PlainArrow d f

-- the composite of valid plain arrows is plain
abbrev pub PlainArrowsCompose : ℕ → Type 0
PlainArrowsCompose d = (X Y Z : Dia d) (f g : Arr d) → ValidArrow d X Y f → ValidArrow d Y Z g
    → PlainArrow d f → PlainArrow d g → PlainArrow d (comp d g f)
