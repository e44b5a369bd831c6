-- The laws of degeneracies, factors and least degeneracies, each at one dimension.
use Rattle.std.specs.Prelude.{◌≡◌, ℕ, List, suc}
use Rattle.diagram_terms.specs.declared.place.Keep.TheVariants as keep
use Rattle.diagram_terms.specs.Family.{Dia, Arr}
use Rattle.diagram_terms.specs.Composite.{comp, ident}
use Rattle.diagram_terms.specs.Valid.{ValidArrow, Valid}
use Rattle.diagram_terms.specs.Degeneracy.{Degeneracy, DegeneracyByShape, SplitsInto}
use Rattle.diagram_terms.specs.Least.{Leg, ValidLegs, FactorsBy, LegsFactorBy, ReducedFor, IsLeast}

-- a degeneracy is a valid arrow between valid diagrams
abbrev pub DegeneraciesAreValid : ℕ → Type 0
DegeneraciesAreValid d = (X Y : Dia d) (e : Arr d) → Degeneracy d X Y e → Valid d X × Valid d Y × ValidArrow d X Y e

-- a degeneracy has the shape of one
abbrev pub DegeneraciesHaveShape : ℕ → Type 0
DegeneraciesHaveShape d = (X Y : Dia d) (e : Arr d) → Degeneracy d X Y e → DegeneracyByShape d X Y e

-- an arrow of that shape between valid diagrams is a degeneracy
abbrev pub ShapeMeansDegeneracy : ℕ → Type 0
ShapeMeansDegeneracy d = (X Y : Dia d) (e : Arr d) → Valid d X → Valid d Y → DegeneracyByShape d X Y e → Degeneracy d X Y e

-- the identity of a valid diagram is a degeneracy
abbrev pub IdentitiesAreDegeneracies : ℕ → Type 0
IdentitiesAreDegeneracies d = (X : Dia d) → Valid d X → Degeneracy d X X (ident d X)

-- the composite of degeneracies X → Y → Z is one
abbrev pub DegeneraciesCompose : ℕ → Type 0
DegeneraciesCompose d = (X Y Z : Dia d) (f g : Arr d) → Degeneracy d X Y f → Degeneracy d Y Z g → Degeneracy d X Z (comp d g f)

-- for a degeneracy e out of X and valid arrows g, h into X: if e g is e h, then g is h
abbrev pub DegeneraciesAreMono : ℕ → Type 0
DegeneraciesAreMono d = (W X Y : Dia d) (e g h : Arr d) → Degeneracy d X Y e → ValidArrow d W X g → ValidArrow d W X h
    → comp d e g ≡ comp d e h → g ≡ h

-- an arrow factors through a degeneracy by one arrow at most
abbrev pub FactorsAreUnique : ℕ → Type 0
FactorsAreUnique d = (W X Y : Dia d) (f e g h : Arr d) → Degeneracy d X Y e → FactorsBy d W X f e g → FactorsBy d W X f e h → g ≡ h

-- for a degeneracy e and a valid arrow g: if e g is a degeneracy, then g is one
abbrev pub FirstPartsAreDegeneracies : ℕ → Type 0
FirstPartsAreDegeneracies d = (X Y Z : Dia d) (g e : Arr d) → ValidArrow d X Y g → Degeneracy d Y Z e
    → Degeneracy d X Z (comp d e g) → Degeneracy d X Y g

-- a degeneracy above dimension 0 is a simple arrow followed by a parallel one
abbrev pub DegeneraciesSplit : ℕ → Type 0
DegeneraciesSplit d = (X Y : Dia (suc d)) (e : Arr (suc d)) → Degeneracy (suc d) X Y e
    → (M : Dia (suc d)) × (s : Arr (suc d)) × (p : Arr (suc d)) × SplitsInto d X Y e M s p

-- in one way only
abbrev pub DegeneraciesSplitOnce : ℕ → Type 0
DegeneraciesSplitOnce d = (X Y M N : Dia (suc d)) (e s p t q : Arr (suc d)) → Valid (suc d) X → Valid (suc d) Y
    → SplitsInto d X Y e M s p → SplitsInto d X Y e N t q → (M ≡ N) × (s ≡ t) × (p ≡ q)

-- let valid legs into T factor by gs through a degeneracy a : S → T: if S is reduced for gs, then a is the least
abbrev pub ReducedMeansLeast : ℕ → Type 0
ReducedMeansLeast d = (T S : Dia d) (legs gs : List (Leg d)) (a : Arr d) → ValidLegs d T legs → Degeneracy d S T a
    → LegsFactorBy d legs S a gs → ReducedFor keep.Free d S gs → IsLeast keep.Free d T legs S a

-- two least degeneracies for the same legs have one source and are one arrow
abbrev pub LeastIsUnique : ℕ → Type 0
LeastIsUnique d = (T R S : Dia d) (legs : List (Leg d)) (a b : Arr d) → IsLeast keep.Free d T legs R a → IsLeast keep.Free d T legs S b
    → (R ≡ S) × (a ≡ b)

-- let the legs factor by gs through their least degeneracy a : S → T: the identity of S is the least one for gs
abbrev pub LeastOfFactorsIsIdentity : ℕ → Type 0
LeastOfFactorsIsIdentity d = (T S : Dia d) (legs gs : List (Leg d)) (a : Arr d) → IsLeast keep.Free d T legs S a
    → LegsFactorBy d legs S a gs → IsLeast keep.Free d S gs S (ident d S)
