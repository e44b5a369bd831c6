-- The laws of plain degeneracies and plain normal forms, each at one dimension.
use Rattle.std.specs.Prelude.{◌≡◌, ℕ, List, []}
use Rattle.diagram_terms.specs.declared.place.Keep.TheVariants as keep
use Rattle.diagram_terms.specs.Family.{Dia, Arr}
use Rattle.diagram_terms.specs.Composite.{comp, ident}
use Rattle.diagram_terms.specs.Plain.{Plain}
use Rattle.diagram_terms.specs.Valid.{ValidArrow, Valid}
use Rattle.diagram_terms.specs.Least.{Leg, ValidLegs, LegsFactorBy, PlainDegeneracy, IsLeast, ReducedFor}
use Rattle.diagram_terms.specs.Factors.{factor_legs}
use Rattle.diagram_terms.specs.NormalForms.{normal_form}

-- the identity of a valid diagram is a plain degeneracy
abbrev pub IdentitiesArePlainDegeneracies : ℕ → Type 0
IdentitiesArePlainDegeneracies d = (X : Dia d) → Valid d X → PlainDegeneracy d X X (ident d X)

-- the composite of plain degeneracies X → Y → Z is one
abbrev pub PlainDegeneraciesCompose : ℕ → Type 0
PlainDegeneraciesCompose d = (X Y Z : Dia d) (f g : Arr d) → PlainDegeneracy d X Y f → PlainDegeneracy d Y Z g
    → PlainDegeneracy d X Z (comp d g f)

-- for a plain degeneracy e and a valid arrow g: if e g is a plain degeneracy, then g is one
abbrev pub PlainFirstPartsAreDegeneracies : ℕ → Type 0
PlainFirstPartsAreDegeneracies d = (X Y Z : Dia d) (g e : Arr d) → ValidArrow d X Y g → PlainDegeneracy d Y Z e
    → PlainDegeneracy d X Z (comp d e g) → PlainDegeneracy d X Y g

-- the source of a plain degeneracy into a plain diagram is plain
abbrev pub PlainSourcesArePlain : ℕ → Type 0
PlainSourcesArePlain d = (S T : Dia d) (a : Arr d) → PlainDegeneracy d S T a → Plain d T → Plain d S

-- let valid legs into a plain T factor by gs through a plain degeneracy a : S → T: if S is reduced for gs, its regular
-- slices left alone, then a is the least plain one
abbrev pub PlainReducedMeansLeast : ℕ → Type 0
PlainReducedMeansLeast d = (T S : Dia d) (legs gs : List (Leg d)) (a : Arr d) → Plain d T → ValidLegs d T legs
    → PlainDegeneracy d S T a → LegsFactorBy d legs S a gs → ReducedFor keep.Plain d S gs → IsLeast keep.Plain d T legs S a

-- two least plain degeneracies for the same legs have one source and are one arrow
abbrev pub PlainLeastIsUnique : ℕ → Type 0
PlainLeastIsUnique d = (T R S : Dia d) (legs : List (Leg d)) (a b : Arr d) → IsLeast keep.Plain d T legs R a → IsLeast keep.Plain d T legs S b
    → (R ≡ S) × (a ≡ b)

-- let the legs into a plain T factor by gs through their least plain degeneracy a : S → T: the identity of S is the least
-- plain one for gs
abbrev pub PlainLeastOfFactorsIsIdentity : ℕ → Type 0
PlainLeastOfFactorsIsIdentity d = (T S : Dia d) (legs gs : List (Leg d)) (a : Arr d) → Plain d T → ValidLegs d T legs
    → IsLeast keep.Plain d T legs S a → LegsFactorBy d legs S a gs → IsLeast keep.Plain d S gs S (ident d S)

-- the plain normal form of a valid plain diagram relative to valid legs is a plain degeneracy out of a valid plain diagram
abbrev pub PlainFormsAreDegeneracies : ℕ → Type 0
PlainFormsAreDegeneracies d = (T : Dia d) (legs : List (Leg d)) → Valid d T → Plain d T → ValidLegs d T legs
    → Valid d (normal_form keep.Plain d T legs).source × Plain d (normal_form keep.Plain d T legs).source
    × PlainDegeneracy d (normal_form keep.Plain d T legs).source T (normal_form keep.Plain d T legs).arrow

-- the legs factor through it by their factors
abbrev pub LegsFactorThroughPlainForms : ℕ → Type 0
LegsFactorThroughPlainForms d = (T : Dia d) (legs : List (Leg d)) → Valid d T → Plain d T → ValidLegs d T legs
    → LegsFactorBy d legs (normal_form keep.Plain d T legs).source (normal_form keep.Plain d T legs).arrow
    (factor_legs d (normal_form keep.Plain d T legs).arrow legs)

-- its source is reduced for the factors, its regular slices left alone
abbrev pub PlainFormsAreReduced : ℕ → Type 0
PlainFormsAreReduced d = (T : Dia d) (legs : List (Leg d)) → Valid d T → Plain d T → ValidLegs d T legs
    → ReducedFor keep.Plain d (normal_form keep.Plain d T legs).source (factor_legs d (normal_form keep.Plain d T legs).arrow legs)

-- so it is the least plain degeneracy for the legs
abbrev pub PlainFormsAreLeast : ℕ → Type 0
PlainFormsAreLeast d = (T : Dia d) (legs : List (Leg d)) → Valid d T → Plain d T → ValidLegs d T legs
    → IsLeast keep.Plain d T legs (normal_form keep.Plain d T legs).source (normal_form keep.Plain d T legs).arrow

-- each valid plain diagram has a least plain degeneracy for each list of valid legs
abbrev pub PlainLeastExists : ℕ → Type 0
PlainLeastExists d = (T : Dia d) (legs : List (Leg d)) → Valid d T → Plain d T → ValidLegs d T legs
    → (S : Dia d) × (a : Arr d) × IsLeast keep.Plain d T legs S a

-- the least plain degeneracy for valid legs is their plain normal form, source and arrow
abbrev pub PlainLeastIsPlainForm : ℕ → Type 0
PlainLeastIsPlainForm d = (T S : Dia d) (legs : List (Leg d)) (a : Arr d) → Plain d T → ValidLegs d T legs → IsLeast keep.Plain d T legs S a
    → record { source = S; arrow = a } ≡ normal_form keep.Plain d T legs

-- its source is reduced for the factors of the legs, its regular slices left alone
abbrev pub PlainLeastIsReduced : ℕ → Type 0
PlainLeastIsReduced d = (T S : Dia d) (legs gs : List (Leg d)) (a : Arr d) → Plain d T → ValidLegs d T legs → IsLeast keep.Plain d T legs S a
    → LegsFactorBy d legs S a gs → ReducedFor keep.Plain d S gs

-- let valid legs into a plain T factor by gs through a plain degeneracy a : S → T: if S is reduced for gs, its regular
-- slices left alone, then a is the plain normal form, and gs are the factors
abbrev pub PlainReducedIsPlainForm : ℕ → Type 0
PlainReducedIsPlainForm d = (T S : Dia d) (legs gs : List (Leg d)) (a : Arr d) → Plain d T → ValidLegs d T legs
    → PlainDegeneracy d S T a → LegsFactorBy d legs S a gs → ReducedFor keep.Plain d S gs
    → (record { source = S; arrow = a } ≡ normal_form keep.Plain d T legs) × (gs ≡ factor_legs d a legs)

-- T has to be plain there: a valid T with no legs is reduced, its regular slices left alone, and its identity is no least
-- plain degeneracy
pub record IsReducedButNotLeast (d : ℕ) (T : Dia d) : Type 0 where
  pub valid : Valid d T
  pub reduced : ReducedFor keep.Plain d T []
  pub not_least : IsLeast keep.Plain d T [] T (ident d T) → ⊥

abbrev pub PlainTargetsAreNeeded : Type 0
PlainTargetsAreNeeded = (T : Dia 3) × IsReducedButNotLeast 3 T
