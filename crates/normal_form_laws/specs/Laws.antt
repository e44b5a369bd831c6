-- The laws of normal forms, each at one dimension.
use Rattle.std.specs.Prelude.{◌≡◌, ◌↔◌, ◌<◌, ℕ, List, [], length, true, Some, None, suc}
use Rattle.std.specs.List.{Any}
use Rattle.diagram_terms.specs.declared.place.Keep.TheVariants as keep
use Rattle.diagram_terms.specs.declared.label.Label.{Label}
use Rattle.diagram_terms.specs.Family.{Dia, Arr, reg, sing}
use Rattle.diagram_terms.specs.Composite.{comp, ident, identity_diagram}
use Rattle.diagram_terms.specs.Cone.{Parallel, type_over, HasLabelsBelow}
use Rattle.diagram_terms.specs.Plain.{Plain}
use Rattle.diagram_terms.specs.Points.{points}
use Rattle.diagram_terms.specs.Valid.{ValidArrow, Valid}
use Rattle.diagram_terms.specs.Degeneracy.{Degeneracy}
use Rattle.diagram_terms.specs.Least.{Leg, ValidLegs, FactorsBy, Factors, LegsFactorBy, ReducedFor, IsLeast}
use Rattle.diagram_terms.specs.Factors.{has_factor, factor, factor_through, factor_legs}
use Rattle.diagram_terms.specs.NormalForms.{normal_form, normal_diagram}
use Rattle.diagram_terms.specs.Certificates.{is_reduced, IsCertificate}
use Rattle.diagram_terms.specs.LabelsOf.{HasLabel}
use Rattle.diagram_terms.specs.SameDiagrams.{same_diagram}
use Rattle.diagram_terms.specs.Constants.{above, identity_tower, Constant}

-- where an arrow f factors through a degeneracy e, its factor is `factor_through d e f`
abbrev pub FactorsAreFound : ℕ → Type 0
FactorsAreFound d = (W R T : Dia d) (f e g : Arr d) → Degeneracy d R T e → FactorsBy d W R f e g → factor_through d e f ≡ g

-- whether it does is what `has_factor` tests
abbrev pub FactorsAreDecided : ℕ → Type 0
FactorsAreDecided d = (W R T : Dia d) (f e : Arr d) → Valid d W → ValidArrow d W T f → Degeneracy d R T e
    → (has_factor d e f ≡ true) ↔ Factors d W R f e

-- so `factor` answers the one factor exactly where there is one
abbrev pub FactorsAreAnswered : ℕ → Type 0
FactorsAreAnswered d = (W R T : Dia d) (f e g : Arr d) → Valid d W → ValidArrow d W T f → Degeneracy d R T e
    → (factor d e f ≡ Some g) ↔ FactorsBy d W R f e g

-- and none exactly where there is none
abbrev pub MissingFactorsAreAnswered : ℕ → Type 0
MissingFactorsAreAnswered d = (W R T : Dia d) (f e : Arr d) → Valid d W → ValidArrow d W T f → Degeneracy d R T e
    → (factor d e f ≡ None) ↔ (Factors d W R f e → ⊥)

-- the normal form of a valid diagram relative to valid legs is a degeneracy out of a valid diagram
abbrev pub NormalFormsAreDegeneracies : ℕ → Type 0
NormalFormsAreDegeneracies d = (T : Dia d) (legs : List (Leg d)) → Valid d T → ValidLegs d T legs
    → Valid d (normal_form keep.Free d T legs).source × Degeneracy d (normal_form keep.Free d T legs).source T (normal_form keep.Free d T legs).arrow

-- the legs factor through it by their factors
abbrev pub LegsFactorThroughNormalForms : ℕ → Type 0
LegsFactorThroughNormalForms d = (T : Dia d) (legs : List (Leg d)) → Valid d T → ValidLegs d T legs
    → LegsFactorBy d legs (normal_form keep.Free d T legs).source (normal_form keep.Free d T legs).arrow
    (factor_legs d (normal_form keep.Free d T legs).arrow legs)

-- its source is reduced for the factors
abbrev pub NormalFormsAreReduced : ℕ → Type 0
NormalFormsAreReduced d = (T : Dia d) (legs : List (Leg d)) → Valid d T → ValidLegs d T legs
    → ReducedFor keep.Free d (normal_form keep.Free d T legs).source (factor_legs d (normal_form keep.Free d T legs).arrow legs)

-- so it is the least degeneracy for the legs
abbrev pub NormalFormsAreLeast : ℕ → Type 0
NormalFormsAreLeast d = (T : Dia d) (legs : List (Leg d)) → Valid d T → ValidLegs d T legs
    → IsLeast keep.Free d T legs (normal_form keep.Free d T legs).source (normal_form keep.Free d T legs).arrow

-- each valid diagram has a least degeneracy for each list of valid legs
abbrev pub LeastExists : ℕ → Type 0
LeastExists d = (T : Dia d) (legs : List (Leg d)) → Valid d T → ValidLegs d T legs
    → (S : Dia d) × (a : Arr d) × IsLeast keep.Free d T legs S a

-- the least degeneracy for valid legs is their normal form, source and arrow
abbrev pub LeastIsNormalForm : ℕ → Type 0
LeastIsNormalForm d = (T S : Dia d) (legs : List (Leg d)) (a : Arr d) → ValidLegs d T legs → IsLeast keep.Free d T legs S a
    → record { source = S; arrow = a } ≡ normal_form keep.Free d T legs

-- its source is reduced for the factors of the legs
abbrev pub LeastIsReduced : ℕ → Type 0
LeastIsReduced d = (T S : Dia d) (legs gs : List (Leg d)) (a : Arr d) → ValidLegs d T legs → IsLeast keep.Free d T legs S a
    → LegsFactorBy d legs S a gs → ReducedFor keep.Free d S gs

-- let valid legs into T factor by gs through a degeneracy a : S → T: if S is reduced for gs, then a is the normal form,
-- and gs are the factors
abbrev pub ReducedIsNormalForm : ℕ → Type 0
ReducedIsNormalForm d = (T S : Dia d) (legs gs : List (Leg d)) (a : Arr d) → ValidLegs d T legs → Degeneracy d S T a
    → LegsFactorBy d legs S a gs → ReducedFor keep.Free d S gs
    → (record { source = S; arrow = a } ≡ normal_form keep.Free d T legs) × (gs ≡ factor_legs d a legs)

-- the normal form of a normal form relative to the factors is its identity
abbrev pub NormalFormsAreNormal : ℕ → Type 0
NormalFormsAreNormal d = (T : Dia d) (legs : List (Leg d)) → Valid d T → ValidLegs d T legs
    → normal_form keep.Free d (normal_form keep.Free d T legs).source (factor_legs d (normal_form keep.Free d T legs).arrow legs)
    ≡ record { source = (normal_form keep.Free d T legs).source; arrow = ident d (normal_form keep.Free d T legs).source }

-- what is tested of a reduced diagram decides whether it is reduced
abbrev pub ReducedIsDecided : ℕ → Type 0
ReducedIsDecided d = (S : Dia d) (gs : List (Leg d)) → (is_reduced d S gs ≡ true) ↔ ReducedFor keep.Free d S gs

-- a certificate is exactly a least degeneracy for valid legs into a valid diagram, with the factors of the legs
abbrev pub CertificatesAreExact : ℕ → Type 0
CertificatesAreExact d = (T S : Dia d) (legs gs : List (Leg d)) (a : Arr d)
    → IsCertificate d T legs S a gs ↔ (Valid d T × ValidLegs d T legs × IsLeast keep.Free d T legs S a × LegsFactorBy d legs S a gs)

-- and the normal form with the factors has one
abbrev pub NormalFormsHaveCertificates : ℕ → Type 0
NormalFormsHaveCertificates d = (T : Dia d) (legs : List (Leg d)) → Valid d T → ValidLegs d T legs
    → IsCertificate d T legs (normal_form keep.Free d T legs).source (normal_form keep.Free d T legs).arrow
    (factor_legs d (normal_form keep.Free d T legs).arrow legs)

-- ---- what the type check needs

-- both ends of a degeneracy have one normal form
abbrev pub DegeneraciesKeepNormalForms : ℕ → Type 0
DegeneraciesKeepNormalForms d = (S T : Dia d) (e : Arr d) → Degeneracy d S T e
    → normal_form keep.Free d T [] ≡ record { source = normal_diagram d S; arrow = comp d e (normal_form keep.Free d S []).arrow }

-- a diagram that is reduced for no legs, with a degeneracy into T, is the normal form of T
abbrev pub ReducedSourcesAreNormal : ℕ → Type 0
ReducedSourcesAreNormal d = (S T : Dia d) (a : Arr d) → Degeneracy d S T a → ReducedFor keep.Free d S [] → normal_diagram d T ≡ S

-- so is each normal form its own
abbrev pub NormalDiagramsAreNormal : ℕ → Type 0
NormalDiagramsAreNormal d = (T : Dia d) → Valid d T → normal_diagram d (normal_diagram d T) ≡ normal_diagram d T

-- the normal form of an identity diagram is the identity diagram of the normal form
abbrev pub IdentityDiagramsKeepNormalForms : ℕ → Type 0
IdentityDiagramsKeepNormalForms d = (M : Dia d)
    → normal_diagram (suc d) (identity_diagram d M) ≡ identity_diagram d (normal_diagram d M)

-- and so t times
abbrev pub IdentityTowersKeepNormalForms : ℕ → Type 0
IdentityTowersKeepNormalForms d = (M : Dia d) (t : ℕ)
    → normal_diagram (above d t) (identity_tower d M t) ≡ identity_tower d (normal_diagram d M) t

-- the labels of a diagram are those of its points
abbrev pub PointsHaveTheLabels : ℕ → Type 0
PointsHaveTheLabels d = (D : Dia d) (x : Label) → HasLabel d D x ↔ Any (λ p. p.label ≡ x) (points d D)

-- all of them have dimensions below n exactly if each one has
abbrev pub LabelsAreBelow : ℕ → Type 0
LabelsAreBelow d = (D : Dia d) (n : ℕ) → HasLabelsBelow n d D ↔ ((x : Label) → HasLabel d D x → x.dim < n)

-- both ends of a degeneracy have the same labels
abbrev pub DegeneraciesKeepLabels : ℕ → Type 0
DegeneraciesKeepLabels d = (S T : Dia d) (e : Arr d) → Degeneracy d S T e → (x : Label) → HasLabel d S x ↔ HasLabel d T x

-- so a valid diagram and its normal form have the same labels
abbrev pub NormalFormsKeepLabels : ℕ → Type 0
NormalFormsKeepLabels d = (T : Dia d) → Valid d T → (x : Label) → HasLabel d (normal_diagram d T) x ↔ HasLabel d T x

-- the normal form of a diagram whose slices at depth t are M, with identities between them, is that of M under t identities
abbrev pub ConstantsHaveOneNormalForm : ℕ → Type 0
ConstantsHaveOneNormalForm d = (M : Dia d) (t : ℕ) (D : Dia (above d t)) → Valid d M → Valid (above d t) D → Constant d M t D
    → normal_diagram (above d t) D ≡ identity_tower d (normal_diagram d M) t

-- the normal form of a valid diagram of length 1 has length 1 too, if its singular slice has a label that its source has
-- not
abbrev pub NewLabelsStay : ℕ → Type 0
NewLabelsStay d = (T : Dia (suc d)) (x : Label) → Valid (suc d) T → length T.sings ≡ 1 → HasLabel d (sing d T 0) x
    → (HasLabel d (reg d T 0) x → ⊥) → length (normal_diagram (suc d) T).sings ≡ 1

-- so has the normal form of the type of a generator, over parallel valid plain diagrams with labels of smaller dimensions
abbrev pub NormalTypesHaveLengthOne : ℕ → Type 0
NormalTypesHaveLengthOne d = (S T : Dia d) (x : Label) → Valid d S → Plain d S → HasLabelsBelow x.dim d S
    → Valid d T → Plain d T → HasLabelsBelow x.dim d T → Parallel d S T
    → length (normal_diagram (suc d) (type_over d S T x)).sings ≡ 1

-- whether two diagrams are the same is decided
abbrev pub SameDiagramsAreDecided : ℕ → Type 0
SameDiagramsAreDecided d = (X Y : Dia d) → (same_diagram d X Y ≡ true) ↔ (X ≡ Y)
