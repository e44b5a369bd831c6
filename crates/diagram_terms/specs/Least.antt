-- Legs and their factors, reduced diagrams, and the least degeneracy.
use Rattle.std.specs.Prelude.{◌≡◌, ◌⊎◌, ℕ, ◌<◌, ◌≤◌, List, length, get_or, zero, suc}
use Rattle.diagram_terms.specs.declared.place.Keep.{Keep}
use Rattle.diagram_terms.specs.declared.place.Keep.TheVariants as keep
use Rattle.diagram_terms.specs.Family.{Dia, Arr, no_dia, no_arr, reg, sing, fwd, bwd, height, arrow_reg, arrow_sing}
use Rattle.diagram_terms.specs.Dual.{dual}
use Rattle.diagram_terms.specs.Composite.{comp}
use Rattle.diagram_terms.specs.Identity.{IsIdentity}
use Rattle.diagram_terms.specs.Plain.{PlainArrow}
use Rattle.diagram_terms.specs.Valid.{ValidArrow, Valid}
use Rattle.diagram_terms.specs.Degeneracy.{Degeneracy}

-- a leg into a diagram: an arrow with its source
pub record Leg (d : ℕ) : Type 0 where
  pub source : Dia d
  pub arrow : Arr d

-- the leg at i of a list
abbrev pub leg_at : (d : ℕ) → List (Leg d) → ℕ → Leg d
leg_at d legs i = get_or legs i (record { source = no_dia d; arrow = no_arr d })

-- g is a valid leg into T out of a valid diagram
pub record ValidLeg (d : ℕ) (T : Dia d) (g : Leg d) : Type 0 where
  pub source : Valid d g.source
  pub arrow : ValidArrow d g.source T g.arrow

-- each of the legs is such a leg into T
abbrev pub ValidLegs : (d : ℕ) → Dia d → List (Leg d) → Type 0
ValidLegs d T legs = (i : ℕ) → i < length legs → ValidLeg d T (leg_at d legs i)

-- f : X → T factors through e : R → T by g: g : X → R is valid, and e g is f
pub record FactorsBy (d : ℕ) (X R : Dia d) (f e g : Arr d) : Type 0 where
  pub valid : ValidArrow d X R g
  pub composite : comp d e g ≡ f

-- f : X → T factors through e : R → T
abbrev pub Factors : (d : ℕ) → Dia d → Dia d → Arr d → Arr d → Type 0
Factors d X R f e = (g : Arr d) × FactorsBy d X R f e g

-- each of the legs factors through e : R → T
abbrev pub LegsFactor : (d : ℕ) → List (Leg d) → Dia d → Arr d → Type 0
LegsFactor d legs R e = (i : ℕ) → i < length legs → Factors d (leg_at d legs i).source R (leg_at d legs i).arrow e

-- the legs factor through e : R → T by the legs gs into R, in their order
pub record LegsFactorBy (d : ℕ) (legs : List (Leg d)) (R : Dia d) (e : Arr d) (gs : List (Leg d)) : Type 0 where
  pub count : length gs ≡ length legs
  pub sources : (i : ℕ) → i < length legs → (leg_at d gs i).source ≡ (leg_at d legs i).source
  pub factors : (i : ℕ) → i < length legs
      → FactorsBy d (leg_at d legs i).source R (leg_at d legs i).arrow e (leg_at d gs i).arrow

-- a degeneracy that is plain
pub record PlainDegeneracy (d : ℕ) (S T : Dia d) (a : Arr d) : Type 0 where
  pub degeneracy : Degeneracy d S T a
  pub plain : PlainArrow d a

-- the degeneracies that are allowed: every one, or the plain ones alone
abbrev pub Allowed : Keep → (d : ℕ) → Dia d → Dia d → Arr d → Type 0
Allowed keep.Free d S T a = Degeneracy d S T a
Allowed keep.Plain d S T a = PlainDegeneracy d S T a

-- a : S → T is the least degeneracy for the legs into T: an allowed one through which all legs factor, and which factors
-- through every allowed degeneracy e : R → T through which all legs factor
pub record IsLeast (kept : Keep) (d : ℕ) (T : Dia d) (legs : List (Leg d)) (S : Dia d) (a : Arr d) : Type 0 where
  pub valid : Valid d S
  pub degeneracy : Allowed kept d S T a
  pub legs_factor : LegsFactor d legs S a
  pub factors : (R : Dia d) (e : Arr d) → Valid d R → Allowed kept d R T e → LegsFactor d legs R e → Factors d S R a e

-- the slices of a leg g at a regular height j of its target, and at a height i of its source
abbrev pub reg_leg : (d : ℕ) → Leg (suc d) → ℕ → Leg d
reg_leg d g j = record { source = reg d g.source (dual g.arrow.heights j); arrow = arrow_reg d g.arrow j }

abbrev pub sing_leg : (d : ℕ) → Leg (suc d) → ℕ → Leg d
sing_leg d g i = record { source = sing d g.source i; arrow = arrow_sing d g.arrow i }

-- the legs fwd and bwd of S at k
abbrev pub fwd_leg : (d : ℕ) → Dia (suc d) → ℕ → Leg d
fwd_leg d S k = record { source = reg d S k; arrow = fwd d S k }

abbrev pub bwd_leg : (d : ℕ) → Dia (suc d) → ℕ → Leg d
bwd_leg d S k = record { source = reg d S (suc k); arrow = bwd d S k }

-- the height i of a leg g of which G speaks goes to k
pub record Hits (d : ℕ) (G : Leg (suc d) → Type 0) (k : ℕ) : Type 0 where
  pub g : Leg (suc d)
  pub is_leg : G g
  pub i : ℕ
  pub within : i < length g.source.sings
  pub goes : height d g.arrow i ≡ k

-- b is a slice g.r(j) of a leg g of which G speaks
abbrev pub IsRegularSlice : (d : ℕ) → (Leg (suc d) → Type 0) → ℕ → Leg d → Type 0
IsRegularSlice d G j b = (g : Leg (suc d)) × G g × (b ≡ reg_leg d g j)

-- b is a slice g.s(i) of a leg g of which G speaks, where i goes to k
abbrev pub IsSliceOver : (d : ℕ) → (Leg (suc d) → Type 0) → ℕ → Leg d → Type 0
IsSliceOver d G k b = (h : Hits d G k) × (b ≡ sing_leg d h.g h.i)

-- b is such a slice, or S.fwd(k), or S.bwd(k)
abbrev pub LeadsInto : (d : ℕ) → Dia (suc d) → (Leg (suc d) → Type 0) → ℕ → Leg d → Type 0
LeadsInto d S G k b = IsSliceOver d G k b ⊎ ((b ≡ fwd_leg d S k) ⊎ (b ≡ bwd_leg d S k))

-- what is asked where every degeneracy is allowed; where the regular slices are kept it is not
abbrev pub WhereFree : Keep → Type 0 → Type 0
WhereFree keep.Free A = A
WhereFree keep.Plain A = Unit {0}

-- one level of a reduced diagram S for the legs of which G speaks, where R says which slices are reduced for which legs
pub record ReducedZig (kept : Keep) (d : ℕ) (R : Dia d → (Leg d → Type 0) → Type 0) (S : Dia (suc d)) (G : Leg (suc d) → Type 0) : Type 0 where
  pub regs : WhereFree kept ((j : ℕ) → j ≤ length S.sings → R (reg d S j) (λ b. IsRegularSlice d G j b))
  pub sings : (k : ℕ) → k < length S.sings → R (sing d S k) (λ b. LeadsInto d S G k b)
  -- where both legs are identities
  pub hit : (k : ℕ) → k < length S.sings → IsIdentity d (fwd d S k) → IsIdentity d (bwd d S k) → Hits d G k

-- S is reduced for the legs of which G speaks
abbrev pub Reduced : Keep → (d : ℕ) → Dia d → (Leg d → Type 0) → Type 0
Reduced kept zero S G = Unit {0}
Reduced kept (suc d) S G = ReducedZig kept d (Reduced kept d) S G

-- g is one of the legs of a list
abbrev pub IsOneOf : (d : ℕ) → List (Leg d) → Leg d → Type 0
IsOneOf d gs g = (i : ℕ) × (i < length gs) × (g ≡ leg_at d gs i)

-- S is reduced for the legs gs into S
abbrev pub ReducedFor : Keep → (d : ℕ) → Dia d → List (Leg d) → Type 0
ReducedFor kept d S gs = Reduced kept d S (λ g. IsOneOf d gs g)
