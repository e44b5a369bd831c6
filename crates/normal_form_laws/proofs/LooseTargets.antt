-- A valid diagram T that is not plain: its identity is a plain degeneracy with a reduced source, and not the least one. T
-- is Id Id x -> Id U <- Id Id x over U = x -> x <- x, and both its legs leave out the height of U.
use Rattle.std.proofs.Common.{◌≡◌, ℕ, zero, suc, ◌<◌, ◌≤◌, [], ◌∷◌, false, refl, sym, ◌∙◌, subst, arith, inl}
use Rattle.std.proofs.lemmas.Bool.{true≢false}
use Rattle.diagram_terms.specs.declared.place.Keep.TheVariants as keep
use Rattle.diagram_terms.specs.declared.label.Label.{Label}
use Rattle.diagram_terms.specs.Family.{Ends, Dia, Arr, no_arr, reg, sing, fwd, bwd, arrow_reg}
use Rattle.diagram_terms.specs.Dual.{dual}
use Rattle.diagram_terms.specs.Composite.{comp, ident, identity_diagram}
use Rattle.diagram_terms.specs.Identity.{IsIdentity}
use Rattle.diagram_terms.specs.Plain.{PlainArrow}
use Rattle.diagram_terms.specs.Valid.{ValidArrow, Valid, Commutes}
use Rattle.diagram_terms.specs.Degeneracy.{DegeneracyByShape}
use Rattle.diagram_terms.specs.Least.{Factors, LeadsInto, IsOneOf, Reduced, ReducedFor, IsLeast}
use Rattle.diagram_terms.proofs.Duals.{dual-nil}
use Rattle.diagram_terms.proofs.Injections.{increasing-nil, increasing_mono}
use Rattle.map_laws.proofs.IdentityShapes.{identities_have_shape}
use Rattle.map_laws.proofs.Neutral.{neutral_before}
use Rattle.map_laws.proofs.ValidIdentities.{identities_are_valid}
use Rattle.degeneracy_laws.proofs.ShapeComposites.{shape_valid, identity_shape}
use Rattle.degeneracy_laws.proofs.Splits.{shape_means_degeneracy}
use Rattle.diagram_terms.specs.Constants.{Constant}
use Rattle.diagram_terms.specs.Factors.{has_factor}
use Rattle.normal_form_laws.specs.PlainLaws.{PlainTargetsAreNeeded}
use Rattle.normal_form_laws.proofs.ConstantForms.{into, into_shape, tower_valid}
use Rattle.normal_form_laws.proofs.DecidedFactors.{factors_are_decided}

abbrev x : Label
x = record { number = 0; dim = 0 }

abbrev i : Ends
i = record { from = x; to = x }

abbrev U : Dia 1
U = record { regs = x ∷ x ∷ []; sings = x ∷ []; fwds = i ∷ []; bwds = i ∷ [] }

abbrev inner : Dia 2
inner = identity_diagram 1 (identity_diagram 0 x)

abbrev outer : Dia 2
outer = identity_diagram 1 U

-- the leg that leaves the height of U out
abbrev c : Arr 2
c = record { heights = []; regs = record { heights = []; regs = i ∷ i ∷ []; sings = [] } ∷ []; sings = [] }

abbrev T : Dia 3
T = record { regs = inner ∷ inner ∷ []; sings = outer ∷ []; fwds = c ∷ []; bwds = c ∷ [] }

-- ---- T is valid, and its legs are degeneracies

valid_i : ValidArrow 0 x x i
valid_i = record { from = refl; to = refl; order = inl refl }

valid_U : Valid 1 U
valid_U = record {
  regs_len = refl;
  fwds_len = refl;
  bwds_len = refl;
  regs = λ j l. tt;
  sings = λ k l. tt;
  fwds = fwds;
  bwds = bwds;
}
  where
    fwds : (k : ℕ) → k < 1 → ValidArrow 0 (reg 0 U k) (sing 0 U k) (fwd 0 U k)
    fwds zero l = valid_i
    fwds (suc k) l = absurd (omega arith)

    bwds : (k : ℕ) → k < 1 → ValidArrow 0 (reg 0 U (suc k)) (sing 0 U k) (bwd 0 U k)
    bwds zero l = valid_i
    bwds (suc k) l = absurd (omega arith)

constant_U : Constant 0 x 1 U
unfolding ident
constant_U = record { regs = regs; sings = sings; fwds = fwds; bwds = bwds }
  where
    regs : (j : ℕ) → j ≤ 1 → reg 0 U j ≡ x
    regs zero l = refl
    regs (suc zero) l = refl
    regs (suc (suc j)) l = absurd (omega arith)

    sings : (k : ℕ) → k < 1 → sing 0 U k ≡ x
    sings zero l = refl
    sings (suc k) l = absurd (omega arith)

    fwds : (k : ℕ) → k < 1 → fwd 0 U k ≡ ident 0 x
    fwds zero l = refl
    fwds (suc k) l = absurd (omega arith)

    bwds : (k : ℕ) → k < 1 → bwd 0 U k ≡ ident 0 x
    bwds zero l = refl
    bwds (suc k) l = absurd (omega arith)

constant_outer : Constant 0 x 2 outer
constant_outer = record {
  regs = λ j l. (let z : j ≡ 0 = omega arith in subst (λ (m : ℕ). Constant 0 x 1 (reg 1 outer m)) (sym z) constant_U);
  sings = λ k l. absurd (omega arith);
  fwds = λ k l. absurd (omega arith);
  bwds = λ k l. absurd (omega arith);
}

valid_inner : Valid 2 inner
valid_inner = tower_valid 0 x tt 2

valid_outer : Valid 2 outer
valid_outer = tower_valid 1 U valid_U 1

is_c : into 0 x tt 2 outer ≡ c
unfolding into ident
is_c = refl

shape_c : DegeneracyByShape 2 inner outer c
shape_c = subst (DegeneracyByShape 2 inner outer) is_c (into_shape 0 x tt 2 outer valid_outer constant_outer)

valid_T : Valid 3 T
valid_T = record {
  regs_len = refl;
  fwds_len = refl;
  bwds_len = refl;
  regs = regs;
  sings = sings;
  fwds = fwds;
  bwds = bwds;
}
  where
    regs : (j : ℕ) → j ≤ 1 → Valid 2 (reg 2 T j)
    regs zero l = valid_inner
    regs (suc zero) l = valid_inner
    regs (suc (suc j)) l = absurd (omega arith)

    sings : (k : ℕ) → k < 1 → Valid 2 (sing 2 T k)
    sings zero l = valid_outer
    sings (suc k) l = absurd (omega arith)

    fwds : (k : ℕ) → k < 1 → ValidArrow 2 (reg 2 T k) (sing 2 T k) (fwd 2 T k)
    fwds zero l = shape_valid 2 inner outer c shape_c
    fwds (suc k) l = absurd (omega arith)

    bwds : (k : ℕ) → k < 1 → ValidArrow 2 (reg 2 T (suc k)) (sing 2 T k) (bwd 2 T k)
    bwds zero l = shape_valid 2 inner outer c shape_c
    bwds (suc k) l = absurd (omega arith)

-- ---- T is reduced, its regular slices left alone

-- the legs are no identities, since U is longer than Id x
no_identity : (k : ℕ) → k < 1 → IsIdentity 2 (fwd 2 T k) → ⊥
no_identity zero l j = absurd (let a = (j.regs 0 (omega arith)).regs_len in omega arith)
no_identity (suc k) l j = absurd (omega arith)

reduced_T : ReducedFor keep.Plain 3 T []
reduced_T = record { regs = tt; sings = sings; hit = λ k l f b. absurd (no_identity k l f) }
  where
    sings : (k : ℕ) → k < 1 → Reduced keep.Plain 2 (sing 2 T k) (λ b. LeadsInto 2 T (λ g. IsOneOf 3 [] g) k b)
    sings zero l = record { regs = tt; sings = λ m n. absurd (omega arith); hit = λ m n f b. absurd (omega arith) }
    sings (suc k) l = absurd (omega arith)

-- ---- the rival, which leaves out the height of T

abbrev R : Dia 3
R = identity_diagram 2 inner

abbrev e : Arr 3
e = record { heights = []; regs = ident 2 inner ∷ ident 2 inner ∷ []; sings = [] }

valid_R : Valid 3 R
valid_R = tower_valid 0 x tt 3

c_alone : comp 2 c (ident 2 inner) ≡ c
c_alone = neutral_before 2 inner outer c valid_inner (shape_valid 2 inner outer c shape_c)

identity_inner : DegeneracyByShape 2 inner inner (ident 2 inner)
identity_inner = identity_shape 2 inner inner (ident 2 inner) (identities_are_valid 2 inner valid_inner) (identities_have_shape 2 inner valid_inner)

e_regs : (j : ℕ) → j ≤ 1 → DegeneracyByShape 2 (reg 2 R (dual [] j)) (reg 2 T j) (arrow_reg 2 e j)
e_regs zero l = rw dual-nil identity_inner
e_regs (suc zero) l = rw dual-nil identity_inner
e_regs (suc (suc j)) l = absurd (omega arith)

valid_e : ValidArrow 3 R T e
valid_e = record {
  heights_len = refl;
  regs_len = refl;
  sings_len = refl;
  monotone = increasing_mono [] increasing-nil;
  below = record { below = λ m p. absurd (omega arith) };
  regs = λ j l. shape_valid 2 _ _ (arrow_reg 2 e j) (e_regs j l);
  sings = λ m l. absurd (omega arith);
  squares = squares;
}
  where
    squares : (k : ℕ) → k < 1 → Commutes 2 R T e k
    squares zero l =
        let n = dual-nil 1 in
        record {
          empty = λ h. refl;
          first = λ p. absurd (omega arith);
          last = λ p. absurd (omega arith);
          inner = λ m p h. absurd (omega arith);
        }
    squares (suc k) l = absurd (omega arith)

shape_e : DegeneracyByShape 3 R T e
shape_e = record {
  valid = valid_e;
  increasing = increasing-nil;
  regs = e_regs;
  sings = λ m l. absurd (omega arith);
  missed_fwds = missed_fwds;
  missed_bwds = missed_bwds;
}
  where
    missed_fwds : (k : ℕ) → k < 1 → dual [] k ≡ dual [] (suc k)
        → DegeneracyByShape 2 (reg 2 R (dual [] k)) (sing 2 T k) (comp 2 (fwd 2 T k) (arrow_reg 2 e k))
    missed_fwds zero l h = rw (dual-nil, c_alone) shape_c
    missed_fwds (suc k) l h = absurd (omega arith)

    missed_bwds : (k : ℕ) → k < 1 → dual [] k ≡ dual [] (suc k)
        → DegeneracyByShape 2 (reg 2 R (dual [] (suc k))) (sing 2 T k) (comp 2 (bwd 2 T k) (arrow_reg 2 e (suc k)))
    missed_bwds zero l h = rw (dual-nil, c_alone) shape_c
    missed_bwds (suc k) l h = absurd (omega arith)

plain_e : PlainArrow 3 e
plain_e = record { regs = regs; sings = λ m l. absurd (omega arith) }
  where
    regs : (j : ℕ) → j < 2 → IsIdentity 2 (arrow_reg 2 e j)
    regs zero l = identities_have_shape 2 inner valid_inner
    regs (suc zero) l = identities_have_shape 2 inner valid_inner
    regs (suc (suc j)) l = absurd (omega arith)

-- the identity of T does not factor through it
no_factor : has_factor 3 e (ident 3 T) ≡ false
unfolding has_factor ident dual no_arr
no_factor = refl

not_least : IsLeast keep.Plain 3 T [] T (ident 3 T) → ⊥
not_least h =
    let q = shape_means_degeneracy 3 R T e valid_R valid_T shape_e in
    let x : Factors 3 T R (ident 3 T) e = h.factors R e valid_R (record { degeneracy = q; plain = plain_e }) (λ m l. absurd (omega arith)) in
    true≢false (sym ((factors_are_decided 3 T R T (ident 3 T) e valid_T (identities_are_valid 3 T valid_T) q).1 x) ∙ no_factor)

pub plain_targets_are_needed : PlainTargetsAreNeeded
plain_targets_are_needed = (T, record { valid = valid_T; reduced = reduced_T; not_least = not_least })
