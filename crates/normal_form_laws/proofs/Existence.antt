-- The least degeneracy exists: it is the normal form, and the only one with a reduced source.
use Rattle.std.proofs.Common.{◌≡◌, ℕ, ◌<◌, List, length, refl, sym, ap, ◌∙◌, subst, arith}
use Rattle.std.proofs.lemmas.List.{get_or-map, length-map, ext_get_or}
use Rattle.diagram_terms.specs.declared.place.Keep.TheVariants as keep
use Rattle.diagram_terms.specs.Family.{Dia, Arr, no_dia, no_arr}
use Rattle.diagram_terms.specs.Composite.{ident}
use Rattle.diagram_terms.specs.Valid.{ValidArrow, Valid}
use Rattle.diagram_terms.specs.Degeneracy.{Degeneracy, DegeneracyByShape}
use Rattle.diagram_terms.specs.Least.{Leg, leg_at, ValidLeg, ValidLegs, FactorsBy, LegsFactorBy, ReducedFor, IsLeast}
use Rattle.std.specs.List.{Contains}
use Rattle.degeneracy_laws.proofs.Leasts.{reduced_means_least, least_is_unique, least_of_factors_is_identity}
use Rattle.degeneracy_laws.proofs.Shapes.{degeneracy_ends, degeneracies_have_shape}
use Rattle.degeneracy_laws.proofs.Splits.{shape_means_degeneracy}
use Rattle.normal_form_laws.specs.Laws.{FactorsAreFound, NormalFormsAreDegeneracies, LegsFactorThroughNormalForms, NormalFormsAreReduced, NormalFormsAreLeast, LeastExists, LeastIsNormalForm, LeastIsReduced, ReducedIsNormalForm, NormalFormsAreNormal}
use Rattle.diagram_terms.specs.Factors.{factor_leg, factor_legs}
use Rattle.diagram_terms.specs.NormalForms.{normal_form}
use Rattle.normal_form_laws.proofs.FoundFactors.{factors_are_found_by_shape}
use Rattle.normal_form_laws.proofs.GoodSlices.{FactorsInto, AreValid}
use Rattle.normal_form_laws.proofs.Members.{in_map, one_of, from_one_of}
use Rattle.normal_form_laws.proofs.NormalForms.{IsNormal, normal_forms_hold}
use Rattle.normal_form_laws.proofs.ReducedParts.{same_legs, reduced_more}

pub factors_are_found : (d : ℕ) → FactorsAreFound d
factors_are_found d W R T f e g q by = factors_are_found_by_shape d W R T f e g (degeneracies_have_shape d R T e q) by

-- ---- lists of legs by their index, and by what they have

pub are_valid : (d : ℕ) (T : Dia d) (legs : List (Leg d)) → ValidLegs d T legs → AreValid d T legs
are_valid d T legs v g p = subst (ValidLeg d T) (sym p.2) (v p.0 p.1)

pub factor_at : (d : ℕ) (e : Arr d) (legs : List (Leg d)) (i : ℕ) → i < length legs
    → leg_at d (factor_legs d e legs) i ≡ factor_leg d e (leg_at d legs i)
factor_at d e legs i l = get_or-map (factor_leg d e) legs i (record { source = no_dia d; arrow = no_arr d })
    (record { source = no_dia d; arrow = no_arr d }) l

-- the legs factor by their factors
pub factors_of : (d : ℕ) (T : Dia d) (legs : List (Leg d)) (N : Leg d) → FactorsInto d T legs N
    → LegsFactorBy d legs N.source N.arrow (factor_legs d N.arrow legs)
factors_of d T legs N r = record {
  count = length-map legs (factor_leg d N.arrow);
  sources = λ i l. ap (λ (t : Leg d). t.source) (factor_at d N.arrow legs i l);
  factors = λ i l. subst (λ (t : Leg d). FactorsBy d (leg_at d legs i).source N.source (leg_at d legs i).arrow N.arrow t.arrow)
      (sym (factor_at d N.arrow legs i l)) (r.factors (leg_at d legs i) (i, l, refl));
}

-- the factors by which legs factor through a degeneracy are these
pub factors_are : (d : ℕ) (T S : Dia d) (legs gs : List (Leg d)) (a : Arr d) → DegeneracyByShape d S T a → LegsFactorBy d legs S a gs
    → gs ≡ factor_legs d a legs
factors_are d T S legs gs a q f =
    let n = f.count in
    ext_get_or (record { source = no_dia d; arrow = no_arr d }) gs (factor_legs d a legs) (f.count ∙ sym (length-map legs (factor_leg d a)))
    (λ i l.
    let li : i < length legs = omega arith in
    same_legs d (leg_at d gs i) (factor_leg d a (leg_at d legs i)) (f.sources i li)
    (sym (factors_are_found_by_shape d _ S T (leg_at d legs i).arrow a (leg_at d gs i).arrow q (f.factors i li)))
    ∙ sym (factor_at d a legs i li))

-- ---- the normal form

module _ (d : ℕ) (T : Dia d) (legs : List (Leg d)) (vT : Valid d T) (vl : ValidLegs d T legs) where
  abbrev N : Leg d
  N = normal_form keep.Free d T legs

  holds : IsNormal d T legs N
  holds = normal_forms_hold d T legs vT (are_valid d T legs vl)

  is_degeneracy : Valid d N.source × Degeneracy d N.source T N.arrow
  is_degeneracy = (holds.into.valid, shape_means_degeneracy d N.source T N.arrow holds.into.valid vT holds.into.shape)

  they_factor : LegsFactorBy d legs N.source N.arrow (factor_legs d N.arrow legs)
  they_factor = factors_of d T legs N holds.into

  is_reduced : ReducedFor keep.Free d N.source (factor_legs d N.arrow legs)
  is_reduced = reduced_more d _ _ _
      (λ b p. one_of d (factor_legs d N.arrow legs) b (subst (Contains (factor_legs d N.arrow legs)) (sym p.2)
      (in_map (factor_leg d N.arrow) legs p.0 (from_one_of d legs p.0 p.1))))
      holds.reduced

  is_least : IsLeast keep.Free d T legs N.source N.arrow
  is_least = reduced_means_least d T N.source legs (factor_legs d N.arrow legs) N.arrow vl is_degeneracy.1 they_factor is_reduced

pub normal_forms_are_degeneracies : (d : ℕ) → NormalFormsAreDegeneracies d
normal_forms_are_degeneracies d T legs vT vl = is_degeneracy d T legs vT vl

pub legs_factor_through_normal_forms : (d : ℕ) → LegsFactorThroughNormalForms d
legs_factor_through_normal_forms d T legs vT vl = they_factor d T legs vT vl

pub normal_forms_are_reduced : (d : ℕ) → NormalFormsAreReduced d
normal_forms_are_reduced d T legs vT vl = is_reduced d T legs vT vl

pub normal_forms_are_least : (d : ℕ) → NormalFormsAreLeast d
normal_forms_are_least d T legs vT vl = is_least d T legs vT vl

pub least_exists : (d : ℕ) → LeastExists d
least_exists d T legs vT vl = ((normal_form keep.Free d T legs).source, (normal_form keep.Free d T legs).arrow, is_least d T legs vT vl)

-- ---- the only one

pub least_is_normal_form : (d : ℕ) → LeastIsNormalForm d
least_is_normal_form d T S legs a vl x =
    let vT = (degeneracy_ends d S T a x.degeneracy).1 in
    let u = least_is_unique d T S (normal_form keep.Free d T legs).source legs a (normal_form keep.Free d T legs).arrow x (is_least d T legs vT vl) in
    same_legs d (record { source = S; arrow = a }) (normal_form keep.Free d T legs) u.0 u.1

pub least_is_reduced : (d : ℕ) → LeastIsReduced d
least_is_reduced d T S legs gs a vl x f =
    let vT = (degeneracy_ends d S T a x.degeneracy).1 in
    let e = least_is_normal_form d T S legs a vl x in
    let g = factors_are d T S legs gs a (degeneracies_have_shape d S T a x.degeneracy) f in
    subst (ReducedFor keep.Free d S) (sym g) (subst (λ (t : Leg d). ReducedFor keep.Free d t.source (factor_legs d t.arrow legs)) (sym e) (is_reduced d T legs vT vl))

pub reduced_is_normal_form : (d : ℕ) → ReducedIsNormalForm d
reduced_is_normal_form d T S legs gs a vl q f r = (
  least_is_normal_form d T S legs a vl (reduced_means_least d T S legs gs a vl q f r),
  factors_are d T S legs gs a (degeneracies_have_shape d S T a q) f,
)

-- ---- once more

pub normal_forms_are_normal : (d : ℕ) → NormalFormsAreNormal d
normal_forms_are_normal d T legs vT vl =
    let N : Leg d = normal_form keep.Free d T legs in
    let gs : List (Leg d) = factor_legs d N.arrow legs in
    let by = they_factor d T legs vT vl in
    let least = least_of_factors_is_identity d T N.source legs gs N.arrow (is_least d T legs vT vl) by in
    let count : length gs ≡ length legs = by.count in
    let valid : ValidLegs d N.source gs = λ i l.
    let li : i < length legs = omega arith in
    let s = by.sources i li in
    record {
      source = subst (Valid d) (sym s) (vl i li).source;
      arrow = subst (λ (B : Dia d). ValidArrow d B N.source (leg_at d gs i).arrow) (sym s) (by.factors i li).valid;
    } in
    sym (least_is_normal_form d N.source N.source gs (ident d N.source) valid least)
