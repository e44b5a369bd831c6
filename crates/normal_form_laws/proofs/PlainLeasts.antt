-- The least plain degeneracy exists: it is the plain normal form, and the only one with a reduced source.
use Rattle.std.proofs.Common.{ℕ, ◌<◌, List, length, refl, sym, ◌∙◌, subst, arith}
use Rattle.std.specs.List.{Contains}
use Rattle.diagram_terms.specs.declared.place.Keep.TheVariants as keep
use Rattle.diagram_terms.specs.Family.{Dia, Arr}
use Rattle.diagram_terms.specs.Composite.{ident, comp}
use Rattle.diagram_terms.specs.Plain.{Plain}
use Rattle.diagram_terms.specs.Valid.{ValidArrow, Valid}
use Rattle.diagram_terms.specs.Least.{Leg, leg_at, ValidLeg, ValidLegs, Factors, LegsFactor, LegsFactorBy, IsOneOf, PlainDegeneracy, IsLeast, ReducedFor}
use Rattle.degeneracy_laws.proofs.Factors.{mutual_factors}
use Rattle.degeneracy_laws.proofs.Shapes.{degeneracy_ends, degeneracies_have_shape}
use Rattle.degeneracy_laws.proofs.Splits.{shape_means_degeneracy}
use Rattle.map_laws.proofs.Neutral.{neutral_after}
use Rattle.diagram_terms.specs.Factors.{factor_leg, factor_legs}
use Rattle.normal_form_laws.specs.PlainLaws.{PlainReducedMeansLeast, PlainLeastIsUnique, PlainLeastOfFactorsIsIdentity, PlainFormsAreDegeneracies, LegsFactorThroughPlainForms, PlainFormsAreReduced, PlainFormsAreLeast, PlainLeastExists, PlainLeastIsPlainForm, PlainLeastIsReduced, PlainReducedIsPlainForm}
use Rattle.normal_form_laws.proofs.Existence.{are_valid, factors_of, factors_are}
use Rattle.normal_form_laws.proofs.Members.{in_map, one_of, from_one_of}
use Rattle.normal_form_laws.proofs.PlainFactors.{plain_rivals_factor}
use Rattle.normal_form_laws.proofs.PlainForms.{IsPlainNormal, plain_reduced_more, plain_forms_hold}
use Rattle.normal_form_laws.proofs.PlainShapes.{identities_are_plain_degeneracies, plain_sources_are_plain}
use Rattle.normal_form_laws.proofs.ReducedParts.{same_legs}
use Rattle.diagram_terms.specs.NormalForms.{normal_form}

-- ---- a reduced source

module _ (d : ℕ) (T S : Dia d) (legs gs : List (Leg d)) (a : Arr d) (v : ValidLegs d T legs) (f : LegsFactorBy d legs S a gs) where
  -- the factors are valid legs into S
  pub factors_valid : (i : ℕ) → i < length gs → ValidLeg d S (leg_at d gs i)
  factors_valid i l =
      let li : i < length legs = let n = f.count in omega arith in
      let from = sym (f.sources i li) in
      record {
        source = subst (Valid d) from (v i li).source;
        arrow = subst (λ (B : Dia d). ValidArrow d B S (leg_at d gs i).arrow) from (f.factors i li).valid;
      }

  -- a leg factors through a rival as its factor, followed by a, does
  rival_factors : (R : Dia d) (e : Arr d) → LegsFactor d legs R e → (g : Leg d) → IsOneOf d gs g → Factors d g.source R (comp d a g.arrow) e
  rival_factors R e h g p =
      let i : ℕ = p.0 in
      let l : i < length legs = let w = p.1 in let n = f.count in omega arith in
      let x = h i l in
      subst (λ (t : Leg d). Factors d t.source R (comp d a t.arrow) e) (sym p.2) (
        x.0,
        record {
          valid = subst (λ (B : Dia d). ValidArrow d B R x.0) (sym (f.sources i l)) x.1.valid;
          composite = x.1.composite ∙ sym (f.factors i l).composite;
        },
      )

pub plain_reduced_means_least : (d : ℕ) → PlainReducedMeansLeast d
plain_reduced_means_least d T S legs gs a pT v q f reduced =
    let ends = degeneracy_ends d S T a q.degeneracy in
    record {
      valid = ends.0;
      degeneracy = q;
      legs_factor = λ i l. ((leg_at d gs i).arrow, f.factors i l);
      factors = λ R e vR qe h. plain_rivals_factor d S R T a e (λ g. IsOneOf d gs g) (record {
        vS = ends.0;
        vR = vR;
        vT = ends.1;
        pT = pT;
        qa = degeneracies_have_shape d S T a q.degeneracy;
        pa = q.plain;
        qe = degeneracies_have_shape d R T e qe.degeneracy;
        pe = qe.plain;
        legs = λ g p. subst (ValidLeg d S) (sym p.2) (factors_valid d T S legs gs a v f p.0 p.1);
        rival = rival_factors d T S legs gs a v f R e h;
        reduced = reduced;
      });
    }

pub plain_least_is_unique : (d : ℕ) → PlainLeastIsUnique d
plain_least_is_unique d T R S legs a b x y =
    mutual_factors d R S T a b x.valid y.valid (degeneracies_have_shape d R T a x.degeneracy.degeneracy)
    (degeneracies_have_shape d S T b y.degeneracy.degeneracy)
    (y.factors R a x.valid x.degeneracy x.legs_factor) (x.factors S b y.valid y.degeneracy y.legs_factor)

-- ---- the plain normal form

module _ (d : ℕ) (T : Dia d) (legs : List (Leg d)) (vT : Valid d T) (pT : Plain d T) (vl : ValidLegs d T legs) where
  abbrev N : Leg d
  N = normal_form keep.Plain d T legs

  holds : IsPlainNormal d T legs N
  holds = plain_forms_hold d T legs vT pT (are_valid d T legs vl)

  is_degeneracy : PlainDegeneracy d N.source T N.arrow
  is_degeneracy = record {
    degeneracy = shape_means_degeneracy d N.source T N.arrow holds.into.valid vT holds.into.shape;
    plain = holds.plain;
  }

  they_factor : LegsFactorBy d legs N.source N.arrow (factor_legs d N.arrow legs)
  they_factor = factors_of d T legs N holds.into

  is_reduced : ReducedFor keep.Plain d N.source (factor_legs d N.arrow legs)
  is_reduced = plain_reduced_more d _ _ _
      (λ b p. one_of d (factor_legs d N.arrow legs) b (subst (Contains (factor_legs d N.arrow legs)) (sym p.2)
      (in_map (factor_leg d N.arrow) legs p.0 (from_one_of d legs p.0 p.1))))
      holds.reduced

  is_least : IsLeast keep.Plain d T legs N.source N.arrow
  is_least = plain_reduced_means_least d T N.source legs (factor_legs d N.arrow legs) N.arrow pT vl is_degeneracy they_factor is_reduced

pub plain_forms_are_degeneracies : (d : ℕ) → PlainFormsAreDegeneracies d
plain_forms_are_degeneracies d T legs vT pT vl =
    let q = is_degeneracy d T legs vT pT vl in
    ((holds d T legs vT pT vl).into.valid, plain_sources_are_plain d (normal_form keep.Plain d T legs).source T (normal_form keep.Plain d T legs).arrow q pT, q)

pub legs_factor_through_plain_forms : (d : ℕ) → LegsFactorThroughPlainForms d
legs_factor_through_plain_forms d T legs vT pT vl = they_factor d T legs vT pT vl

pub plain_forms_are_reduced : (d : ℕ) → PlainFormsAreReduced d
plain_forms_are_reduced d T legs vT pT vl = is_reduced d T legs vT pT vl

pub plain_forms_are_least : (d : ℕ) → PlainFormsAreLeast d
plain_forms_are_least d T legs vT pT vl = is_least d T legs vT pT vl

pub plain_least_exists : (d : ℕ) → PlainLeastExists d
plain_least_exists d T legs vT pT vl = ((normal_form keep.Plain d T legs).source, (normal_form keep.Plain d T legs).arrow, is_least d T legs vT pT vl)

-- ---- the only one

pub plain_least_is_plain_form : (d : ℕ) → PlainLeastIsPlainForm d
plain_least_is_plain_form d T S legs a pT vl x =
    let vT = (degeneracy_ends d S T a x.degeneracy.degeneracy).1 in
    let u = plain_least_is_unique d T S (normal_form keep.Plain d T legs).source legs a (normal_form keep.Plain d T legs).arrow x (is_least d T legs vT pT vl) in
    same_legs d (record { source = S; arrow = a }) (normal_form keep.Plain d T legs) u.0 u.1

pub plain_least_is_reduced : (d : ℕ) → PlainLeastIsReduced d
plain_least_is_reduced d T S legs gs a pT vl x f =
    let vT = (degeneracy_ends d S T a x.degeneracy.degeneracy).1 in
    let e = plain_least_is_plain_form d T S legs a pT vl x in
    let g = factors_are d T S legs gs a (degeneracies_have_shape d S T a x.degeneracy.degeneracy) f in
    subst (ReducedFor keep.Plain d S) (sym g)
    (subst (λ (t : Leg d). ReducedFor keep.Plain d t.source (factor_legs d t.arrow legs)) (sym e) (is_reduced d T legs vT pT vl))

pub plain_reduced_is_plain_form : (d : ℕ) → PlainReducedIsPlainForm d
plain_reduced_is_plain_form d T S legs gs a pT vl q f r = (
  plain_least_is_plain_form d T S legs a pT vl (plain_reduced_means_least d T S legs gs a pT vl q f r),
  factors_are d T S legs gs a (degeneracies_have_shape d S T a q.degeneracy) f,
)

-- ---- the least for its own factors

pub plain_least_of_factors_is_identity : (d : ℕ) → PlainLeastOfFactorsIsIdentity d
plain_least_of_factors_is_identity d T S legs gs a pT vl x f =
    let valid = factors_valid d T S legs gs a vl f in
    plain_reduced_means_least d S S gs gs (ident d S) (plain_sources_are_plain d S T a x.degeneracy pT) valid
    (identities_are_plain_degeneracies d S x.valid)
    (record {
      count = refl;
      sources = λ i l. refl;
      factors = λ i l. record { valid = (valid i l).arrow; composite = neutral_after d _ S (leg_at d gs i).arrow x.valid (valid i l).arrow };
    })
    (plain_least_is_reduced d T S legs gs a pT vl x f)
