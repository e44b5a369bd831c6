-- A degeneracy with a reduced source is the least, and there is one least degeneracy.
use Rattle.std.proofs.Common.{◌≡◌, ℕ, zero, suc, ◌<◌, List, length, sym, ap, ◌∙◌, subst, arith, inl}
use Rattle.diagram_terms.specs.declared.place.Keep.TheVariants as keep
use Rattle.diagram_terms.specs.Family.{Dia, Arr}
use Rattle.diagram_terms.specs.Composite.{comp, ident}
use Rattle.diagram_terms.specs.Valid.{ValidArrow, Valid}
use Rattle.diagram_terms.specs.Degeneracy.{Degeneracy}
use Rattle.diagram_terms.specs.Least.{Leg, leg_at, ValidLeg, ValidLegs, Factors, LegsFactor, LegsFactorBy, IsOneOf, IsLeast}
use Rattle.diagram_terms.proofs.Parts.{comp-from, comp-to, same_ends}
use Rattle.map_laws.proofs.Associativity.{associative}
use Rattle.map_laws.proofs.ValidComposites.{composites_are_valid}
use Rattle.map_laws.proofs.ValidIdentities.{identities_are_valid}
use Rattle.map_laws.proofs.Neutral.{neutral_after, neutral_before}
use Rattle.degeneracy_laws.specs.Laws.{ReducedMeansLeast, LeastIsUnique, LeastOfFactorsIsIdentity}
use Rattle.degeneracy_laws.proofs.Degeneracies.{identities_are_degeneracies, degeneracies_compose, degeneracies_are_mono}
use Rattle.degeneracy_laws.proofs.FactorArrow.{rivals_factor_step}
use Rattle.degeneracy_laws.proofs.Factors.{mutual_factors}
use Rattle.degeneracy_laws.proofs.Rivals.{RivalsFactor}
use Rattle.degeneracy_laws.proofs.Shapes.{degeneracy_ends, degeneracies_have_shape, degeneracies_are_valid}

-- ---- a reduced source

factor_base : RivalsFactor zero
factor_base S R T a e G r =
    let qa = r.qa in
    let qe = r.qe in
    let same : S ≡ R = sym qa.0.from ∙ qa.1 ∙ qa.0.to ∙ sym qe.0.to ∙ sym qe.1 ∙ qe.0.from in (
      a,
      record {
        valid = record { from = qa.0.from; to = sym qa.1 ∙ qa.0.from ∙ same; order = inl same };
        composite = same_ends (comp zero e a) a (comp-from e a) (comp-to e a ∙ qe.0.to ∙ sym qa.0.to);
      },
    )

rivals_factor : (d : ℕ) → RivalsFactor d
rivals_factor zero = factor_base
rivals_factor (suc d) = rivals_factor_step d (rivals_factor d)

module _ (d : ℕ) (T S : Dia d) (legs gs : List (Leg d)) (a : Arr d) (v : ValidLegs d T legs) (q : Degeneracy d S T a)
    (f : LegsFactorBy d legs S a gs) where
  -- the factors are valid legs into S
  factors_valid : (g : Leg d) → IsOneOf d gs g → ValidLeg d S g
  factors_valid g p =
      let i : ℕ = p.0 in
      let l : i < length legs = let w = p.1 in let n = f.count in omega arith in
      let from = sym (f.sources i l) in
      subst (ValidLeg d S) (sym p.2) (record {
        source = subst (Valid d) from (v i l).source;
        arrow = subst (λ (B : Dia d). ValidArrow d B S (leg_at d gs i).arrow) from (f.factors i l).valid;
      })

  -- a leg factors through a rival as its factor, followed by a, does
  rival_factors : (R : Dia d) (e : Arr d) → LegsFactor d legs R e → (g : Leg d) → IsOneOf d gs g → Factors d g.source R (comp d a g.arrow) e
  rival_factors R e h g p =
      let i : ℕ = p.0 in
      let l : i < length legs = let w = p.1 in let n = f.count in omega arith in
      let x = h i l in
      subst (λ (t : Leg d). Factors d t.source R (comp d a t.arrow) e) (sym p.2) (
        x.0,
        record {
          valid = subst (λ (B : Dia d). ValidArrow d B R x.0) (sym (f.sources i l)) x.1.valid;
          composite = x.1.composite ∙ sym (f.factors i l).composite;
        },
      )

pub reduced_means_least : (d : ℕ) → ReducedMeansLeast d
reduced_means_least d T S legs gs a v q f reduced =
    let ends = degeneracy_ends d S T a q in
    record {
      valid = ends.0;
      degeneracy = q;
      legs_factor = λ i l. ((leg_at d gs i).arrow, f.factors i l);
      factors = λ R e vR qe h. rivals_factor d S R T a e (λ g. IsOneOf d gs g) (record {
        vS = ends.0;
        vR = vR;
        vT = ends.1;
        qa = degeneracies_have_shape d S T a q;
        qe = degeneracies_have_shape d R T e qe;
        legs = factors_valid d T S legs gs a v q f;
        rival = rival_factors d T S legs gs a v q f R e h;
        reduced = reduced;
      });
    }

-- ---- there is one

pub least_is_unique : (d : ℕ) → LeastIsUnique d
least_is_unique d T R S legs a b x y =
    mutual_factors d R S T a b x.valid y.valid (degeneracies_have_shape d R T a x.degeneracy) (degeneracies_have_shape d S T b y.degeneracy)
    (y.factors R a x.valid x.degeneracy x.legs_factor) (x.factors S b y.valid y.degeneracy y.legs_factor)

-- ---- the least for its own factors

module _ (d : ℕ) (T S : Dia d) (legs gs : List (Leg d)) (a : Arr d) (x : IsLeast keep.Free d T legs S a) (f : LegsFactorBy d legs S a gs) where
  at_leg : (i : ℕ) → i < length gs → i < length legs
  at_leg i l = let n = f.count in omega arith

  through_identity : LegsFactor d gs S (ident d S)
  through_identity i l =
      let g = f.factors i (at_leg i l) in
      let v : ValidArrow d (leg_at d gs i).source S (leg_at d gs i).arrow =
      subst (λ (B : Dia d). ValidArrow d B S (leg_at d gs i).arrow) (sym (f.sources i (at_leg i l))) g.valid in
      ((leg_at d gs i).arrow, record { valid = v; composite = neutral_after d _ S (leg_at d gs i).arrow x.valid v })

  -- a followed by a rival of the identity is a rival of a
  module _ (R : Dia d) (e : Arr d) (vR : Valid d R) (qe : Degeneracy d R S e) (h : LegsFactor d gs R e) where
    legs_through : LegsFactor d legs R (comp d a e)
    legs_through i l =
        let n = f.count in
        let y = h i (omega arith) in
        let g = f.factors i l in
        let vy : ValidArrow d (leg_at d legs i).source R y.0 =
        subst (λ (B : Dia d). ValidArrow d B R y.0) (f.sources i l) y.1.valid in
        let ve = (degeneracies_are_valid d R S e qe).2 in
        let va = (degeneracies_are_valid d S T a x.degeneracy).2 in (
          y.0,
          record {
            valid = vy;
            composite = sym (associative d _ _ _ _ y.0 e a vy ve va) ∙ ap (comp d a) y.1.composite ∙ g.composite;
          },
        )

    identity_factors : Factors d S R (ident d S) e
    identity_factors =
        let c = x.factors R (comp d a e) vR (degeneracies_compose d R S T e a qe x.degeneracy) legs_through in
        let ve = (degeneracies_are_valid d R S e qe).2 in
        let va = (degeneracies_are_valid d S T a x.degeneracy).2 in (
          c.0,
          record {
            valid = c.1.valid;
            composite = degeneracies_are_mono d S S T a (comp d e c.0) (ident d S) x.degeneracy
                (composites_are_valid d S R S c.0 e x.valid vR x.valid c.1.valid ve) (identities_are_valid d S x.valid)
                (associative d _ _ _ _ c.0 e a c.1.valid ve va ∙ c.1.composite ∙ sym (neutral_before d S T a x.valid va));
          },
        )

  least_of_factors : IsLeast keep.Free d S gs S (ident d S)
  least_of_factors = record {
    valid = x.valid;
    degeneracy = identities_are_degeneracies d S x.valid;
    legs_factor = through_identity;
    factors = identity_factors;
  }

pub least_of_factors_is_identity : (d : ℕ) → LeastOfFactorsIsIdentity d
least_of_factors_is_identity d T S legs gs a x f = least_of_factors d T S legs gs a x f
