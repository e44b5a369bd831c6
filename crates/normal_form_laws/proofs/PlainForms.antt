-- The plain normal form of a valid plain diagram relative to valid legs: a plain degeneracy through which the legs
-- factor, with a source that is reduced for the factors, its regular slices left alone.
use Rattle.std.proofs.Common.{◌≡◌, ℕ, zero, suc, ◌<◌, ◌≤◌, List, length, get_or, sym, ap, ◌∙◌, subst, arith}
use Rattle.diagram_terms.specs.declared.place.Keep.TheVariants as keep
use Rattle.diagram_terms.specs.Family.{Dia, no_dia, no_arr, reg, sing}
use Rattle.diagram_terms.specs.Dual.{tab}
use Rattle.diagram_terms.specs.Composite.{ident}
use Rattle.diagram_terms.specs.Identity.{IsIdentity}
use Rattle.diagram_terms.specs.Plain.{PlainArrow, Plain}
use Rattle.diagram_terms.specs.Valid.{Valid}
use Rattle.diagram_terms.specs.Least.{Leg, leg_at, LeadsInto, IsOneOf, Reduced}
use Rattle.diagram_terms.proofs.Duals.{length-tab, get-tab}
use Rattle.map_laws.proofs.IdentityShapes.{identities_have_shape}
use Rattle.diagram_terms.specs.Factors.{IsFactorOf}
use Rattle.diagram_terms.specs.NormalForms.{regular_slices, ways_into, Parts, sing_part, assembled, kept_heights, parts_over, normal_form}
use Rattle.normal_form_laws.proofs.Assembled.{GoodParts, kept_within}
use Rattle.normal_form_laws.proofs.AssembledParts.{assembled-sings_len, assembled-sing, assembled-fwd, assembled-bwd, arrow-regs_len, arrow-sings_len, arrow-reg, arrow-sing}
use Rattle.normal_form_laws.proofs.GoodSlices.{FactorsInto, AreValid, regular_valid, ways_valid, part_is, good_parts}
use Rattle.normal_form_laws.proofs.NormalForms.{identity_into, assembled_into}
use Rattle.normal_form_laws.proofs.ReducedParts.{hits_more, leads_into_more, hit_included, singular_included}
use Rattle.normal_form_laws.proofs.SliceLegs.{from_ways, hit_where_flat}

-- ---- what is reduced for some legs is so for more

abbrev PlainReducedForMore : ℕ → Type 1
PlainReducedForMore d = (S : Dia d) (G H : Leg d → Type 0) → ((g : Leg d) → G g → H g) → Reduced keep.Plain d S G → Reduced keep.Plain d S H

more_step : (d : ℕ) → PlainReducedForMore d → PlainReducedForMore (suc d)
more_step d ih S G H more r = record {
  regs = tt;
  sings = λ k l. ih _ _ _ (leads_into_more d S G H k more) (r.sings k l);
  hit = λ k l f b. hits_more d G H k more (r.hit k l f b);
}

pub plain_reduced_more : (d : ℕ) → PlainReducedForMore d
plain_reduced_more zero S G H more r = tt
plain_reduced_more (suc d) S G H more r = more_step d (plain_reduced_more d) S G H more r

-- ---- the plain normal form

-- N is that for T and the legs
pub record IsPlainNormal (d : ℕ) (T : Dia d) (legs : List (Leg d)) (N : Leg d) : Type 0 where
  pub into : FactorsInto d T legs N
  pub plain : PlainArrow d N.arrow
  pub reduced : Reduced keep.Plain d N.source (λ b. IsFactorOf d N.arrow (λ g. IsOneOf d legs g) b)

abbrev pub PlainFormsHold : ℕ → Type 0
PlainFormsHold d = (T : Dia d) (legs : List (Leg d)) → Valid d T → Plain d T → AreValid d T legs
    → IsPlainNormal d T legs (normal_form keep.Plain d T legs)

plain_base : PlainFormsHold zero
unfolding normal_form
plain_base T legs vT pT vl = record { into = identity_into zero T legs vT vl; plain = tt; reduced = tt }

module _ (d : ℕ) (ih : PlainFormsHold d) (T : Dia (suc d)) (legs : List (Leg (suc d)))
    (vT : Valid (suc d) T) (pT : Plain (suc d) T) (vl : AreValid (suc d) T legs) where
  abbrev n : ℕ
  n = length T.sings

  abbrev identity_leg : ℕ → Leg d
  identity_leg j = record { source = reg d T j; arrow = ident d (reg d T j) }

  abbrev regs : List (Leg d)
  regs = tab identity_leg (suc n)

  abbrev p : Parts d
  p = parts_over d (normal_form keep.Plain d) T legs regs

  abbrev kept : List ℕ
  kept = kept_heights d T legs p

  abbrev G : Leg (suc d) → Type 0
  G g = IsOneOf (suc d) legs g

  regs_len : length regs ≡ suc n
  regs_len = length-tab identity_leg (suc n)

  reg_is : (j : ℕ) → j ≤ n → leg_at d regs j ≡ identity_leg j
  reg_is j l = get-tab identity_leg (suc n) j (record { source = no_dia d; arrow = no_arr d }) (omega arith)

  reg_into : (j : ℕ) → j ≤ n → FactorsInto d (reg d T j) (regular_slices d legs j) (leg_at d regs j)
  reg_into j l = subst (FactorsInto d (reg d T j) (regular_slices d legs j)) (sym (reg_is j l))
      (identity_into d (reg d T j) (regular_slices d legs j) (vT.regs j l) (regular_valid d T legs vT vl j l))

  sing_plain : (k : ℕ) → k < n → IsPlainNormal d (sing d T k) (ways_into d T legs regs k) (normal_form keep.Plain d (sing d T k) (ways_into d T legs regs k))
  sing_plain k l = ih (sing d T k) (ways_into d T legs regs k) (vT.sings k l) (pT.sings k l) (ways_valid d T legs vT vl regs regs_len reg_into k l)

  part_plain : (k : ℕ) → k < n → IsPlainNormal d (sing d T k) (ways_into d T legs regs k) (sing_part d p k)
  part_plain k l = subst (IsPlainNormal d (sing d T k) (ways_into d T legs regs k))
      (sym (part_is d T legs vT vl regs regs_len reg_into (normal_form keep.Plain d) (λ k l. (sing_plain k l).into) k l)) (sing_plain k l)

  good : GoodParts d T G p kept
  good = good_parts d T legs vT vl regs regs_len reg_into (normal_form keep.Plain d) (λ k l. (sing_plain k l).into)

  arrow_plain : PlainArrow (suc d) (assembled d T p kept).arrow
  arrow_plain =
      let rl = regs_len in
      let al = arrow-regs_len d T p kept in
      let sl = arrow-sings_len d T p kept in
      record {
        regs = λ j l. subst (IsIdentity d)
            (sym (arrow-reg d T p kept j (omega arith) ∙ ap (λ (t : Leg d). t.arrow) (reg_is j (omega arith))))
            (identities_have_shape d (reg d T j) (vT.regs j (omega arith)));
        sings = λ i l.
            let li : i < length kept = omega arith in
            subst (PlainArrow d) (sym (arrow-sing d T p kept i li)) (part_plain (get_or kept i 0) (kept_within d T G p kept good i li)).plain;
      }

  source_reduced : Reduced keep.Plain (suc d) (assembled d T p kept).source (λ b. IsFactorOf (suc d) (assembled d T p kept).arrow G b)
  source_reduced =
      let m = assembled-sings_len d T p kept in
      let F : Leg (suc d) → Type 0 = λ b. IsFactorOf (suc d) (assembled d T p kept).arrow G b in
      record {
        regs = tt;
        sings = λ i l.
            let li : i < length kept = omega arith in
            let k : ℕ = get_or kept i 0 in
            subst (λ (t : Dia d). Reduced keep.Plain d t (λ b. LeadsInto d (assembled d T p kept).source F i b)) (sym (assembled-sing d T p kept i li))
            (plain_reduced_more d _ _ _
            (λ b x. singular_included d T G p kept good i li b (x.0, from_ways d legs T regs k x.0 x.1, x.2))
            (part_plain k (kept_within d T G p kept good i li)).reduced);
        hit = λ i l f b.
            let li : i < length kept = omega arith in
            hit_included d T G p kept good i li (hit_where_flat d legs T p i li (subst (IsIdentity d) (assembled-fwd d T p kept i li) f)
            (subst (IsIdentity d) (assembled-bwd d T p kept i li) b));
      }

  plain_step : IsPlainNormal (suc d) T legs (normal_form keep.Plain (suc d) T legs)
  unfolding normal_form
  plain_step = record { into = assembled_into d T legs p good; plain = arrow_plain; reduced = source_reduced }

pub plain_forms_hold : (d : ℕ) → PlainFormsHold d
plain_forms_hold zero = plain_base
plain_forms_hold (suc d) = plain_step d (plain_forms_hold d)
