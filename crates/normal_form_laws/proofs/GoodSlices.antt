-- Where the slices of T have degeneracies through which all that leads into them factors, they are good parts of T.
use Rattle.std.proofs.Common.{◌≡◌, ℕ, suc, ◌<◌, ◌≤◌, List, length, refl, sym, subst, arith, inl, inr}
use Rattle.diagram_terms.specs.Family.{Dia, no_dia, no_arr, reg, sing, fwd, bwd, height}
use Rattle.diagram_terms.specs.Valid.{Valid}
use Rattle.diagram_terms.specs.Degeneracy.{DegeneracyByShape}
use Rattle.diagram_terms.specs.Least.{Leg, leg_at, ValidLeg, FactorsBy, reg_leg, sing_leg, IsOneOf}
use Rattle.diagram_terms.proofs.Duals.{get-tab}
use Rattle.map_laws.proofs.ValidComposites.{composites_are_valid}
use Rattle.map_laws.proofs.ValidParts.{height_within}
use Rattle.degeneracy_laws.proofs.ShapeComposites.{shape_valid}
use Rattle.diagram_terms.specs.Factors.{factor_through}
use Rattle.diagram_terms.specs.NormalForms.{regular_slices, Parts, sing_part, fwd_way, bwd_way, ways_into, kept_heights, parts_over}
use Rattle.normal_form_laws.proofs.Assembled.{GoodParts}
use Rattle.normal_form_laws.proofs.ValidSlices.{regular_slice_valid, slice_over_valid}
use Rattle.normal_form_laws.proofs.SliceLegs.{in_regular_slices, from_regular_slices, in_ways, from_ways, kept_increasing, kept_below, kept_where_hit, flat_where_dropped}

-- N is a valid diagram with an arrow of the shape of a degeneracy into T, through which the legs factor
pub record FactorsInto (d : ℕ) (T : Dia d) (legs : List (Leg d)) (N : Leg d) : Type 0 where
  pub valid : Valid d N.source
  pub shape : DegeneracyByShape d N.source T N.arrow
  pub factors : (g : Leg d) → IsOneOf d legs g → FactorsBy d g.source N.source g.arrow N.arrow (factor_through d N.arrow g.arrow)

-- each of the legs of a list is valid
abbrev pub AreValid : (d : ℕ) → Dia d → List (Leg d) → Type 0
AreValid d T legs = (g : Leg d) → IsOneOf d legs g → ValidLeg d T g

module _ (d : ℕ) (T : Dia (suc d)) (legs : List (Leg (suc d))) (vT : Valid (suc d) T) (vl : AreValid (suc d) T legs) where
  abbrev n : ℕ
  n = length T.sings

  pub regular_valid : (j : ℕ) → j ≤ n → AreValid d (reg d T j) (regular_slices d legs j)
  regular_valid j l b p = regular_slice_valid d T (λ g. IsOneOf (suc d) legs g) vl j l b (from_regular_slices d legs j b p)

  module _ (regs : List (Leg d)) (regs_len : length regs ≡ suc n)
      (reg_into : (j : ℕ) → j ≤ n → FactorsInto d (reg d T j) (regular_slices d legs j) (leg_at d regs j)) where
    pub ways_valid : (k : ℕ) → k < n → AreValid d (sing d T k) (ways_into d T legs regs k)
    ways_valid k l b p = elim (from_ways d legs T regs k b p) [
      | inl x ↦ slice_over_valid d T (λ g. IsOneOf (suc d) legs g) vl k b x
      | inr y ↦ elim y [
        | inl e ↦ (let f = reg_into k (omega arith) in
            subst (ValidLeg d (sing d T k)) (sym e) (record {
              source = f.valid;
              arrow = composites_are_valid d _ _ _ (leg_at d regs k).arrow (fwd d T k) f.valid (vT.regs k (omega arith)) (vT.sings k l)
                  (shape_valid d _ _ _ f.shape) (vT.fwds k l);
            }))
        | inr e ↦ (let f = reg_into (suc k) l in
            subst (ValidLeg d (sing d T k)) (sym e) (record {
              source = f.valid;
              arrow = composites_are_valid d _ _ _ (leg_at d regs (suc k)).arrow (bwd d T k) f.valid (vT.regs (suc k) l) (vT.sings k l)
                  (shape_valid d _ _ _ f.shape) (vT.bwds k l);
            }))
      ]
    ]

    module _ (normal : Dia d → List (Leg d) → Leg d)
        (sing_into : (k : ℕ) → k < n → FactorsInto d (sing d T k) (ways_into d T legs regs k) (normal (sing d T k) (ways_into d T legs regs k))) where
      abbrev p : Parts d
      p = parts_over d normal T legs regs

      pub part_is : (k : ℕ) → k < n → sing_part d p k ≡ normal (sing d T k) (ways_into d T legs regs k)
      part_is k l = get-tab (λ k. normal (sing d T k) (ways_into d T legs regs k)) n k (record { source = no_dia d; arrow = no_arr d }) l

      at_part : (k : ℕ) → k < n → FactorsInto d (sing d T k) (ways_into d T legs regs k) (sing_part d p k)
      at_part k l = subst (FactorsInto d (sing d T k) (ways_into d T legs regs k)) (sym (part_is k l)) (sing_into k l)

      pub good_parts : GoodParts d T (λ g. IsOneOf (suc d) legs g) p (kept_heights d T legs p)
      good_parts = record {
        vT = vT;
        legs = vl;
        regs_len = regs_len;
        reg_valid = λ k l. (reg_into k l).valid;
        reg_shape = λ k l. (reg_into k l).shape;
        sing_valid = λ k l. (at_part k l).valid;
        sing_shape = λ k l. (at_part k l).shape;
        fwd_by = λ k l. (at_part k l).factors (fwd_way d T regs k) (in_ways d legs T regs k (fwd_way d T regs k) (inr (inl refl)));
        bwd_by = λ k l. (at_part k l).factors (bwd_way d T regs k) (in_ways d legs T regs k (bwd_way d T regs k) (inr (inr refl)));
        reg_legs = λ g q k l. (reg_into k l).factors (reg_leg d g k) (in_regular_slices d legs k (reg_leg d g k) (g, q, refl));
        sing_legs = λ g q i k l at.
            let h : k < n = subst (λ (m : ℕ). m < n) at (height_within d g.source T g.arrow (vl g q).arrow i l) in
            (at_part k h).factors (sing_leg d g i) (in_ways d legs T regs k (sing_leg d g i)
            (inl (record { g = g; is_leg = q; i = i; within = l; goes = at }, refl)));
        increasing = kept_increasing d legs T p;
        below = kept_below d legs T p;
        missed_fwds = λ k l e. (flat_where_dropped d legs T p k l e).0;
        missed_bwds = λ k l e. (flat_where_dropped d legs T p k l e).1;
        hits = λ g q i l. kept_where_hit d legs T p (height d g.arrow i) (height_within d g.source T g.arrow (vl g q).arrow i l)
            (record { g = g; is_leg = q; i = i; within = l; goes = refl });
      }
