-- The normal form of a valid diagram relative to valid legs: a degeneracy through which the legs factor, with a source that
-- is reduced for the factors.
use Rattle.std.proofs.Common.{◌≡◌, ℕ, zero, suc, ◌<◌, ◌≤◌, List, length, sym, subst, arith}
use Rattle.diagram_terms.specs.declared.place.Keep.TheVariants as keep
use Rattle.diagram_terms.specs.Family.{Dia, no_dia, no_arr, reg, sing}
use Rattle.diagram_terms.specs.Dual.{tab}
use Rattle.diagram_terms.specs.Composite.{ident}
use Rattle.diagram_terms.specs.Valid.{Valid}
use Rattle.diagram_terms.specs.Least.{Leg, leg_at, IsOneOf, Reduced}
use Rattle.diagram_terms.proofs.Duals.{length-tab, get-tab}
use Rattle.map_laws.proofs.ValidIdentities.{identities_are_valid}
use Rattle.map_laws.proofs.Neutral.{neutral_after}
use Rattle.map_laws.proofs.IdentityShapes.{identities_have_shape}
use Rattle.degeneracy_laws.proofs.ShapeComposites.{identity_shape}
use Rattle.diagram_terms.specs.Factors.{IsFactorOf}
use Rattle.diagram_terms.specs.NormalForms.{regular_slices, ways_into, Parts, kept_heights, parts_over, without_identities, normal_form}
use Rattle.normal_form_laws.proofs.Assembled.{GoodParts, assembled_valid, arrow_shape, legs_factor}
use Rattle.normal_form_laws.proofs.FoundFactors.{found_factor}
use Rattle.normal_form_laws.proofs.GoodSlices.{FactorsInto, AreValid, regular_valid, ways_valid, part_is, good_parts}
use Rattle.normal_form_laws.proofs.ReducedParts.{reduced_more, assembled_reduced}
use Rattle.normal_form_laws.proofs.SliceLegs.{from_regular_slices, from_ways, hit_where_flat}

-- N is that for T and the legs
pub record IsNormal (d : ℕ) (T : Dia d) (legs : List (Leg d)) (N : Leg d) : Type 0 where
  pub into : FactorsInto d T legs N
  pub reduced : Reduced keep.Free d N.source (λ b. IsFactorOf d N.arrow (λ g. IsOneOf d legs g) b)

abbrev pub NormalFormsHold : ℕ → Type 0
NormalFormsHold d = (T : Dia d) (legs : List (Leg d)) → Valid d T → AreValid d T legs → IsNormal d T legs (normal_form keep.Free d T legs)

-- legs factor through an identity
pub identity_into : (d : ℕ) (T : Dia d) (legs : List (Leg d)) → Valid d T → AreValid d T legs
    → FactorsInto d T legs (record { source = T; arrow = ident d T })
identity_into d T legs vT vl =
    let q = identity_shape d T T (ident d T) (identities_are_valid d T vT) (identities_have_shape d T vT) in
    record {
      valid = vT;
      shape = q;
      factors = λ g p.
          let v = (vl g p).arrow in
          found_factor d g.source T T g.arrow (ident d T) g.arrow q (record { valid = v; composite = neutral_after d g.source T g.arrow vT v });
    }

normal_base : NormalFormsHold zero
unfolding normal_form
normal_base T legs vT vl = record { into = identity_into zero T legs vT vl; reduced = tt }

-- what is assembled of good parts
pub assembled_into : (d : ℕ) (T : Dia (suc d)) (legs : List (Leg (suc d))) (p : Parts d)
    → GoodParts d T (λ g. IsOneOf (suc d) legs g) p (kept_heights d T legs p)
    → FactorsInto (suc d) T legs (without_identities d T legs p)
assembled_into d T legs p r = record {
  valid = assembled_valid d T (λ g. IsOneOf (suc d) legs g) p (kept_heights d T legs p) r;
  shape = arrow_shape d T (λ g. IsOneOf (suc d) legs g) p (kept_heights d T legs p) r;
  factors = legs_factor d T (λ g. IsOneOf (suc d) legs g) p (kept_heights d T legs p) r;
}

module _ (d : ℕ) (ih : NormalFormsHold d) (T : Dia (suc d)) (legs : List (Leg (suc d)))
    (vT : Valid (suc d) T) (vl : AreValid (suc d) T legs) where
  abbrev regs : List (Leg d)
  regs = tab (λ j. normal_form keep.Free d (reg d T j) (regular_slices d legs j)) (suc (length T.sings))

  abbrev p : Parts d
  p = parts_over d (normal_form keep.Free d) T legs regs

  regs_len : length regs ≡ suc (length T.sings)
  regs_len = length-tab (λ j. normal_form keep.Free d (reg d T j) (regular_slices d legs j)) (suc (length T.sings))

  reg_normal : (j : ℕ) → j ≤ length T.sings → IsNormal d (reg d T j) (regular_slices d legs j) (leg_at d regs j)
  reg_normal j l = subst (IsNormal d (reg d T j) (regular_slices d legs j))
      (sym (get-tab (λ j. normal_form keep.Free d (reg d T j) (regular_slices d legs j)) (suc (length T.sings)) j
      (record { source = no_dia d; arrow = no_arr d }) (omega arith)))
      (ih (reg d T j) (regular_slices d legs j) (vT.regs j l) (regular_valid d T legs vT vl j l))

  sing_normal : (k : ℕ) → k < length T.sings
      → IsNormal d (sing d T k) (ways_into d T legs regs k) (normal_form keep.Free d (sing d T k) (ways_into d T legs regs k))
  sing_normal k l = ih (sing d T k) (ways_into d T legs regs k) (vT.sings k l)
      (ways_valid d T legs vT vl regs regs_len (λ j l. (reg_normal j l).into) k l)

  good : GoodParts d T (λ g. IsOneOf (suc d) legs g) p (kept_heights d T legs p)
  good = good_parts d T legs vT vl regs regs_len (λ j l. (reg_normal j l).into) (normal_form keep.Free d) (λ k l. (sing_normal k l).into)

  normal_step : IsNormal (suc d) T legs (normal_form keep.Free (suc d) T legs)
  unfolding normal_form
  normal_step = record {
    into = assembled_into d T legs p good;
    reduced = assembled_reduced d T (λ g. IsOneOf (suc d) legs g) p (kept_heights d T legs p) good
        (λ k l. reduced_more d _ _ _ (λ b x. (x.0, from_regular_slices d legs k x.0 x.1, x.2)) (reg_normal k l).reduced)
        (λ k l. reduced_more d _ _ _ (λ b x. (x.0, from_ways d legs T regs k x.0 x.1, x.2))
        (subst (λ (t : Leg d). Reduced keep.Free d t.source (λ b. IsFactorOf d t.arrow (λ g. IsOneOf d (ways_into d T legs regs k) g) b))
        (sym (part_is d T legs vT vl regs regs_len (λ j l. (reg_normal j l).into) (normal_form keep.Free d) (λ k l. (sing_normal k l).into) k l))
        (sing_normal k l).reduced))
        (hit_where_flat d legs T p);
  }

pub normal_forms_hold : (d : ℕ) → NormalFormsHold d
normal_forms_hold zero = normal_base
normal_forms_hold (suc d) = normal_step d (normal_forms_hold d)
