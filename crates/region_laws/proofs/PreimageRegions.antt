-- The preimage of a region is a region.
use Rattle.std.proofs.Common.{◌≡◌, ℕ, zero, suc, ◌<◌, ◌≤◌, ◌⊎◌, length, refl, sym, subst, arith, inl, inr}
use Rattle.std.proofs.lemmas.Bool.{cases_lt}
use Rattle.diagram_terms.specs.Family.{Dia, Arr, reg, sing, fwd, bwd, height, arrow_reg, arrow_sing}
use Rattle.diagram_terms.specs.Dual.{dual}
use Rattle.diagram_terms.specs.Valid.{ValidArrow, Valid}
use Rattle.diagram_terms.proofs.Duals.{dual-lt, dual_mono}
use Rattle.diagram_terms.proofs.MonotoneParts.{dual-ge}
use Rattle.map_laws.proofs.ValidParts.{dual_within}
use Rattle.diagram_terms.specs.Regions.{Reg, reg_region, sing_region, IsRegionOf}
use Rattle.diagram_terms.specs.Preimages.{preimage}
use Rattle.region_laws.specs.Laws.{PreimagesAreRegions}
use Rattle.region_laws.proofs.RegionParts.{preimage-from, preimage-to, preimage-regs_len, preimage-sings_len, preimage-sing, preimage-after, preimage-first, preimage-alone}

-- ---- the interval of a preimage under f : X → Y of W

module _ (d : ℕ) (X Y : Dia (suc d)) (f : Arr (suc d)) (W : Reg (suc d)) (vf : ValidArrow (suc d) X Y f) (rW : IsRegionOf (suc d) Y W) where
  pub interval_order : dual f.heights W.from ≤ dual f.heights W.to
  interval_order = dual_mono f.heights vf.monotone W.from W.to rW.order

  pub interval_within : dual f.heights W.to ≤ length X.sings
  interval_within = dual_within d X Y f vf W.to

  -- a singular height of it goes into the interval of W
  pub goes_from : (i : ℕ) → dual f.heights W.from ≤ i → i < dual f.heights W.to → W.from ≤ height d f i
  goes_from i low high =
      let n = interval_within in
      let l = vf.heights_len in
      dual-ge f.heights vf.monotone i W.from low (omega arith)

  pub goes_to : (i : ℕ) → i < dual f.heights W.to → height d f i < W.to
  goes_to i high = dual-lt f.heights vf.monotone i W.to high

-- a number from a on is a or follows such a number
pub first_or_after : (a j : ℕ) → a ≤ j → (j ≡ a) ⊎ ((i : ℕ) × (a ≤ i) × (suc i ≡ j))
first_or_after a zero l = inl (omega arith)
first_or_after a (suc i) l = elim (cases_lt i a) [
  | inl p ↦ inl (omega arith)
  | inr p ↦ inr (i, p, refl)
]

-- ---- one level up

module _ (d : ℕ) (ih : PreimagesAreRegions d) (X Y : Dia (suc d)) (f : Arr (suc d)) (W : Reg (suc d)) (vX : Valid (suc d) X)
    (vf : ValidArrow (suc d) X Y f) (rW : IsRegionOf (suc d) Y W) where
  at_sing : (i : ℕ) → dual f.heights W.from ≤ i → i < dual f.heights W.to → IsRegionOf d (sing d X i) (sing_region d (preimage (suc d) X f W) i)
  at_sing i low high =
      let n = interval_within d X Y f W vf rW in
      subst (IsRegionOf d (sing d X i)) (sym (preimage-sing d X f W i low high))
      (ih (sing d X i) (sing d Y (height d f i)) (arrow_sing d f i) (sing_region d W (height d f i)) (vX.sings i (omega arith)) (vf.sings i (omega arith))
      (rW.sings (height d f i) (goes_from d X Y f W vf rW i low high) (goes_to d X Y f W vf rW i high)))

  at_reg : (j : ℕ) → dual f.heights W.from ≤ j → j ≤ dual f.heights W.to → IsRegionOf d (reg d X j) (reg_region d (preimage (suc d) X f W) j)
  at_reg j low high =
      let n = interval_within d X Y f W vf rW in
      let m = vf.below in
      elim (first_or_after (dual f.heights W.from) j low) [
        | inr p ↦ (
            let i : ℕ = p.0 in
            let here : i < length X.sings = omega arith in
            subst (λ (k : ℕ). IsRegionOf d (reg d X k) (reg_region d (preimage (suc d) X f W) k)) p.2
            (subst (IsRegionOf d (reg d X (suc i))) (sym (preimage-after d X f W i p.1 (omega arith)))
            (ih (reg d X (suc i)) (sing d X i) (bwd d X i) _ (vX.regs (suc i) here) (vX.bwds i here) (at_sing i p.1 (omega arith)))))
        | inl e ↦ elim (cases_lt j (dual f.heights W.to)) [
          | inl q ↦ (
              let here : j < length X.sings = omega arith in
              subst (IsRegionOf d (reg d X j)) (sym (preimage-first d X f W j e q))
              (ih (reg d X j) (sing d X j) (fwd d X j) _ (vX.regs j (omega arith)) (vX.fwds j here) (at_sing j low q)))
          | inr q ↦ (
              let w = rW.order in
              let ww = rW.within in
              subst (IsRegionOf d (reg d X j)) (sym (preimage-alone d X f W j e (omega arith)))
              (ih (reg d X j) (reg d Y W.from) (arrow_reg d f W.from) (reg_region d W W.from) (vX.regs j (omega arith))
              (subst (λ (k : ℕ). ValidArrow d (reg d X k) (reg d Y W.from) (arrow_reg d f W.from)) (sym e) (vf.regs W.from (omega arith)))
              (rW.regs W.from (omega arith) w)))
        ]
      ]

  step : IsRegionOf (suc d) X (preimage (suc d) X f W)
  step =
      let a = preimage-from d X f W in
      let b = preimage-to d X f W in
      let o = interval_order d X Y f W vf rW in
      let n = interval_within d X Y f W vf rW in
      let rl = preimage-regs_len d X f W in
      let sl = preimage-sings_len d X f W in
      record {
        order = omega arith;
        within = omega arith;
        regs_len = omega arith;
        sings_len = omega arith;
        regs = λ j low high. at_reg j (omega arith) (omega arith);
        sings = λ i low high. at_sing i (omega arith) (omega arith);
      }

pub preimages_are_regions : (d : ℕ) → PreimagesAreRegions d
preimages_are_regions zero = λ x y f W vx vf rW. tt
preimages_are_regions (suc d) = step d (preimages_are_regions d)
