-- The whole region: it is closed, its preimages are whole, and a cut at it is what was cut.
use Rattle.std.proofs.Common.{◌≡◌, ℕ, zero, suc, ◌-◌, ◌<◌, ◌≤◌, length, refl, sym, ap, ◌∙◌, subst, arith, inl, inr}
use Rattle.std.proofs.lemmas.Bool.{cases_lt}
use Rattle.diagram_terms.specs.Family.{Dia, Arr, reg, sing, fwd, bwd, height, arrow_reg, arrow_sing}
use Rattle.diagram_terms.specs.Dual.{dual}
use Rattle.diagram_terms.specs.Valid.{ValidArrow, Valid}
use Rattle.diagram_terms.proofs.Duals.{dual-zero, dual_full, same_numbers}
use Rattle.diagram_terms.proofs.Parts.{same_arrows, same_diagrams}
use Rattle.map_laws.proofs.ValidParts.{height_within}
use Rattle.diagram_terms.specs.Regions.{Reg, no_region, reg_region, sing_region, IsRegionOf, whole_region}
use Rattle.diagram_terms.specs.ClosedRegions.{IsClosed}
use Rattle.diagram_terms.specs.Preimages.{preimage}
use Rattle.diagram_terms.specs.Cuts.{cut_arrow, cut_diagram}
use Rattle.region_laws.specs.Laws.{WholeRegionsAreClosed, PreimagesOfWholeRegions, CutsAtWholeRegions, CutsOfArrowsAtWholeRegions}
use Rattle.region_laws.proofs.RegionParts.{length-tab_from, get-tab_from, same_regions, preimage-from, preimage-to, preimage-sing, preimage-after, preimage-first, preimage-alone}
use Rattle.region_laws.proofs.PreimageRegions.{first_or_after, preimages_are_regions}
use Rattle.region_laws.proofs.CutParts.{cut-regs_len, cut-sings_len, cut-fwds_len, cut-bwds_len, cut-reg, cut-sing, cut-fwd, cut-bwd, cut_arrow-heights_len, cut_arrow-regs_len, cut_arrow-sings_len, cut_arrow-height, cut_arrow-reg, cut_arrow-sing}

-- ---- the parts

module _ (d : ℕ) (X : Dia (suc d)) where
  pub whole-from : (whole_region (suc d) X).from ≡ 0
  unfolding whole_region
  whole-from = refl

  pub whole-to : (whole_region (suc d) X).to ≡ length X.sings
  unfolding whole_region
  whole-to = refl

  pub whole-regs_len : length (whole_region (suc d) X).regs ≡ suc (length X.sings)
  unfolding whole_region
  whole-regs_len = length-tab_from (λ j. whole_region d (reg d X j)) 0 (suc (length X.sings))

  pub whole-sings_len : length (whole_region (suc d) X).sings ≡ length X.sings
  unfolding whole_region
  whole-sings_len = length-tab_from (λ i. whole_region d (sing d X i)) 0 (length X.sings)

  pub whole-reg : (j : ℕ) → j ≤ length X.sings → reg_region d (whole_region (suc d) X) j ≡ whole_region d (reg d X j)
  unfolding whole_region
  whole-reg j l = get-tab_from (λ j. whole_region d (reg d X j)) 0 (suc (length X.sings)) (j - 0) j (no_region d) (omega arith) (omega arith)

  pub whole-sing : (i : ℕ) → i < length X.sings → sing_region d (whole_region (suc d) X) i ≡ whole_region d (sing d X i)
  unfolding whole_region
  whole-sing i l = get-tab_from (λ i. whole_region d (sing d X i)) 0 (length X.sings) (i - 0) i (no_region d) (omega arith) (omega arith)

-- ---- it is a region

pub whole_is_region : (d : ℕ) (X : Dia d) → IsRegionOf d X (whole_region d X)
whole_is_region zero X = tt
whole_is_region (suc d) X =
    let a = whole-from d X in
    let b = whole-to d X in
    let rl = whole-regs_len d X in
    let sl = whole-sings_len d X in
    record {
      order = omega arith;
      within = omega arith;
      regs_len = omega arith;
      sings_len = omega arith;
      regs = λ j low high. subst (IsRegionOf d (reg d X j)) (sym (whole-reg d X j (omega arith))) (whole_is_region d (reg d X j));
      sings = λ i low high. subst (IsRegionOf d (sing d X i)) (sym (whole-sing d X i (omega arith))) (whole_is_region d (sing d X i));
    }

-- ---- its preimages, one level up

module _ (d : ℕ) (ih : PreimagesOfWholeRegions d) (X Y : Dia (suc d)) (f : Arr (suc d)) (vX : Valid (suc d) X) (vf : ValidArrow (suc d) X Y f) where
  abbrev W : Reg (suc d)
  W = whole_region (suc d) Y

  abbrev V : Reg (suc d)
  V = preimage (suc d) X f W

  dual_from : dual f.heights W.from ≡ 0
  dual_from = ap (dual f.heights) (whole-from d Y) ∙ dual-zero f.heights vf.monotone

  dual_to : dual f.heights W.to ≡ length X.sings
  dual_to = ap (dual f.heights) (whole-to d Y) ∙ dual_full f.heights vf.monotone (length Y.sings) (length Y.sings) vf.below (omega arith) ∙ vf.heights_len

  sing_whole : (i : ℕ) → i < length X.sings → sing_region d V i ≡ whole_region d (sing d X i)
  sing_whole i l =
      let a = dual_from in
      let b = dual_to in
      preimage-sing d X f W i (omega arith) (omega arith)
      ∙ ap (preimage d (sing d X i) (arrow_sing d f i)) (whole-sing d Y (height d f i) (height_within d X Y f vf i l))
      ∙ ih (sing d X i) (sing d Y (height d f i)) (arrow_sing d f i) (vX.sings i l) (vf.sings i l)

  reg_whole : (j : ℕ) → j ≤ length X.sings → reg_region d V j ≡ whole_region d (reg d X j)
  reg_whole j l =
      let a = dual_from in
      let b = dual_to in
      elim (first_or_after 0 j (omega arith)) [
        | inr p ↦ (
            let i : ℕ = p.0 in
            let e = p.2 in
            let here : i < length X.sings = omega arith in
            subst (λ (k : ℕ). reg_region d V k ≡ whole_region d (reg d X k)) e
            (preimage-after d X f W i (omega arith) (omega arith)
            ∙ ap (preimage d (reg d X (suc i)) (bwd d X i)) (sing_whole i here)
            ∙ ih (reg d X (suc i)) (sing d X i) (bwd d X i) (vX.regs (suc i) here) (vX.bwds i here)))
        | inl e ↦ elim (cases_lt j (length X.sings)) [
          | inl q ↦ preimage-first d X f W j (omega arith) (omega arith)
              ∙ ap (preimage d (reg d X j) (fwd d X j)) (sing_whole j q)
              ∙ ih (reg d X j) (sing d X j) (fwd d X j) (vX.regs j l) (vX.fwds j q)
          | inr q ↦ (
              let z : W.from ≡ 0 = whole-from d Y in
              let same : dual f.heights 0 ≡ j = dual-zero f.heights vf.monotone ∙ sym e in
              preimage-alone d X f W j (omega arith) (omega arith)
              ∙ ap (λ (k : ℕ). preimage d (reg d X j) (arrow_reg d f k) (reg_region d W k)) z
              ∙ ap (preimage d (reg d X j) (arrow_reg d f 0)) (whole-reg d Y 0 (omega arith))
              ∙ ih (reg d X j) (reg d Y 0) (arrow_reg d f 0) (vX.regs j l)
              (subst (λ (k : ℕ). ValidArrow d (reg d X k) (reg d Y 0) (arrow_reg d f 0)) same (vf.regs 0 (omega arith))))
        ]
      ]

  preimage_step : V ≡ whole_region (suc d) X
  preimage_step =
      let a = dual_from in
      let b = dual_to in
      let p = preimage-from d X f W in
      let q = preimage-to d X f W in
      same_regions d X V (whole_region (suc d) X) (preimages_are_regions (suc d) X Y f W vX vf (whole_is_region (suc d) Y)) (whole_is_region (suc d) X)
      (p ∙ a ∙ sym (whole-from d X)) (q ∙ b ∙ sym (whole-to d X))
      (λ j low high. reg_whole j (omega arith) ∙ sym (whole-reg d X j (omega arith)))
      (λ i low high. sing_whole i (omega arith) ∙ sym (whole-sing d X i (omega arith)))

pub preimages_of_whole_regions : (d : ℕ) → PreimagesOfWholeRegions d
preimages_of_whole_regions zero = λ x y f vx vf. refl
preimages_of_whole_regions (suc d) = preimage_step d (preimages_of_whole_regions d)

-- ---- it is closed

whole_is_closed : (d : ℕ) (X : Dia d) → Valid d X → IsClosed d X (whole_region d X)
whole_is_closed zero X v = tt
whole_is_closed (suc d) X v =
    let a = whole-from d X in
    let b = whole-to d X in
    record {
      regs = λ j low high. subst (IsClosed d (reg d X j)) (sym (whole-reg d X j (omega arith))) (whole_is_closed d (reg d X j) (v.regs j (omega arith)));
      sings = λ i low high. subst (IsClosed d (sing d X i)) (sym (whole-sing d X i (omega arith))) (whole_is_closed d (sing d X i) (v.sings i (omega arith)));
      fwds = λ i low high.
          ap (preimage d (reg d X i) (fwd d X i)) (whole-sing d X i (omega arith))
          ∙ preimages_of_whole_regions d (reg d X i) (sing d X i) (fwd d X i) (v.regs i (omega arith)) (v.fwds i (omega arith))
          ∙ sym (whole-reg d X i (omega arith));
      bwds = λ i low high.
          ap (preimage d (reg d X (suc i)) (bwd d X i)) (whole-sing d X i (omega arith))
          ∙ preimages_of_whole_regions d (reg d X (suc i)) (sing d X i) (bwd d X i) (v.regs (suc i) (omega arith)) (v.bwds i (omega arith))
          ∙ sym (whole-reg d X (suc i) (omega arith));
    }

pub whole_regions_are_closed : (d : ℕ) → WholeRegionsAreClosed d
whole_regions_are_closed d X v = record { region = whole_is_region d X; closed = whole_is_closed d X v }

-- ---- cuts at it, one level up

module _ (d : ℕ) (ih : CutsOfArrowsAtWholeRegions d) (X Y : Dia (suc d)) (f : Arr (suc d)) (vf : ValidArrow (suc d) X Y f) where
  arrow_step : cut_arrow (suc d) f (whole_region (suc d) Y) ≡ f
  arrow_step =
      let W : Reg (suc d) = whole_region (suc d) Y in
      let part : Arr (suc d) = cut_arrow (suc d) f W in
      let wf = whole-from d Y in
      let wt = whole-to d Y in
      let a : dual f.heights W.from ≡ 0 = ap (dual f.heights) wf ∙ dual-zero f.heights vf.monotone in
      let b : dual f.heights W.to ≡ length X.sings =
      ap (dual f.heights) wt ∙ dual_full f.heights vf.monotone (length Y.sings) (length Y.sings) vf.below (omega arith) ∙ vf.heights_len in
      let hl = cut_arrow-heights_len d f W in
      let rl = cut_arrow-regs_len d f W in
      let sl = cut_arrow-sings_len d f W in
      let fh = vf.heights_len in
      let fr = vf.regs_len in
      let fs = vf.sings_len in
      same_arrows d part f
      (same_numbers part.heights f.heights (omega arith) (λ i l. let e = cut_arrow-height d f W i i (omega arith) (omega arith) in omega arith))
      (omega arith) (λ j l.
      cut_arrow-reg d f W j j (omega arith) (omega arith)
      ∙ ap (cut_arrow d (arrow_reg d f j)) (whole-reg d Y j (omega arith))
      ∙ ih (reg d X (dual f.heights j)) (reg d Y j) (arrow_reg d f j) (vf.regs j (omega arith)))
      (omega arith) (λ i l.
      cut_arrow-sing d f W i i (omega arith) (omega arith)
      ∙ ap (cut_arrow d (arrow_sing d f i)) (whole-sing d Y (height d f i) (height_within d X Y f vf i (omega arith)))
      ∙ ih (sing d X i) (sing d Y (height d f i)) (arrow_sing d f i) (vf.sings i (omega arith)))

arrow_base : CutsOfArrowsAtWholeRegions zero
unfolding cut_arrow
arrow_base x y f vf = refl

pub cuts_of_arrows_at_whole_regions : (d : ℕ) → CutsOfArrowsAtWholeRegions d
cuts_of_arrows_at_whole_regions zero = arrow_base
cuts_of_arrows_at_whole_regions (suc d) = arrow_step d (cuts_of_arrows_at_whole_regions d)

module _ (d : ℕ) (ih : CutsAtWholeRegions d) (X : Dia (suc d)) (vX : Valid (suc d) X) where
  diagram_step : cut_diagram (suc d) X (whole_region (suc d) X) ≡ X
  diagram_step =
      let W : Reg (suc d) = whole_region (suc d) X in
      let wf = whole-from d X in
      let wt = whole-to d X in
      let rl = cut-regs_len d X W in
      let sl = cut-sings_len d X W in
      let fl = cut-fwds_len d X W in
      let bl = cut-bwds_len d X W in
      let x1 = vX.regs_len in
      let x2 = vX.fwds_len in
      let x3 = vX.bwds_len in
      same_diagrams d (cut_diagram (suc d) X W) X
      (omega arith) (λ j l.
      cut-reg d X W j j (omega arith) (omega arith) ∙ ap (cut_diagram d (reg d X j)) (whole-reg d X j (omega arith)) ∙ ih (reg d X j) (vX.regs j (omega arith)))
      (omega arith) (λ i l.
      cut-sing d X W i i (omega arith) (omega arith) ∙ ap (cut_diagram d (sing d X i)) (whole-sing d X i (omega arith)) ∙ ih (sing d X i) (vX.sings i (omega arith)))
      (omega arith) (λ k l.
      cut-fwd d X W k k (omega arith) (omega arith) ∙ ap (cut_arrow d (fwd d X k)) (whole-sing d X k (omega arith))
      ∙ cuts_of_arrows_at_whole_regions d (reg d X k) (sing d X k) (fwd d X k) (vX.fwds k (omega arith)))
      (omega arith) (λ k l.
      cut-bwd d X W k k (omega arith) (omega arith) ∙ ap (cut_arrow d (bwd d X k)) (whole-sing d X k (omega arith))
      ∙ cuts_of_arrows_at_whole_regions d (reg d X (suc k)) (sing d X k) (bwd d X k) (vX.bwds k (omega arith)))

diagram_base : CutsAtWholeRegions zero
unfolding cut_diagram
diagram_base x v = refl

pub cuts_at_whole_regions : (d : ℕ) → CutsAtWholeRegions d
cuts_at_whole_regions zero = diagram_base
cuts_at_whole_regions (suc d) = diagram_step d (cuts_at_whole_regions d)
