-- A region of a cut, as a region of what was cut; and cuts of cuts.
use Rattle.std.proofs.Common.{◌≡◌, ℕ, zero, suc, ◌+◌, ◌-◌, ◌<◌, ◌≤◌, length, refl, sym, ap, ◌∙◌, subst, arith}
use Rattle.diagram_terms.specs.Family.{Dia, Arr, reg, sing, fwd, bwd, height, arrow_reg, arrow_sing}
use Rattle.diagram_terms.specs.Dual.{dual}
use Rattle.diagram_terms.specs.Valid.{ValidArrow, Valid}
use Rattle.diagram_terms.proofs.Duals.{dual_mono, same_numbers}
use Rattle.diagram_terms.proofs.Parts.{same_arrows, same_diagrams}
use Rattle.diagram_terms.specs.Regions.{Reg, no_region, reg_region, sing_region, IsRegionOf}
use Rattle.diagram_terms.specs.Cuts.{cut_arrow, cut_diagram}
use Rattle.diagram_terms.specs.CutsOfCuts.{uncut_region}
use Rattle.region_laws.specs.Laws.{UncutRegionsAreRegions, CutsOfCuts, CutsOfCutArrows}
use Rattle.region_laws.proofs.RegionParts.{length-tab_from, get-tab_from}
use Rattle.region_laws.proofs.PreimageRegions.{interval_within, goes_from, goes_to}
use Rattle.region_laws.proofs.CutParts.{cut-regs_len, cut-sings_len, cut-fwds_len, cut-bwds_len, cut-reg, cut-sing, cut-fwd, cut-bwd, cut_arrow-heights_len, cut_arrow-regs_len, cut_arrow-sings_len, cut_arrow-height, cut_arrow-reg, cut_arrow-sing, cut-dual}

-- ---- the parts

module _ (d : ℕ) (W V : Reg (suc d)) where
  pub uncut-from : (uncut_region (suc d) W V).from ≡ W.from + V.from
  unfolding uncut_region
  uncut-from = refl

  pub uncut-to : (uncut_region (suc d) W V).to ≡ W.from + V.to
  unfolding uncut_region
  uncut-to = refl

  pub uncut-regs_len : length (uncut_region (suc d) W V).regs ≡ suc (V.to - V.from)
  unfolding uncut_region
  uncut-regs_len = length-tab_from (λ j. uncut_region d (reg_region d W j) (reg_region d V (j - W.from))) (W.from + V.from) (suc (V.to - V.from))

  pub uncut-sings_len : length (uncut_region (suc d) W V).sings ≡ V.to - V.from
  unfolding uncut_region
  uncut-sings_len = length-tab_from (λ i. uncut_region d (sing_region d W i) (sing_region d V (i - W.from))) (W.from + V.from) (V.to - V.from)

  pub uncut-reg : (j k : ℕ) → W.from + j ≡ k → V.from ≤ j → j ≤ V.to
      → reg_region d (uncut_region (suc d) W V) k ≡ uncut_region d (reg_region d W k) (reg_region d V j)
  unfolding uncut_region
  uncut-reg j k e low high =
      let same : k - W.from ≡ j = omega arith in
      get-tab_from (λ j. uncut_region d (reg_region d W j) (reg_region d V (j - W.from))) (W.from + V.from) (suc (V.to - V.from))
      (k - (W.from + V.from)) k (no_region d) (omega arith) (omega arith)
      ∙ ap (λ (n : ℕ). uncut_region d (reg_region d W k) (reg_region d V n)) same

  pub uncut-sing : (i k : ℕ) → W.from + i ≡ k → V.from ≤ i → i < V.to
      → sing_region d (uncut_region (suc d) W V) k ≡ uncut_region d (sing_region d W k) (sing_region d V i)
  unfolding uncut_region
  uncut-sing i k e low high =
      let same : k - W.from ≡ i = omega arith in
      get-tab_from (λ i. uncut_region d (sing_region d W i) (sing_region d V (i - W.from))) (W.from + V.from) (V.to - V.from)
      (k - (W.from + V.from)) k (no_region d) (omega arith) (omega arith)
      ∙ ap (λ (n : ℕ). uncut_region d (sing_region d W k) (sing_region d V n)) same

-- ---- a region V of the cut of X at W

module _ (d : ℕ) (X : Dia (suc d)) (W V : Reg (suc d)) (rW : IsRegionOf (suc d) X W) (rV : IsRegionOf (suc d) (cut_diagram (suc d) X W) V) where
  -- its interval inside that of W
  pub inner_within : W.from + V.to ≤ W.to
  inner_within =
      let o = rW.order in
      let n = rV.within in
      let l = cut-sings_len d X W in
      omega arith

  pub inner_reg : (j k : ℕ) → W.from + j ≡ k → V.from ≤ j → j ≤ V.to → IsRegionOf d (cut_diagram d (reg d X k) (reg_region d W k)) (reg_region d V j)
  inner_reg j k e low high =
      let n = inner_within in
      subst (λ (D : Dia d). IsRegionOf d D (reg_region d V j)) (cut-reg d X W j k e (omega arith)) (rV.regs j low high)

  pub inner_sing : (i k : ℕ) → W.from + i ≡ k → V.from ≤ i → i < V.to → IsRegionOf d (cut_diagram d (sing d X k) (sing_region d W k)) (sing_region d V i)
  inner_sing i k e low high =
      let n = inner_within in
      subst (λ (D : Dia d). IsRegionOf d D (sing_region d V i)) (cut-sing d X W i k e (omega arith)) (rV.sings i low high)

  module _ (ih : UncutRegionsAreRegions d) where
    region_step : IsRegionOf (suc d) X (uncut_region (suc d) W V)
    region_step =
        let n = inner_within in
        let o = rV.order in
        let w = rW.within in
        let a = uncut-from d W V in
        let b = uncut-to d W V in
        let rl = uncut-regs_len d W V in
        let sl = uncut-sings_len d W V in
        record {
          order = omega arith;
          within = omega arith;
          regs_len = omega arith;
          sings_len = omega arith;
          regs = λ k low high.
              let j : ℕ = k - W.from in
              let e : W.from + j ≡ k = omega arith in
              subst (IsRegionOf d (reg d X k)) (sym (uncut-reg d W V j k e (omega arith) (omega arith)))
              (ih (reg d X k) (reg_region d W k) (reg_region d V j) (rW.regs k (omega arith) (omega arith)) (inner_reg j k e (omega arith) (omega arith)));
          sings = λ k low high.
              let i : ℕ = k - W.from in
              let e : W.from + i ≡ k = omega arith in
              subst (IsRegionOf d (sing d X k)) (sym (uncut-sing d W V i k e (omega arith) (omega arith)))
              (ih (sing d X k) (sing_region d W k) (sing_region d V i) (rW.sings k (omega arith) (omega arith)) (inner_sing i k e (omega arith) (omega arith)));
        }

pub uncut_regions_are_regions : (d : ℕ) → UncutRegionsAreRegions d
uncut_regions_are_regions zero = λ x W V rW rV. tt
uncut_regions_are_regions (suc d) = λ X W V rW rV. region_step d X W V rW rV (uncut_regions_are_regions d)

-- ---- the cut at V of the cut of f : X → Y at W, one level up

module _ (d : ℕ) (ih : CutsOfCutArrows d) (X Y : Dia (suc d)) (f : Arr (suc d)) (W V : Reg (suc d)) (vf : ValidArrow (suc d) X Y f)
    (rW : IsRegionOf (suc d) Y W) (rV : IsRegionOf (suc d) (cut_diagram (suc d) Y W) V) where
  abbrev part : Arr (suc d)
  part = cut_arrow (suc d) f W

  abbrev U : Reg (suc d)
  U = uncut_region (suc d) W V

  part_dual : (j : ℕ) → W.from + j ≤ W.to → dual part.heights j ≡ dual f.heights (W.from + j) - dual f.heights W.from
  part_dual j l = cut-dual d f W vf.monotone j (W.from + j) refl l

  -- a height that both cuts keep
  twice_height : (i k : ℕ) → dual f.heights U.from + i ≡ k → k < dual f.heights U.to
      → height d (cut_arrow (suc d) part V) i ≡ height d (cut_arrow (suc d) f U) i
  twice_height i k e l =
      let o = rV.order in
      let n = inner_within d Y W V rW rV in
      let p = part_dual V.from (omega arith) in
      let q = part_dual V.to n in
      let m1 = dual_mono f.heights vf.monotone W.from (W.from + V.from) (omega arith) in
      let m2 = dual_mono f.heights vf.monotone (W.from + V.to) W.to n in
      let a = uncut-from d W V in
      let b = uncut-to d W V in
      let a2 = ap (dual f.heights) a in
      let b2 = ap (dual f.heights) b in
      let i2 : ℕ = k - dual f.heights W.from in
      let e1 = cut_arrow-height d part V i i2 (omega arith) (omega arith) in
      let e2 = cut_arrow-height d f W i2 k (omega arith) (omega arith) in
      let e3 = cut_arrow-height d f U i k e l in
      omega arith

  twice_reg : (j k : ℕ) → U.from + j ≡ k → k ≤ U.to → arrow_reg d (cut_arrow (suc d) part V) j ≡ arrow_reg d (cut_arrow (suc d) f U) j
  twice_reg j k e l =
      let n = inner_within d Y W V rW rV in
      let w = rW.within in
      let a = uncut-from d W V in
      let b = uncut-to d W V in
      let j2 : ℕ = k - W.from in
      let e2 : W.from + j2 ≡ k = omega arith in
      cut_arrow-reg d part V j j2 (omega arith) (omega arith)
      ∙ ap (λ (g : Arr d). cut_arrow d g (reg_region d V j2)) (cut_arrow-reg d f W j2 k e2 (omega arith))
      ∙ ih (reg d X (dual f.heights k)) (reg d Y k) (arrow_reg d f k) (reg_region d W k) (reg_region d V j2) (vf.regs k (omega arith))
      (rW.regs k (omega arith) (omega arith)) (inner_reg d Y W V rW rV j2 k e2 (omega arith) (omega arith))
      ∙ ap (cut_arrow d (arrow_reg d f k)) (sym (uncut-reg d W V j2 k e2 (omega arith) (omega arith)))
      ∙ sym (cut_arrow-reg d f U j k e l)

  twice_sing : (i k : ℕ) → dual f.heights U.from + i ≡ k → k < dual f.heights U.to
      → arrow_sing d (cut_arrow (suc d) part V) i ≡ arrow_sing d (cut_arrow (suc d) f U) i
  twice_sing i k e l =
      let o = rV.order in
      let n = inner_within d Y W V rW rV in
      let w = rW.within in
      let p = part_dual V.from (omega arith) in
      let q = part_dual V.to n in
      let m1 = dual_mono f.heights vf.monotone W.from (W.from + V.from) (omega arith) in
      let m2 = dual_mono f.heights vf.monotone (W.from + V.to) W.to n in
      let a = uncut-from d W V in
      let b = uncut-to d W V in
      let a2 = ap (dual f.heights) a in
      let b2 = ap (dual f.heights) b in
      let rU = uncut_regions_are_regions (suc d) Y W V rW rV in
      let within = interval_within d X Y f U vf rU in
      let i2 : ℕ = k - dual f.heights W.from in
      let m : ℕ = height d f k in
      let low : U.from ≤ m = goes_from d X Y f U vf rU k (omega arith) l in
      let high : m < U.to = goes_to d X Y f U vf rU k l in
      let h : ℕ = m - W.from in
      let e2 : W.from + h ≡ m = omega arith in
      cut_arrow-sing d part V i i2 (omega arith) (omega arith)
      ∙ ap (λ (g : Arr d). cut_arrow d g (sing_region d V (height d part i2))) (cut_arrow-sing d f W i2 k (omega arith) (omega arith))
      ∙ ap (λ (n : ℕ). cut_arrow d (cut_arrow d (arrow_sing d f k) (sing_region d W m)) (sing_region d V n)) (cut_arrow-height d f W i2 k (omega arith) (omega arith))
      ∙ ih (sing d X k) (sing d Y m) (arrow_sing d f k) (sing_region d W m) (sing_region d V h) (vf.sings k (omega arith))
      (rW.sings m (omega arith) (omega arith)) (inner_sing d Y W V rW rV h m e2 (omega arith) (omega arith))
      ∙ ap (cut_arrow d (arrow_sing d f k)) (sym (uncut-sing d W V h m e2 (omega arith) (omega arith)))
      ∙ sym (cut_arrow-sing d f U i k e l)

  arrow_step : cut_arrow (suc d) part V ≡ cut_arrow (suc d) f U
  arrow_step =
      let o = rV.order in
      let n = inner_within d Y W V rW rV in
      let p = part_dual V.from (omega arith) in
      let q = part_dual V.to n in
      let m1 = dual_mono f.heights vf.monotone W.from (W.from + V.from) (omega arith) in
      let m2 = dual_mono f.heights vf.monotone (W.from + V.from) (W.from + V.to) (omega arith) in
      let a = uncut-from d W V in
      let b = uncut-to d W V in
      let a2 = ap (dual f.heights) a in
      let b2 = ap (dual f.heights) b in
      let h1 = cut_arrow-heights_len d part V in
      let h2 = cut_arrow-heights_len d f U in
      let r1 = cut_arrow-regs_len d part V in
      let r2 = cut_arrow-regs_len d f U in
      let s1 = cut_arrow-sings_len d part V in
      let s2 = cut_arrow-sings_len d f U in
      same_arrows d (cut_arrow (suc d) part V) (cut_arrow (suc d) f U)
      (same_numbers (cut_arrow (suc d) part V).heights (cut_arrow (suc d) f U).heights (omega arith) (λ i l. twice_height i (dual f.heights U.from + i) refl (omega arith)))
      (omega arith) (λ j l. twice_reg j (U.from + j) refl (omega arith))
      (omega arith) (λ i l. twice_sing i (dual f.heights U.from + i) refl (omega arith))

arrow_base : CutsOfCutArrows zero
unfolding cut_arrow
arrow_base x y f W V vf rW rV = refl

pub cuts_of_cut_arrows : (d : ℕ) → CutsOfCutArrows d
cuts_of_cut_arrows zero = arrow_base
cuts_of_cut_arrows (suc d) = arrow_step d (cuts_of_cut_arrows d)

-- ---- the cut at V of the cut of X at W, one level up

module _ (d : ℕ) (ih : CutsOfCuts d) (X : Dia (suc d)) (W V : Reg (suc d)) (vX : Valid (suc d) X)
    (rW : IsRegionOf (suc d) X W) (rV : IsRegionOf (suc d) (cut_diagram (suc d) X W) V) where
  diagram_step : cut_diagram (suc d) (cut_diagram (suc d) X W) V ≡ cut_diagram (suc d) X (uncut_region (suc d) W V)
  diagram_step =
      let C : Dia (suc d) = cut_diagram (suc d) X W in
      let U : Reg (suc d) = uncut_region (suc d) W V in
      let o = rV.order in
      let n = inner_within d X W V rW rV in
      let w = rW.within in
      let a = uncut-from d W V in
      let b = uncut-to d W V in
      let r1 = cut-regs_len d C V in
      let r2 = cut-regs_len d X U in
      let s1 = cut-sings_len d C V in
      let s2 = cut-sings_len d X U in
      let f1 = cut-fwds_len d C V in
      let f2 = cut-fwds_len d X U in
      let b1 = cut-bwds_len d C V in
      let b2 = cut-bwds_len d X U in
      same_diagrams d (cut_diagram (suc d) C V) (cut_diagram (suc d) X U)
      (omega arith) (λ j l.
      let j2 : ℕ = V.from + j in
      let k : ℕ = W.from + j2 in
      cut-reg d C V j j2 refl (omega arith)
      ∙ ap (λ (D : Dia d). cut_diagram d D (reg_region d V j2)) (cut-reg d X W j2 k refl (omega arith))
      ∙ ih (reg d X k) (reg_region d W k) (reg_region d V j2) (vX.regs k (omega arith)) (rW.regs k (omega arith) (omega arith))
      (inner_reg d X W V rW rV j2 k refl (omega arith) (omega arith))
      ∙ ap (cut_diagram d (reg d X k)) (sym (uncut-reg d W V j2 k refl (omega arith) (omega arith)))
      ∙ sym (cut-reg d X U j k (omega arith) (omega arith)))
      (omega arith) (λ i l.
      let i2 : ℕ = V.from + i in
      let k : ℕ = W.from + i2 in
      cut-sing d C V i i2 refl (omega arith)
      ∙ ap (λ (D : Dia d). cut_diagram d D (sing_region d V i2)) (cut-sing d X W i2 k refl (omega arith))
      ∙ ih (sing d X k) (sing_region d W k) (sing_region d V i2) (vX.sings k (omega arith)) (rW.sings k (omega arith) (omega arith))
      (inner_sing d X W V rW rV i2 k refl (omega arith) (omega arith))
      ∙ ap (cut_diagram d (sing d X k)) (sym (uncut-sing d W V i2 k refl (omega arith) (omega arith)))
      ∙ sym (cut-sing d X U i k (omega arith) (omega arith)))
      (omega arith) (λ i l.
      let i2 : ℕ = V.from + i in
      let k : ℕ = W.from + i2 in
      cut-fwd d C V i i2 refl (omega arith)
      ∙ ap (λ (g : Arr d). cut_arrow d g (sing_region d V i2)) (cut-fwd d X W i2 k refl (omega arith))
      ∙ cuts_of_cut_arrows d (reg d X k) (sing d X k) (fwd d X k) (sing_region d W k) (sing_region d V i2) (vX.fwds k (omega arith))
      (rW.sings k (omega arith) (omega arith)) (inner_sing d X W V rW rV i2 k refl (omega arith) (omega arith))
      ∙ ap (cut_arrow d (fwd d X k)) (sym (uncut-sing d W V i2 k refl (omega arith) (omega arith)))
      ∙ sym (cut-fwd d X U i k (omega arith) (omega arith)))
      (omega arith) (λ i l.
      let i2 : ℕ = V.from + i in
      let k : ℕ = W.from + i2 in
      cut-bwd d C V i i2 refl (omega arith)
      ∙ ap (λ (g : Arr d). cut_arrow d g (sing_region d V i2)) (cut-bwd d X W i2 k refl (omega arith))
      ∙ cuts_of_cut_arrows d (reg d X (suc k)) (sing d X k) (bwd d X k) (sing_region d W k) (sing_region d V i2) (vX.bwds k (omega arith))
      (rW.sings k (omega arith) (omega arith)) (inner_sing d X W V rW rV i2 k refl (omega arith) (omega arith))
      ∙ ap (cut_arrow d (bwd d X k)) (sym (uncut-sing d W V i2 k refl (omega arith) (omega arith)))
      ∙ sym (cut-bwd d X U i k (omega arith) (omega arith)))

diagram_base : CutsOfCuts zero
unfolding cut_diagram
diagram_base x W V v rW rV = refl

pub cuts_of_cuts : (d : ℕ) → CutsOfCuts d
cuts_of_cuts zero = diagram_base
cuts_of_cuts (suc d) = diagram_step d (cuts_of_cuts d)
