-- The parts of cuts. The entry of a cut is that of a height of what is cut, counted from the first height kept.
use Rattle.std.proofs.Common.{◌≡◌, ℕ, suc, ◌+◌, ◌-◌, ◌<◌, ◌≤◌, length, refl, ap, ◌∙◌, arith}
use Rattle.diagram_terms.specs.Family.{Dia, Arr, no_dia, no_arr, reg, sing, fwd, bwd, height, arrow_reg, arrow_sing}
use Rattle.diagram_terms.specs.Dual.{IsMonotone, dual}
use Rattle.diagram_terms.proofs.MonotoneParts.{IsRestriction, restriction_dual}
use Rattle.diagram_terms.specs.Regions.{Reg, reg_region, sing_region}
use Rattle.diagram_terms.specs.Cuts.{cut_arrow, cut_diagram}
use Rattle.region_laws.proofs.RegionParts.{length-tab_from, get-tab_from}

-- ---- of a diagram

module _ (d : ℕ) (X : Dia (suc d)) (W : Reg (suc d)) where
  pub cut-regs_len : length (cut_diagram (suc d) X W).regs ≡ suc (W.to - W.from)
  unfolding cut_diagram
  cut-regs_len = length-tab_from (λ j. cut_diagram d (reg d X j) (reg_region d W j)) W.from (suc (W.to - W.from))

  pub cut-sings_len : length (cut_diagram (suc d) X W).sings ≡ W.to - W.from
  unfolding cut_diagram
  cut-sings_len = length-tab_from (λ i. cut_diagram d (sing d X i) (sing_region d W i)) W.from (W.to - W.from)

  pub cut-fwds_len : length (cut_diagram (suc d) X W).fwds ≡ W.to - W.from
  unfolding cut_diagram
  cut-fwds_len = length-tab_from (λ k. cut_arrow d (fwd d X k) (sing_region d W k)) W.from (W.to - W.from)

  pub cut-bwds_len : length (cut_diagram (suc d) X W).bwds ≡ W.to - W.from
  unfolding cut_diagram
  cut-bwds_len = length-tab_from (λ k. cut_arrow d (bwd d X k) (sing_region d W k)) W.from (W.to - W.from)

  pub cut-reg : (j k : ℕ) → W.from + j ≡ k → k ≤ W.to → reg d (cut_diagram (suc d) X W) j ≡ cut_diagram d (reg d X k) (reg_region d W k)
  unfolding cut_diagram
  cut-reg j k e l = get-tab_from (λ j. cut_diagram d (reg d X j) (reg_region d W j)) W.from (suc (W.to - W.from)) j k (no_dia d) (omega arith) e

  pub cut-sing : (i k : ℕ) → W.from + i ≡ k → k < W.to → sing d (cut_diagram (suc d) X W) i ≡ cut_diagram d (sing d X k) (sing_region d W k)
  unfolding cut_diagram
  cut-sing i k e l = get-tab_from (λ i. cut_diagram d (sing d X i) (sing_region d W i)) W.from (W.to - W.from) i k (no_dia d) (omega arith) e

  pub cut-fwd : (i k : ℕ) → W.from + i ≡ k → k < W.to → fwd d (cut_diagram (suc d) X W) i ≡ cut_arrow d (fwd d X k) (sing_region d W k)
  unfolding cut_diagram
  cut-fwd i k e l = get-tab_from (λ k. cut_arrow d (fwd d X k) (sing_region d W k)) W.from (W.to - W.from) i k (no_arr d) (omega arith) e

  pub cut-bwd : (i k : ℕ) → W.from + i ≡ k → k < W.to → bwd d (cut_diagram (suc d) X W) i ≡ cut_arrow d (bwd d X k) (sing_region d W k)
  unfolding cut_diagram
  cut-bwd i k e l = get-tab_from (λ k. cut_arrow d (bwd d X k) (sing_region d W k)) W.from (W.to - W.from) i k (no_arr d) (omega arith) e

-- ---- of an arrow

module _ (d : ℕ) (f : Arr (suc d)) (W : Reg (suc d)) where
  pub cut_arrow-heights_len : length (cut_arrow (suc d) f W).heights ≡ dual f.heights W.to - dual f.heights W.from
  unfolding cut_arrow
  cut_arrow-heights_len = length-tab_from (λ i. height d f i - W.from) (dual f.heights W.from) (dual f.heights W.to - dual f.heights W.from)

  pub cut_arrow-regs_len : length (cut_arrow (suc d) f W).regs ≡ suc (W.to - W.from)
  unfolding cut_arrow
  cut_arrow-regs_len = length-tab_from (λ j. cut_arrow d (arrow_reg d f j) (reg_region d W j)) W.from (suc (W.to - W.from))

  pub cut_arrow-sings_len : length (cut_arrow (suc d) f W).sings ≡ dual f.heights W.to - dual f.heights W.from
  unfolding cut_arrow
  cut_arrow-sings_len = length-tab_from (λ i. cut_arrow d (arrow_sing d f i) (sing_region d W (height d f i)))
      (dual f.heights W.from) (dual f.heights W.to - dual f.heights W.from)

  pub cut_arrow-height : (i k : ℕ) → dual f.heights W.from + i ≡ k → k < dual f.heights W.to
      → height d (cut_arrow (suc d) f W) i ≡ height d f k - W.from
  unfolding cut_arrow
  cut_arrow-height i k e l =
      get-tab_from (λ i. height d f i - W.from) (dual f.heights W.from) (dual f.heights W.to - dual f.heights W.from) i k 0 (omega arith) e

  pub cut_arrow-reg : (j k : ℕ) → W.from + j ≡ k → k ≤ W.to
      → arrow_reg d (cut_arrow (suc d) f W) j ≡ cut_arrow d (arrow_reg d f k) (reg_region d W k)
  unfolding cut_arrow
  cut_arrow-reg j k e l =
      get-tab_from (λ j. cut_arrow d (arrow_reg d f j) (reg_region d W j)) W.from (suc (W.to - W.from)) j k (no_arr d) (omega arith) e

  pub cut_arrow-sing : (i k : ℕ) → dual f.heights W.from + i ≡ k → k < dual f.heights W.to
      → arrow_sing d (cut_arrow (suc d) f W) i ≡ cut_arrow d (arrow_sing d f k) (sing_region d W (height d f k))
  unfolding cut_arrow
  cut_arrow-sing i k e l =
      get-tab_from (λ i. cut_arrow d (arrow_sing d f i) (sing_region d W (height d f i))) (dual f.heights W.from)
      (dual f.heights W.to - dual f.heights W.from) i k (no_arr d) (omega arith) e

  -- its heights are those of f that go into the interval, counted from its first
  pub cut_heights : IsRestriction f.heights W.from W.to (cut_arrow (suc d) f W).heights
  cut_heights = record {
    long = cut_arrow-heights_len;
    counted = λ i l. let n = cut_arrow-heights_len in cut_arrow-height i (dual f.heights W.from + i) refl (omega arith);
  }

  pub cut-dual : IsMonotone f.heights → (j k : ℕ) → W.from + j ≡ k → k ≤ W.to
      → dual (cut_arrow (suc d) f W).heights j ≡ dual f.heights k - dual f.heights W.from
  cut-dual m j k e l =
      restriction_dual f.heights (cut_arrow (suc d) f W).heights m W.from W.to cut_heights j (omega arith)
      ∙ ap (λ (n : ℕ). dual f.heights n - dual f.heights W.from) e
