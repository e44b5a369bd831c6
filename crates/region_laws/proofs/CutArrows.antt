-- The cut of a valid arrow at a closed region of its target is a valid arrow between the cuts.
use Rattle.std.proofs.Common.{◌≡◌, ℕ, zero, suc, ◌+◌, ◌-◌, ◌<◌, ◌≤◌, refl, sym, ap, ◌∙◌, subst, arith}
use Rattle.diagram_terms.specs.Family.{Dia, Arr, reg, sing, fwd, bwd, height, arrow_reg, arrow_sing}
use Rattle.diagram_terms.specs.Dual.{AreBelow, dual}
use Rattle.diagram_terms.specs.Composite.{comp}
use Rattle.diagram_terms.specs.Valid.{ValidArrow, Valid, Commutes, left_edge, right_edge, enter_edge, leave_edge}
use Rattle.diagram_terms.proofs.Duals.{dual_mono, in_fibre}
use Rattle.diagram_terms.proofs.MonotoneParts.{restriction_mono, restriction_below}
use Rattle.map_laws.proofs.ValidParts.{dual_within}
use Rattle.diagram_terms.specs.Regions.{Reg, reg_region, sing_region}
use Rattle.diagram_terms.specs.ClosedRegions.{IsClosedRegion}
use Rattle.diagram_terms.specs.Preimages.{preimage}
use Rattle.diagram_terms.specs.Cuts.{cut_arrow, cut_diagram}
use Rattle.diagram_terms.proofs.Squares.{first_at, last_at, commutes_by}
use Rattle.region_laws.specs.Laws.{CutsOfArrowsAreValid}
use Rattle.region_laws.proofs.RegionParts.{preimage-from, preimage-to, preimage-sing}
use Rattle.region_laws.proofs.PreimageRegions.{interval_within, goes_from, goes_to}
use Rattle.region_laws.proofs.PreimageCases.{closed_reg, closed_sing}
use Rattle.region_laws.proofs.Preimages.{preimage_cases_agree}
use Rattle.region_laws.proofs.CutParts.{cut-sings_len, cut-reg, cut-sing, cut-fwd, cut-bwd, cut_arrow-heights_len, cut_arrow-regs_len, cut_arrow-sings_len, cut_arrow-height, cut_arrow-reg, cut_arrow-sing, cut_heights, cut-dual}
use Rattle.region_laws.proofs.CutComposites.{cuts_keep_composites}

-- what is said of an arrow and its ends holds of equal ones
pub along : (d : ℕ) (G : Dia d → Dia d → Arr d → Type 0) (x x2 y y2 : Dia d) (f f2 : Arr d) → x ≡ x2 → y ≡ y2 → f ≡ f2 → G x2 y2 f2 → G x y f
along d G x x2 y y2 f f2 p q r v =
    subst (λ (a : Dia d). G a y f) (sym p) (subst (λ (b : Dia d). G x2 b f) (sym q) (subst (G x2 y2) (sym r) v))

module _ (d : ℕ) (X Y : Dia (suc d)) (f : Arr (suc d)) (W : Reg (suc d))
    (vX : Valid (suc d) X) (vY : Valid (suc d) Y) (vf : ValidArrow (suc d) X Y f) (cW : IsClosedRegion (suc d) Y W) where
  abbrev V : Reg (suc d)
  V = preimage (suc d) X f W

  abbrev from : Dia (suc d)
  from = cut_diagram (suc d) X V

  abbrev to : Dia (suc d)
  to = cut_diagram (suc d) Y W

  abbrev part : Arr (suc d)
  part = cut_arrow (suc d) f W

  -- ---- the slices of the ends

  pub cut_source_reg : (j k : ℕ) → W.from + j ≡ k → k ≤ W.to
      → reg d from (dual part.heights j) ≡ cut_diagram d (reg d X (dual f.heights k)) (preimage d (reg d X (dual f.heights k)) (arrow_reg d f k) (reg_region d W k))
  cut_source_reg j k e l =
      let n : ℕ = dual f.heights k in
      let a : dual f.heights W.from ≤ n = dual_mono f.heights vf.monotone W.from k (omega arith) in
      let b : n ≤ dual f.heights W.to = dual_mono f.heights vf.monotone k W.to l in
      let vfrom = preimage-from d X f W in
      let vto = preimage-to d X f W in
      let c = preimage_cases_agree d X Y f W vX vY vf cW in
      ap (reg d from) (cut-dual d f W vf.monotone j k e l)
      ∙ cut-reg d X V (n - dual f.heights W.from) n (omega arith) (omega arith)
      ∙ ap (cut_diagram d (reg d X n)) (c.regs k (omega arith) l)

  pub cut_source_sing : (i k : ℕ) → dual f.heights W.from + i ≡ k → k < dual f.heights W.to
      → sing d from i ≡ cut_diagram d (sing d X k) (preimage d (sing d X k) (arrow_sing d f k) (sing_region d W (height d f k)))
  cut_source_sing i k e l =
      let vfrom = preimage-from d X f W in
      let vto = preimage-to d X f W in
      cut-sing d X V i k (omega arith) (omega arith) ∙ ap (cut_diagram d (sing d X k)) (preimage-sing d X f W k (omega arith) l)

  pub cut_target_sing : (i k : ℕ) → dual f.heights W.from + i ≡ k → k < dual f.heights W.to
      → sing d to (height d part i) ≡ cut_diagram d (sing d Y (height d f k)) (sing_region d W (height d f k))
  cut_target_sing i k e l =
      let n = interval_within d X Y f W vf cW.region in
      let m : ℕ = height d f k in
      let low : W.from ≤ m = goes_from d X Y f W vf cW.region k (omega arith) l in
      let high : m < W.to = goes_to d X Y f W vf cW.region k l in
      ap (sing d to) (cut_arrow-height d f W i k e l) ∙ cut-sing d Y W (m - W.from) m (omega arith) high

  -- ---- the composites of a square are the cuts of those of the square of f

  pub left_cut : (j k : ℕ) → W.from + j ≡ k → k < W.to → left_edge d to part j ≡ cut_arrow d (left_edge d Y f k) (sing_region d W k)
  left_cut j k e l =
      let w = cW.region.within in
      let n : ℕ = dual f.heights k in
      let R : Reg d = sing_region d W k in
      let s : Arr d = cut_arrow d (fwd d Y k) R in
      ap (λ (g : Arr d). comp d g (arrow_reg d part j)) (cut-fwd d Y W j k e l)
      ∙ ap (λ (g : Arr d). comp d s g) (cut_arrow-reg d f W j k e (omega arith))
      ∙ ap (λ (Q : Reg d). comp d s (cut_arrow d (arrow_reg d f k) Q)) (sym (cW.closed.fwds k (omega arith) l))
      ∙ sym (cuts_keep_composites d (reg d X n) (reg d Y k) (sing d Y k) (arrow_reg d f k) (fwd d Y k) R
      (vX.regs n (dual_within d X Y f vf k)) (vY.regs k (omega arith)) (vY.sings k (omega arith)) (vf.regs k (omega arith)) (vY.fwds k (omega arith))
      (closed_sing d Y W cW k (omega arith) l))

  pub right_cut : (j k : ℕ) → W.from + j ≡ k → k < W.to → right_edge d to part j ≡ cut_arrow d (right_edge d Y f k) (sing_region d W k)
  right_cut j k e l =
      let w = cW.region.within in
      let n : ℕ = dual f.heights (suc k) in
      let R : Reg d = sing_region d W k in
      let s : Arr d = cut_arrow d (bwd d Y k) R in
      ap (λ (g : Arr d). comp d g (arrow_reg d part (suc j))) (cut-bwd d Y W j k e l)
      ∙ ap (λ (g : Arr d). comp d s g) (cut_arrow-reg d f W (suc j) (suc k) (omega arith) l)
      ∙ ap (λ (Q : Reg d). comp d s (cut_arrow d (arrow_reg d f (suc k)) Q)) (sym (cW.closed.bwds k (omega arith) l))
      ∙ sym (cuts_keep_composites d (reg d X n) (reg d Y (suc k)) (sing d Y k) (arrow_reg d f (suc k)) (bwd d Y k) R
      (vX.regs n (dual_within d X Y f vf (suc k))) (vY.regs (suc k) (omega arith)) (vY.sings k (omega arith)) (vf.regs (suc k) (omega arith)) (vY.bwds k (omega arith))
      (closed_sing d Y W cW k (omega arith) l))

  enter_cut : (i t k : ℕ) → dual f.heights W.from + i ≡ t → t < dual f.heights W.to → height d f t ≡ k
      → enter_edge d from part i ≡ cut_arrow d (enter_edge d X f t) (sing_region d W k)
  enter_cut i t k e l h =
      let n = interval_within d X Y f W vf cW.region in
      let w = cW.region.within in
      let vfrom = preimage-from d X f W in
      let vto = preimage-to d X f W in
      let m : ℕ = height d f t in
      let low : W.from ≤ m = goes_from d X Y f W vf cW.region t (omega arith) l in
      let high : m < W.to = goes_to d X Y f W vf cW.region t l in
      let R : Reg d = sing_region d W m in
      let s : Arr d = cut_arrow d (arrow_sing d f t) R in
      ap (λ (g : Arr d). comp d g (fwd d from i)) (cut_arrow-sing d f W i t e l)
      ∙ ap (λ (g : Arr d). comp d s g) (cut-fwd d X V i t (omega arith) (omega arith))
      ∙ ap (λ (Q : Reg d). comp d s (cut_arrow d (fwd d X t) Q)) (preimage-sing d X f W t (omega arith) l)
      ∙ sym (cuts_keep_composites d (reg d X t) (sing d X t) (sing d Y m) (fwd d X t) (arrow_sing d f t) R
      (vX.regs t (omega arith)) (vX.sings t (omega arith)) (vY.sings m (omega arith)) (vX.fwds t (omega arith)) (vf.sings t (omega arith))
      (closed_sing d Y W cW m low high))
      ∙ ap (λ (n : ℕ). cut_arrow d (enter_edge d X f t) (sing_region d W n)) h

  leave_cut : (i t k : ℕ) → dual f.heights W.from + i ≡ t → t < dual f.heights W.to → height d f t ≡ k
      → leave_edge d from part i ≡ cut_arrow d (leave_edge d X f t) (sing_region d W k)
  leave_cut i t k e l h =
      let n = interval_within d X Y f W vf cW.region in
      let w = cW.region.within in
      let vfrom = preimage-from d X f W in
      let vto = preimage-to d X f W in
      let m : ℕ = height d f t in
      let low : W.from ≤ m = goes_from d X Y f W vf cW.region t (omega arith) l in
      let high : m < W.to = goes_to d X Y f W vf cW.region t l in
      let R : Reg d = sing_region d W m in
      let s : Arr d = cut_arrow d (arrow_sing d f t) R in
      ap (λ (g : Arr d). comp d g (bwd d from i)) (cut_arrow-sing d f W i t e l)
      ∙ ap (λ (g : Arr d). comp d s g) (cut-bwd d X V i t (omega arith) (omega arith))
      ∙ ap (λ (Q : Reg d). comp d s (cut_arrow d (bwd d X t) Q)) (preimage-sing d X f W t (omega arith) l)
      ∙ sym (cuts_keep_composites d (reg d X (suc t)) (sing d X t) (sing d Y m) (bwd d X t) (arrow_sing d f t) R
      (vX.regs (suc t) (omega arith)) (vX.sings t (omega arith)) (vY.sings m (omega arith)) (vX.bwds t (omega arith)) (vf.sings t (omega arith))
      (closed_sing d Y W cW m low high))
      ∙ ap (λ (n : ℕ). cut_arrow d (leave_edge d X f t) (sing_region d W n)) h

  -- ---- squares

  square : (j k : ℕ) → W.from + j ≡ k → k < W.to → Commutes d from to part j
  square j k e l =
      let w = cW.region.within in
      let a : ℕ = dual f.heights W.from in
      let R : Reg d = sing_region d W k in
      let s = vf.squares k (omega arith) in
      let low = cut-dual d f W vf.monotone j k e (omega arith) in
      let high = cut-dual d f W vf.monotone (suc j) (suc k) (omega arith) l in
      let m1 : a ≤ dual f.heights k = dual_mono f.heights vf.monotone W.from k (omega arith) in
      let m2 : dual f.heights k ≤ dual f.heights (suc k) = dual_mono f.heights vf.monotone k (suc k) (omega arith) in
      let m3 : dual f.heights (suc k) ≤ dual f.heights W.to = dual_mono f.heights vf.monotone (suc k) W.to l in
      commutes_by d from to part j
      (λ p. left_cut j k e l ∙ ap (λ (g : Arr d). cut_arrow d g R) (s.empty (omega arith)) ∙ sym (right_cut j k e l))
      (λ i p q.
      let t : ℕ = a + i in
      left_cut j k e l ∙ ap (λ (g : Arr d). cut_arrow d g R) (first_at s t (omega arith) (omega arith))
      ∙ sym (enter_cut i t k refl (omega arith) (in_fibre f.heights vf.monotone t k (omega arith) (omega arith))))
      (λ i p q.
      let t : ℕ = a + i in
      right_cut j k e l ∙ ap (λ (g : Arr d). cut_arrow d g R) (last_at s t (omega arith) (omega arith))
      ∙ sym (leave_cut i t k refl (omega arith) (in_fibre f.heights vf.monotone t k (omega arith) (omega arith))))
      (λ i p q.
      let t : ℕ = a + i in
      leave_cut i t k refl (omega arith) (in_fibre f.heights vf.monotone t k (omega arith) (omega arith))
      ∙ ap (λ (g : Arr d). cut_arrow d g R) (s.inner t (omega arith) (omega arith))
      ∙ sym (enter_cut (suc i) (suc t) k (omega arith) (omega arith) (in_fibre f.heights vf.monotone (suc t) k (omega arith) (omega arith))))

  -- ---- the cut is valid

  module _ (ih : CutsOfArrowsAreValid d) where
    valid_reg : (j k : ℕ) → W.from + j ≡ k → k ≤ W.to → ValidArrow d (reg d from (dual part.heights j)) (reg d to j) (arrow_reg d part j)
    valid_reg j k e l =
        let n : ℕ = dual f.heights k in
        let w = cW.region.within in
        along d (ValidArrow d) _ _ _ _ _ _ (cut_source_reg j k e l) (cut-reg d Y W j k e l) (cut_arrow-reg d f W j k e l)
        (ih (reg d X n) (reg d Y k) (arrow_reg d f k) (reg_region d W k) (vX.regs n (dual_within d X Y f vf k)) (vY.regs k (omega arith))
        (vf.regs k (omega arith)) (closed_reg d Y W cW k (omega arith) l))

    valid_sing : (i k : ℕ) → dual f.heights W.from + i ≡ k → k < dual f.heights W.to
        → ValidArrow d (sing d from i) (sing d to (height d part i)) (arrow_sing d part i)
    valid_sing i k e l =
        let n = interval_within d X Y f W vf cW.region in
        let w = cW.region.within in
        let m : ℕ = height d f k in
        let low : W.from ≤ m = goes_from d X Y f W vf cW.region k (omega arith) l in
        let high : m < W.to = goes_to d X Y f W vf cW.region k l in
        along d (ValidArrow d) _ _ _ _ _ _ (cut_source_sing i k e l) (cut_target_sing i k e l) (cut_arrow-sing d f W i k e l)
        (ih (sing d X k) (sing d Y m) (arrow_sing d f k) (sing_region d W m) (vX.sings k (omega arith)) (vY.sings m (omega arith))
        (vf.sings k (omega arith)) (closed_sing d Y W cW m low high))

    step : ValidArrow (suc d) from to part
    step =
        let o = cW.region.order in
        let vfrom = preimage-from d X f W in
        let vto = preimage-to d X f W in
        let hl = cut_arrow-heights_len d f W in
        let rl = cut_arrow-regs_len d f W in
        let sl = cut_arrow-sings_len d f W in
        let xl = cut-sings_len d X V in
        let yl = cut-sings_len d Y W in
        record {
          heights_len = omega arith;
          regs_len = omega arith;
          sings_len = omega arith;
          monotone = restriction_mono f.heights part.heights vf.monotone W.from W.to (cut_heights d f W);
          below = subst (AreBelow part.heights) (sym yl) (restriction_below f.heights part.heights vf.monotone W.from W.to (cut_heights d f W));
          regs = λ j l. valid_reg j (W.from + j) refl (omega arith);
          sings = λ i l. valid_sing i (dual f.heights W.from + i) refl (omega arith);
          squares = λ j l. square j (W.from + j) refl (omega arith);
        }

base : CutsOfArrowsAreValid zero
unfolding cut_arrow cut_diagram
base x y f W vx vy vf cW = vf

pub cuts_of_arrows_are_valid : (d : ℕ) → CutsOfArrowsAreValid d
cuts_of_arrows_are_valid zero = base
cuts_of_arrows_are_valid (suc d) = λ X Y f W vX vY vf cW. step d X Y f W vX vY vf cW (cuts_of_arrows_are_valid d)
