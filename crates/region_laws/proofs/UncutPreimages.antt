-- The preimage of a region of a cut, as a region of what was cut.
use Rattle.std.proofs.Common.{◌≡◌, ℕ, zero, suc, ◌+◌, ◌-◌, ◌<◌, ◌≤◌, length, refl, sym, ap, ◌∙◌, subst, arith, inl, inr}
use Rattle.std.proofs.lemmas.Bool.{cases_lt}
use Rattle.diagram_terms.specs.Family.{Dia, Arr, reg, sing, fwd, bwd, height, arrow_reg, arrow_sing}
use Rattle.diagram_terms.specs.Dual.{dual}
use Rattle.diagram_terms.specs.Valid.{ValidArrow, Valid}
use Rattle.diagram_terms.proofs.Duals.{dual_mono}
use Rattle.diagram_terms.specs.Regions.{Reg, reg_region, sing_region, IsRegionOf}
use Rattle.diagram_terms.specs.ClosedRegions.{IsClosedRegion}
use Rattle.diagram_terms.specs.Preimages.{preimage}
use Rattle.diagram_terms.specs.Cuts.{cut_arrow, cut_diagram}
use Rattle.diagram_terms.specs.CutsOfCuts.{uncut_region}
use Rattle.region_laws.specs.Laws.{PreimagesOfUncutRegions}
use Rattle.region_laws.proofs.RegionParts.{same_regions, preimage-from, preimage-to, preimage-sing, preimage-after, preimage-first, preimage-alone}
use Rattle.region_laws.proofs.PreimageRegions.{interval_within, goes_from, goes_to, first_or_after, preimages_are_regions}
use Rattle.region_laws.proofs.PreimageCases.{closed_reg, closed_sing}
use Rattle.region_laws.proofs.Preimages.{preimages_are_closed, preimage_cases_agree}
use Rattle.region_laws.proofs.CutParts.{cut-reg, cut-sing, cut-fwd, cut-bwd, cut_arrow-height, cut_arrow-reg, cut_arrow-sing, cut-dual}
use Rattle.region_laws.proofs.CutArrows.{cuts_of_arrows_are_valid}
use Rattle.region_laws.proofs.CutDiagrams.{cuts_of_diagrams_are_valid}
use Rattle.region_laws.proofs.UncutRegions.{uncut-from, uncut-to, uncut-reg, uncut-sing, inner_within, inner_reg, inner_sing, uncut_regions_are_regions}

-- the preimage of a region by an equal diagram, arrow and region
pub preimage_along : (d : ℕ) (x x2 : Dia d) (f f2 : Arr d) (W W2 : Reg d) → x ≡ x2 → f ≡ f2 → W ≡ W2 → preimage d x f W ≡ preimage d x2 f2 W2
preimage_along d x x2 f f2 W W2 p q r =
    ap (λ (a : Dia d). preimage d a f W) p ∙ ap (λ (g : Arr d). preimage d x2 g W) q ∙ ap (preimage d x2 f2) r

module _ (d : ℕ) (ih : PreimagesOfUncutRegions d) (X Y : Dia (suc d)) (f : Arr (suc d)) (W V : Reg (suc d)) (vX : Valid (suc d) X) (vY : Valid (suc d) Y)
    (vf : ValidArrow (suc d) X Y f) (cW : IsClosedRegion (suc d) Y W) (rV : IsRegionOf (suc d) (cut_diagram (suc d) Y W) V) where
  -- the preimage P of W, the cuts there, and the preimage N of V
  abbrev P : Reg (suc d)
  P = preimage (suc d) X f W

  abbrev from : Dia (suc d)
  from = cut_diagram (suc d) X P

  abbrev part : Arr (suc d)
  part = cut_arrow (suc d) f W

  abbrev N : Reg (suc d)
  N = preimage (suc d) from part V

  abbrev U : Reg (suc d)
  U = uncut_region (suc d) W V

  abbrev L : Reg (suc d)
  L = preimage (suc d) X f U

  abbrev R : Reg (suc d)
  R = uncut_region (suc d) P N

  rU : IsRegionOf (suc d) Y U
  rU = uncut_regions_are_regions (suc d) Y W V cW.region rV

  cP : IsClosedRegion (suc d) X P
  cP = preimages_are_closed (suc d) X Y f W vX vY vf cW

  valid_from : Valid (suc d) from
  valid_from = cuts_of_diagrams_are_valid (suc d) X P vX cP

  valid_part : ValidArrow (suc d) from (cut_diagram (suc d) Y W) part
  valid_part = cuts_of_arrows_are_valid (suc d) X Y f W vX vY vf cW

  rN : IsRegionOf (suc d) from N
  rN = preimages_are_regions (suc d) from (cut_diagram (suc d) Y W) part V valid_from valid_part rV

  -- the intervals
  part_from : dual part.heights V.from ≡ dual f.heights U.from - dual f.heights W.from
  part_from =
      let n = inner_within d Y W V cW.region rV in
      let o = rV.order in
      let a = uncut-from d W V in
      cut-dual d f W vf.monotone V.from U.from (sym a) (omega arith)

  part_to : dual part.heights V.to ≡ dual f.heights U.to - dual f.heights W.from
  part_to =
      let n = inner_within d Y W V cW.region rV in
      let b = uncut-to d W V in
      cut-dual d f W vf.monotone V.to U.to (sym b) (omega arith)

  -- what is known of them
  pub record Intervals : Type 0 where
    pub n_from : N.from ≡ dual f.heights U.from - P.from
    pub n_to : N.to ≡ dual f.heights U.to - P.from
    pub p_from : P.from ≡ dual f.heights W.from
    pub p_to : P.to ≡ dual f.heights W.to
    pub r_from : R.from ≡ dual f.heights U.from
    pub r_to : R.to ≡ dual f.heights U.to
    pub low : dual f.heights W.from ≤ dual f.heights U.from
    pub middle : dual f.heights U.from ≤ dual f.heights U.to
    pub high : dual f.heights U.to ≤ dual f.heights W.to
    pub within : dual f.heights W.to ≤ length X.sings
    pub part_from : dual part.heights V.from ≡ dual f.heights U.from - dual f.heights W.from
    pub part_to : dual part.heights V.to ≡ dual f.heights U.to - dual f.heights W.from

  intervals : Intervals
  intervals =
      let n = inner_within d Y W V cW.region rV in
      let a = uncut-from d W V in
      let b = uncut-to d W V in
      let p1 = preimage-from d X f W in
      let p2 = preimage-to d X f W in
      let n1 = preimage-from d from part V in
      let n2 = preimage-to d from part V in
      let r1 = uncut-from d P N in
      let r2 = uncut-to d P N in
      let q1 = part_from in
      let q2 = part_to in
      let m1 : dual f.heights W.from ≤ dual f.heights U.from = dual_mono f.heights vf.monotone W.from U.from (omega arith) in
      let m2 : dual f.heights U.from ≤ dual f.heights U.to = dual_mono f.heights vf.monotone U.from U.to rU.order in
      let m3 : dual f.heights U.to ≤ dual f.heights W.to = dual_mono f.heights vf.monotone U.to W.to (omega arith) in
      record {
        n_from = omega arith;
        n_to = omega arith;
        p_from = p1;
        p_to = p2;
        r_from = omega arith;
        r_to = omega arith;
        low = m1;
        middle = m2;
        high = m3;
        within = interval_within d X Y f W vf cW.region;
        part_from = q1;
        part_to = q2;
      }

  -- ---- at a singular height, the height i of the cut

  sing_same : (i k : ℕ) → P.from + i ≡ k → dual f.heights U.from ≤ k → k < dual f.heights U.to → sing_region d L k ≡ sing_region d R k
  sing_same i k e low high =
      let v = intervals in
      let n = inner_within d Y W V cW.region rV in
      let a = uncut-from d W V in
      let b = uncut-to d W V in
      let w = cW.region.within in
      let m : ℕ = height d f k in
      let mlow : U.from ≤ m = goes_from d X Y f U vf rU k low high in
      let mhigh : m < U.to = goes_to d X Y f U vf rU k high in
      let h : ℕ = m - W.from in
      let he : W.from + h ≡ m = omega arith in
      let e1 = preimage-sing d X f U k low high in
      let e2 = uncut-sing d W V h m he (omega arith) (omega arith) in
      let e3 = ih (sing d X k) (sing d Y m) (arrow_sing d f k) (sing_region d W m) (sing_region d V h) (vX.sings k (omega arith)) (vY.sings m (omega arith))
      (vf.sings k (omega arith)) (closed_sing d Y W cW m (omega arith) (omega arith)) (inner_sing d Y W V cW.region rV h m he (omega arith) (omega arith)) in
      let e4 : preimage d (sing d X k) (arrow_sing d f k) (sing_region d W m) ≡ sing_region d P k = sym (preimage-sing d X f W k (omega arith) (omega arith)) in
      let e5 : sing_region d N i ≡ preimage d (cut_diagram d (sing d X k) (sing_region d P k)) (cut_arrow d (arrow_sing d f k) (sing_region d W m)) (sing_region d V h) =
      preimage-sing d from part V i (omega arith) (omega arith)
      ∙ preimage_along d _ _ _ _ _ _ (cut-sing d X P i k e (omega arith)) (cut_arrow-sing d f W i k (omega arith) (omega arith))
      (ap (sing_region d V) (cut_arrow-height d f W i k (omega arith) (omega arith))) in
      e1 ∙ ap (preimage d (sing d X k) (arrow_sing d f k)) e2 ∙ e3
      ∙ ap (λ (Q : Reg d). uncut_region d Q (preimage d (cut_diagram d (sing d X k) Q) (cut_arrow d (arrow_sing d f k) (sing_region d W m)) (sing_region d V h))) e4
      ∙ ap (uncut_region d (sing_region d P k)) (sym e5)
      ∙ sym (uncut-sing d P N i k e (omega arith) (omega arith))

  -- ---- at a regular height, along the legs of X

  along_bwd : (i k : ℕ) → P.from + i ≡ k → dual f.heights U.from ≤ k → k < dual f.heights U.to → reg_region d L (suc k) ≡ reg_region d R (suc k)
  along_bwd i k e low high =
      let v = intervals in
      let e1 = preimage-after d X f U k low high in
      let e2 = sing_same i k e low high in
      let e3 = uncut-sing d P N i k e (omega arith) (omega arith) in
      let e4 = ih (reg d X (suc k)) (sing d X k) (bwd d X k) (sing_region d P k) (sing_region d N i) (vX.regs (suc k) (omega arith)) (vX.sings k (omega arith))
      (vX.bwds k (omega arith)) (closed_sing d X P cP k (omega arith) (omega arith)) (inner_sing d X P N cP.region rN i k e (omega arith) (omega arith)) in
      let e5 : preimage d (reg d X (suc k)) (bwd d X k) (sing_region d P k) ≡ reg_region d P (suc k) = cP.closed.bwds k (omega arith) (omega arith) in
      let e6 : reg_region d N (suc i) ≡ preimage d (cut_diagram d (reg d X (suc k)) (reg_region d P (suc k))) (cut_arrow d (bwd d X k) (sing_region d P k)) (sing_region d N i) =
      preimage-after d from part V i (omega arith) (omega arith)
      ∙ preimage_along d _ _ _ _ _ _ (cut-reg d X P (suc i) (suc k) (omega arith) (omega arith)) (cut-bwd d X P i k e (omega arith)) refl in
      e1 ∙ ap (preimage d (reg d X (suc k)) (bwd d X k)) (e2 ∙ e3) ∙ e4
      ∙ ap (λ (Q : Reg d). uncut_region d Q (preimage d (cut_diagram d (reg d X (suc k)) Q) (cut_arrow d (bwd d X k) (sing_region d P k)) (sing_region d N i))) e5
      ∙ ap (uncut_region d (reg_region d P (suc k))) (sym e6)
      ∙ sym (uncut-reg d P N (suc i) (suc k) (omega arith) (omega arith) (omega arith))

  along_fwd : (i k : ℕ) → P.from + i ≡ k → k ≡ dual f.heights U.from → k < dual f.heights U.to → reg_region d L k ≡ reg_region d R k
  along_fwd i k e first high =
      let v = intervals in
      let e1 = preimage-first d X f U k first high in
      let e2 = sing_same i k e (omega arith) high in
      let e3 = uncut-sing d P N i k e (omega arith) (omega arith) in
      let e4 = ih (reg d X k) (sing d X k) (fwd d X k) (sing_region d P k) (sing_region d N i) (vX.regs k (omega arith)) (vX.sings k (omega arith))
      (vX.fwds k (omega arith)) (closed_sing d X P cP k (omega arith) (omega arith)) (inner_sing d X P N cP.region rN i k e (omega arith) (omega arith)) in
      let e5 : preimage d (reg d X k) (fwd d X k) (sing_region d P k) ≡ reg_region d P k = cP.closed.fwds k (omega arith) (omega arith) in
      let e6 : reg_region d N i ≡ preimage d (cut_diagram d (reg d X k) (reg_region d P k)) (cut_arrow d (fwd d X k) (sing_region d P k)) (sing_region d N i) =
      preimage-first d from part V i (omega arith) (omega arith)
      ∙ preimage_along d _ _ _ _ _ _ (cut-reg d X P i k e (omega arith)) (cut-fwd d X P i k e (omega arith)) refl in
      e1 ∙ ap (preimage d (reg d X k) (fwd d X k)) (e2 ∙ e3) ∙ e4
      ∙ ap (λ (Q : Reg d). uncut_region d Q (preimage d (cut_diagram d (reg d X k) Q) (cut_arrow d (fwd d X k) (sing_region d P k)) (sing_region d N i))) e5
      ∙ ap (uncut_region d (reg_region d P k)) (sym e6)
      ∙ sym (uncut-reg d P N i k e (omega arith) (omega arith))

  -- where the interval has one regular height alone, under the regular slice of f
  alone : (i k : ℕ) → P.from + i ≡ k → k ≡ dual f.heights U.from → k ≡ dual f.heights U.to → reg_region d L k ≡ reg_region d R k
  alone i k e first last =
      let v = intervals in
      let n = inner_within d Y W V cW.region rV in
      let o = rV.order in
      let w = cW.region.within in
      let a = uncut-from d W V in
      let u : ℕ = U.from in
      let ul : u ≤ length Y.sings = omega arith in
      let c = preimage_cases_agree d X Y f W vX vY vf cW in
      let e1 = preimage-alone d X f U k first last in
      let e2 = uncut-reg d W V V.from u (sym a) (omega arith) o in
      let valid : ValidArrow d (reg d X k) (reg d Y u) (arrow_reg d f u) =
      subst (λ (t : ℕ). ValidArrow d (reg d X t) (reg d Y u) (arrow_reg d f u)) (sym first) (vf.regs u ul) in
      let e3 = ih (reg d X k) (reg d Y u) (arrow_reg d f u) (reg_region d W u) (reg_region d V V.from) (vX.regs k (omega arith)) (vY.regs u ul)
      valid (closed_reg d Y W cW u (omega arith) (omega arith)) (inner_reg d Y W V cW.region rV V.from u (sym a) (omega arith) o) in
      let e4 : preimage d (reg d X k) (arrow_reg d f u) (reg_region d W u) ≡ reg_region d P k =
      ap (λ (t : ℕ). preimage d (reg d X t) (arrow_reg d f u) (reg_region d W u)) first
      ∙ sym (c.regs u (omega arith) (omega arith)) ∙ ap (reg_region d P) (sym first) in
      let e5 : reg_region d N i ≡ preimage d (cut_diagram d (reg d X k) (reg_region d P k)) (cut_arrow d (arrow_reg d f u) (reg_region d W u)) (reg_region d V V.from) =
      preimage-alone d from part V i (omega arith) (omega arith)
      ∙ preimage_along d _ _ _ _ _ _ (cut-reg d X P i k e (omega arith)) (cut_arrow-reg d f W V.from u (sym a) (omega arith)) refl in
      e1 ∙ ap (preimage d (reg d X k) (arrow_reg d f u)) e2 ∙ e3
      ∙ ap (λ (Q : Reg d). uncut_region d Q (preimage d (cut_diagram d (reg d X k) Q) (cut_arrow d (arrow_reg d f u) (reg_region d W u)) (reg_region d V V.from))) e4
      ∙ ap (uncut_region d (reg_region d P k)) (sym e5)
      ∙ sym (uncut-reg d P N i k e (omega arith) (omega arith))

  reg_same : (k : ℕ) → dual f.heights U.from ≤ k → k ≤ dual f.heights U.to → reg_region d L k ≡ reg_region d R k
  reg_same k low high =
      let v = intervals in
      elim (first_or_after (dual f.heights U.from) k low) [
        | inr p ↦ (
            let pl = p.1 in
            let pe = p.2 in
            subst (λ (t : ℕ). reg_region d L t ≡ reg_region d R t) pe (along_bwd (p.0 - P.from) p.0 (omega arith) pl (omega arith)))
        | inl e ↦ elim (cases_lt k (dual f.heights U.to)) [
          | inl q ↦ along_fwd (k - P.from) k (omega arith) e q
          | inr q ↦ alone (k - P.from) k (omega arith) e (omega arith)
        ]
      ]

  preimage_step : L ≡ R
  preimage_step =
      let v = intervals in
      let l1 = preimage-from d X f U in
      let l2 = preimage-to d X f U in
      same_regions d X L R (preimages_are_regions (suc d) X Y f U vX vf rU) (uncut_regions_are_regions (suc d) X P N cP.region rN)
      (l1 ∙ sym v.r_from) (l2 ∙ sym v.r_to)
      (λ k low high. reg_same k (omega arith) (omega arith)) (λ k low high. sing_same (k - P.from) k (omega arith) (omega arith) (omega arith))

pub preimages_of_uncut_regions : (d : ℕ) → PreimagesOfUncutRegions d
preimages_of_uncut_regions zero = λ x y f W V vx vy vf cW rV. refl
preimages_of_uncut_regions (suc d) = preimage_step d (preimages_of_uncut_regions d)
