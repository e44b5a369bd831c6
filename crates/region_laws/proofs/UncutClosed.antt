-- Regions of cuts, as regions of what was cut: along legs, closed ones, and those of single heights.
use Rattle.std.proofs.Common.{◌≡◌, ℕ, zero, suc, ◌+◌, ◌-◌, ◌<◌, ◌≤◌, refl, sym, ap, ◌∙◌, subst, arith, inl, inr}
use Rattle.diagram_terms.specs.Family.{Dia, Arr, reg, sing, fwd, bwd}
use Rattle.diagram_terms.specs.Valid.{Valid}
use Rattle.diagram_terms.specs.Regions.{Reg, reg_region, sing_region, IsRegionOf, whole_region}
use Rattle.diagram_terms.specs.ClosedRegions.{IsClosedRegion}
use Rattle.diagram_terms.specs.Preimages.{preimage}
use Rattle.diagram_terms.specs.PointRegions.{at_reg, at_sing}
use Rattle.diagram_terms.specs.Cuts.{cut_arrow, cut_diagram}
use Rattle.diagram_terms.specs.CutsOfCuts.{uncut_region}
use Rattle.region_laws.specs.Laws.{UncutRegionsAreClosed, UncutOfWholeRegions}
use Rattle.region_laws.proofs.RegionParts.{same_spans}
use Rattle.region_laws.proofs.PreimageRegions.{first_or_after}
use Rattle.region_laws.proofs.PreimageCases.{closed_reg, closed_sing}
use Rattle.region_laws.proofs.WholeRegions.{whole-from, whole-reg, whole-sing}
use Rattle.region_laws.proofs.PointRegions.{at_reg-reg, at_sing-sing, at_sing-before, at_sing-behind}
use Rattle.region_laws.proofs.CutParts.{cut-reg, cut-sing, cut-fwd, cut-bwd}
use Rattle.region_laws.proofs.UncutRegions.{uncut-from, uncut-to, uncut-regs_len, uncut-sings_len, uncut-reg, uncut-sing, inner_within, inner_sing, uncut_regions_are_regions}
use Rattle.region_laws.proofs.UncutPreimages.{preimage_along, preimages_of_uncut_regions}

-- ---- along the legs at the height k of X, which is the height i of the cut

module _ (d : ℕ) (X : Dia (suc d)) (W : Reg (suc d)) (vX : Valid (suc d) X) (cW : IsClosedRegion (suc d) X W) (Q : Reg d) (i k : ℕ) (e : W.from + i ≡ k)
    (high : k < W.to) (rQ : IsRegionOf d (cut_diagram d (sing d X k) (sing_region d W k)) Q) where
  abbrev C : Dia (suc d)
  C = cut_diagram (suc d) X W

  pub uncut_along_fwd : preimage d (reg d X k) (fwd d X k) (uncut_region d (sing_region d W k) Q)
      ≡ uncut_region d (reg_region d W k) (preimage d (reg d C i) (fwd d C i) Q)
  uncut_along_fwd =
      let w = cW.region.within in
      let F : Arr d = cut_arrow d (fwd d X k) (sing_region d W k) in
      preimages_of_uncut_regions d (reg d X k) (sing d X k) (fwd d X k) (sing_region d W k) Q (vX.regs k (omega arith)) (vX.sings k (omega arith))
      (vX.fwds k (omega arith)) (closed_sing d X W cW k (omega arith) high) rQ
      ∙ ap (λ (R : Reg d). uncut_region d R (preimage d (cut_diagram d (reg d X k) R) F Q)) (cW.closed.fwds k (omega arith) high)
      ∙ ap (uncut_region d (reg_region d W k))
      (preimage_along d _ _ _ _ _ _ (sym (cut-reg d X W i k e (omega arith))) (sym (cut-fwd d X W i k e high)) refl)

  pub uncut_along_bwd : preimage d (reg d X (suc k)) (bwd d X k) (uncut_region d (sing_region d W k) Q)
      ≡ uncut_region d (reg_region d W (suc k)) (preimage d (reg d C (suc i)) (bwd d C i) Q)
  uncut_along_bwd =
      let w = cW.region.within in
      let B : Arr d = cut_arrow d (bwd d X k) (sing_region d W k) in
      preimages_of_uncut_regions d (reg d X (suc k)) (sing d X k) (bwd d X k) (sing_region d W k) Q (vX.regs (suc k) (omega arith)) (vX.sings k (omega arith))
      (vX.bwds k (omega arith)) (closed_sing d X W cW k (omega arith) high) rQ
      ∙ ap (λ (R : Reg d). uncut_region d R (preimage d (cut_diagram d (reg d X (suc k)) R) B Q)) (cW.closed.bwds k (omega arith) high)
      ∙ ap (uncut_region d (reg_region d W (suc k)))
      (preimage_along d _ _ _ _ _ _ (sym (cut-reg d X W (suc i) (suc k) (omega arith) (omega arith))) (sym (cut-bwd d X W i k e high)) refl)

-- ---- closed regions, one level up

module _ (d : ℕ) (ih : UncutRegionsAreClosed d) (X : Dia (suc d)) (W V : Reg (suc d)) (vX : Valid (suc d) X)
    (cW : IsClosedRegion (suc d) X W) (cV : IsClosedRegion (suc d) (cut_diagram (suc d) X W) V) where
  abbrev whole : Reg (suc d)
  whole = uncut_region (suc d) W V

  reg_closed : (j k : ℕ) → W.from + j ≡ k → V.from ≤ j → j ≤ V.to → IsClosedRegion d (reg d X k) (reg_region d whole k)
  reg_closed j k e low high =
      let n = inner_within d X W V cW.region cV.region in
      let w = cW.region.within in
      subst (IsClosedRegion d (reg d X k)) (sym (uncut-reg d W V j k e low high))
      (ih (reg d X k) (reg_region d W k) (reg_region d V j) (vX.regs k (omega arith)) (closed_reg d X W cW k (omega arith) (omega arith))
      (subst (λ (D : Dia d). IsClosedRegion d D (reg_region d V j)) (cut-reg d X W j k e (omega arith)) (closed_reg d _ V cV j low high)))

  sing_closed : (i k : ℕ) → W.from + i ≡ k → V.from ≤ i → i < V.to → IsClosedRegion d (sing d X k) (sing_region d whole k)
  sing_closed i k e low high =
      let n = inner_within d X W V cW.region cV.region in
      let w = cW.region.within in
      subst (IsClosedRegion d (sing d X k)) (sym (uncut-sing d W V i k e low high))
      (ih (sing d X k) (sing_region d W k) (sing_region d V i) (vX.sings k (omega arith)) (closed_sing d X W cW k (omega arith) (omega arith))
      (subst (λ (D : Dia d). IsClosedRegion d D (sing_region d V i)) (cut-sing d X W i k e (omega arith)) (closed_sing d _ V cV i low high)))

  fwd_closed : (i k : ℕ) → W.from + i ≡ k → V.from ≤ i → i < V.to → preimage d (reg d X k) (fwd d X k) (sing_region d whole k) ≡ reg_region d whole k
  fwd_closed i k e low high =
      let n = inner_within d X W V cW.region cV.region in
      ap (preimage d (reg d X k) (fwd d X k)) (uncut-sing d W V i k e low high)
      ∙ uncut_along_fwd d X W vX cW (sing_region d V i) i k e (omega arith) (inner_sing d X W V cW.region cV.region i k e low high)
      ∙ ap (uncut_region d (reg_region d W k)) (cV.closed.fwds i low high)
      ∙ sym (uncut-reg d W V i k e low (omega arith))

  bwd_closed : (i k : ℕ) → W.from + i ≡ k → V.from ≤ i → i < V.to
      → preimage d (reg d X (suc k)) (bwd d X k) (sing_region d whole k) ≡ reg_region d whole (suc k)
  bwd_closed i k e low high =
      let n = inner_within d X W V cW.region cV.region in
      ap (preimage d (reg d X (suc k)) (bwd d X k)) (uncut-sing d W V i k e low high)
      ∙ uncut_along_bwd d X W vX cW (sing_region d V i) i k e (omega arith) (inner_sing d X W V cW.region cV.region i k e low high)
      ∙ ap (uncut_region d (reg_region d W (suc k))) (cV.closed.bwds i low high)
      ∙ sym (uncut-reg d W V (suc i) (suc k) (omega arith) (omega arith) (omega arith))

  closed_step : IsClosedRegion (suc d) X whole
  closed_step =
      let a = uncut-from d W V in
      let b = uncut-to d W V in
      record {
        region = uncut_regions_are_regions (suc d) X W V cW.region cV.region;
        closed = record {
          regs = λ k low high. (reg_closed (k - W.from) k (omega arith) (omega arith) (omega arith)).closed;
          sings = λ k low high. (sing_closed (k - W.from) k (omega arith) (omega arith) (omega arith)).closed;
          fwds = λ k low high. fwd_closed (k - W.from) k (omega arith) (omega arith) (omega arith);
          bwds = λ k low high. bwd_closed (k - W.from) k (omega arith) (omega arith) (omega arith);
        };
      }

pub uncut_regions_are_closed : (d : ℕ) → UncutRegionsAreClosed d
uncut_regions_are_closed zero = λ x W V vx cW cV. record { region = tt; closed = tt }
uncut_regions_are_closed (suc d) = closed_step d (uncut_regions_are_closed d)

-- ---- single heights

-- a regular height alone
pub uncut_at_reg : (d : ℕ) (W : Reg (suc d)) (V : Reg d) (i k : ℕ) → W.from + i ≡ k
    → uncut_region (suc d) W (at_reg d i V) ≡ at_reg d k (uncut_region d (reg_region d W k) V)
uncut_at_reg d W V i k e =
    let A : Reg (suc d) = at_reg d i V in
    let a = uncut-from d W A in
    let b = uncut-to d W A in
    let rl = uncut-regs_len d W A in
    let sl = uncut-sings_len d W A in
    let whole : Reg (suc d) = at_reg d k (uncut_region d (reg_region d W k) V) in
    let here : reg_region d (uncut_region (suc d) W A) k ≡ reg_region d whole k =
    uncut-reg d W A i k e (omega arith) (omega arith) ∙ ap (uncut_region d (reg_region d W k)) (at_reg-reg d i V) ∙ sym (at_reg-reg d k (uncut_region d (reg_region d W k) V)) in
    same_spans d (uncut_region (suc d) W A) whole (a ∙ e) (b ∙ e) (omega arith) (omega arith) (omega arith) (omega arith) (omega arith)
    (λ j low high. subst (λ (n : ℕ). reg_region d (uncut_region (suc d) W A) n ≡ reg_region d whole n) (omega arith) here)
    (λ j low high. absurd (omega arith))

-- a singular height between its two regular ones
pub uncut_at_sing : (d : ℕ) (X : Dia (suc d)) (W : Reg (suc d)) (V : Reg d) (i k : ℕ) → Valid (suc d) X → IsClosedRegion (suc d) X W → W.from + i ≡ k → k < W.to
    → IsRegionOf d (cut_diagram d (sing d X k) (sing_region d W k)) V
    → uncut_region (suc d) W (at_sing d (cut_diagram (suc d) X W) i V) ≡ at_sing d X k (uncut_region d (sing_region d W k) V)
uncut_at_sing d X W V i k vX cW e high rV =
    let C : Dia (suc d) = cut_diagram (suc d) X W in
    let A : Reg (suc d) = at_sing d C i V in
    let U : Reg d = uncut_region d (sing_region d W k) V in
    let L : Reg (suc d) = uncut_region (suc d) W A in
    let whole : Reg (suc d) = at_sing d X k U in
    let a = uncut-from d W A in
    let b = uncut-to d W A in
    let rl = uncut-regs_len d W A in
    let sl = uncut-sings_len d W A in
    let before : reg_region d L k ≡ reg_region d whole k =
    uncut-reg d W A i k e (omega arith) (omega arith) ∙ ap (uncut_region d (reg_region d W k)) (at_sing-before d C i V)
    ∙ sym (uncut_along_fwd d X W vX cW V i k e high rV) ∙ sym (at_sing-before d X k U) in
    let behind : reg_region d L (suc k) ≡ reg_region d whole (suc k) =
    uncut-reg d W A (suc i) (suc k) (omega arith) (omega arith) (omega arith) ∙ ap (uncut_region d (reg_region d W (suc k))) (at_sing-behind d C i V)
    ∙ sym (uncut_along_bwd d X W vX cW V i k e high rV) ∙ sym (at_sing-behind d X k U) in
    let inside : sing_region d L k ≡ sing_region d whole k =
    uncut-sing d W A i k e (omega arith) (omega arith) ∙ ap (uncut_region d (sing_region d W k)) (at_sing-sing d C i V) ∙ sym (at_sing-sing d X k U) in
    same_spans d L whole (a ∙ e) (b ∙ omega arith) (omega arith) (omega arith) (omega arith) (omega arith) (omega arith)
    (λ j low up. elim (first_or_after k j (omega arith)) [
      | inl p ↦ subst (λ (n : ℕ). reg_region d L n ≡ reg_region d whole n) (sym p) before
      | inr p ↦ (let pl = p.1 in let pe = p.2 in subst (λ (n : ℕ). reg_region d L n ≡ reg_region d whole n) (omega arith) behind)
    ])
    (λ j low up. subst (λ (n : ℕ). sing_region d L n ≡ sing_region d whole n) (omega arith) inside)

-- ---- a region of the whole is itself

pub uncut_of_whole_regions : (d : ℕ) → UncutOfWholeRegions d
uncut_of_whole_regions zero X V rV = refl
uncut_of_whole_regions (suc d) X V rV =
    let W : Reg (suc d) = whole_region (suc d) X in
    let z = whole-from d X in
    let a = uncut-from d W V in
    let b = uncut-to d W V in
    let o = rV.order in
    let n = rV.within in
    let r1 = rV.regs_len in
    let s1 = rV.sings_len in
    let r2 = uncut-regs_len d W V in
    let s2 = uncut-sings_len d W V in
    same_spans d (uncut_region (suc d) W V) V (omega arith) (omega arith) (omega arith) (omega arith) (omega arith) r1 s1
    (λ j low high.
    uncut-reg d W V j j (omega arith) (omega arith) (omega arith)
    ∙ ap (λ (R : Reg d). uncut_region d R (reg_region d V j)) (whole-reg d X j (omega arith))
    ∙ uncut_of_whole_regions d (reg d X j) (reg_region d V j) (rV.regs j (omega arith) (omega arith)))
    (λ j low high.
    uncut-sing d W V j j (omega arith) (omega arith) (omega arith)
    ∙ ap (λ (R : Reg d). uncut_region d R (sing_region d V j)) (whole-sing d X j (omega arith))
    ∙ uncut_of_whole_regions d (sing d X j) (sing_region d V j) (rV.sings j (omega arith) (omega arith)))
