-- Cuts keep composites and identities.
use Rattle.std.proofs.Common.{◌≡◌, ℕ, zero, suc, ◌+◌, ◌-◌, ◌<◌, ◌≤◌, length, refl, sym, ap, ◌∙◌, arith}
use Rattle.diagram_terms.specs.Family.{Dia, Arr, reg, sing, height, arrow_reg, arrow_sing}
use Rattle.diagram_terms.specs.Dual.{dual, after}
use Rattle.diagram_terms.specs.Composite.{comp, ident}
use Rattle.diagram_terms.specs.Valid.{ValidArrow, Valid}
use Rattle.diagram_terms.proofs.Duals.{dual_mono, length-after, get-after, same_numbers}
use Rattle.diagram_terms.proofs.Parts.{comp-heights, comp-regs_len, comp-sings_len, comp-height, comp-reg, comp-sing, ident-heights_len, ident-regs_len, ident-sings_len, ident-reg, ident-sing, ident-height, ident-dual, same_arrows}
use Rattle.map_laws.proofs.ValidParts.{dual_within, composite-dual}
use Rattle.diagram_terms.specs.Regions.{Reg, reg_region, sing_region, IsRegionOf}
use Rattle.diagram_terms.specs.ClosedRegions.{IsClosedRegion}
use Rattle.diagram_terms.specs.Preimages.{preimage}
use Rattle.diagram_terms.specs.Cuts.{cut_arrow, cut_diagram}
use Rattle.region_laws.specs.Laws.{CutsKeepComposites, CutsKeepIdentities}
use Rattle.region_laws.proofs.RegionParts.{preimage-from, preimage-to, preimage-sing}
use Rattle.region_laws.proofs.PreimageRegions.{interval_within, goes_from, goes_to}
use Rattle.region_laws.proofs.PreimageCases.{closed_reg, closed_sing}
use Rattle.region_laws.proofs.Preimages.{preimages_are_closed, preimage_cases_agree}
use Rattle.region_laws.proofs.CutParts.{cut-regs_len, cut-sings_len, cut-reg, cut-sing, cut_arrow-heights_len, cut_arrow-regs_len, cut_arrow-sings_len, cut_arrow-height, cut_arrow-reg, cut_arrow-sing, cut-dual}

-- ---- composites, one level up

module _ (d : ℕ) (ih : CutsKeepComposites d) (X Y Z : Dia (suc d)) (f g : Arr (suc d)) (W : Reg (suc d))
    (vX : Valid (suc d) X) (vY : Valid (suc d) Y) (vZ : Valid (suc d) Z) (vf : ValidArrow (suc d) X Y f) (vg : ValidArrow (suc d) Y Z g)
    (cW : IsClosedRegion (suc d) Z W) where
  abbrev gf : Arr (suc d)
  gf = comp (suc d) g f

  abbrev M : Reg (suc d)
  M = preimage (suc d) Y g W

  abbrev first : Arr (suc d)
  first = cut_arrow (suc d) f M

  abbrev second : Arr (suc d)
  second = cut_arrow (suc d) g W

  cM : IsClosedRegion (suc d) Y M
  cM = preimages_are_closed (suc d) Y Z g W vY vZ vg cW

  from_same : dual gf.heights W.from ≡ dual f.heights M.from
  from_same = composite-dual d X Y Z f g vf vg W.from ∙ ap (dual f.heights) (sym (preimage-from d Y g W))

  to_same : dual gf.heights W.to ≡ dual f.heights M.to
  to_same = composite-dual d X Y Z f g vf vg W.to ∙ ap (dual f.heights) (sym (preimage-to d Y g W))

  -- the height k of X that the cut keeps goes to the height m of Y, which the cut of g keeps
  height_same : (i k : ℕ) → dual gf.heights W.from + i ≡ k → k < dual gf.heights W.to
      → height d (cut_arrow (suc d) gf W) i ≡ height d second (height d first i)
  height_same i k e l =
      let p = from_same in
      let q = to_same in
      let mf = preimage-from d Y g W in
      let mt = preimage-to d Y g W in
      let n = interval_within d X Y f M vf cM.region in
      let hl = vf.heights_len in
      let m : ℕ = height d f k in
      let from : M.from ≤ m = goes_from d X Y f M vf cM.region k (omega arith) (omega arith) in
      let to : m < M.to = goes_to d X Y f M vf cM.region k (omega arith) in
      cut_arrow-height d gf W i k e l
      ∙ ap (λ (n : ℕ). n - W.from) (comp-height d g f k (omega arith))
      ∙ sym (cut_arrow-height d g W (m - M.from) m (omega arith) (omega arith))
      ∙ ap (height d second) (sym (cut_arrow-height d f M i k (omega arith) (omega arith)))

  heights_same : (cut_arrow (suc d) gf W).heights ≡ (comp (suc d) second first).heights
  heights_same =
      let p = from_same in
      let q = to_same in
      let l1 = cut_arrow-heights_len d gf W in
      let l2 = cut_arrow-heights_len d f M in
      let l3 = length-after second.heights first.heights in
      same_numbers (cut_arrow (suc d) gf W).heights (after second.heights first.heights) (l1 ∙ omega arith ∙ sym l2 ∙ sym l3) (λ i l.
      height_same i (dual gf.heights W.from + i) refl (omega arith) ∙ sym (get-after second.heights first.heights i (omega arith)))
      ∙ sym (comp-heights d second first)

  reg_same : (j k : ℕ) → W.from + j ≡ k → k ≤ W.to → arrow_reg d (cut_arrow (suc d) gf W) j ≡ arrow_reg d (comp (suc d) second first) j
  reg_same j k e l =
      let nz = cW.region.within in
      let mf = preimage-from d Y g W in
      let mt = preimage-to d Y g W in
      let n : ℕ = dual g.heights k in
      let m : ℕ = dual f.heights n in
      let low : dual g.heights W.from ≤ n = dual_mono g.heights vg.monotone W.from k (omega arith) in
      let high : n ≤ dual g.heights W.to = dual_mono g.heights vg.monotone k W.to l in
      let ln : n ≤ length Y.sings = dual_within d Y Z g vg k in
      let c = preimage_cases_agree d Y Z g W vY vZ vg cW in
      let rl = cut_arrow-regs_len d g W in
      let gl = vg.regs_len in
      let e1 = cut_arrow-reg d gf W j k e l in
      let e2 = comp-reg d g f k (omega arith) in
      let e3 = ih (reg d X m) (reg d Y n) (reg d Z k) (arrow_reg d f n) (arrow_reg d g k) (reg_region d W k)
      (vX.regs m (dual_within d X Y f vf n)) (vY.regs n ln) (vZ.regs k (omega arith)) (vf.regs n ln) (vg.regs k (omega arith))
      (closed_reg d Z W cW k (omega arith) l) in
      let e4 = c.regs k (omega arith) l in
      let e5 = cut_arrow-reg d g W j k e l in
      let e6 = cut_arrow-reg d f M (n - dual g.heights W.from) n (omega arith) (omega arith) in
      let e7 = cut-dual d g W vg.monotone j k e l in
      let e8 = comp-reg d second first j (omega arith) in
      let s : Arr d = cut_arrow d (arrow_reg d g k) (reg_region d W k) in
      e1 ∙ ap (λ (h : Arr d). cut_arrow d h (reg_region d W k)) e2 ∙ e3
      ∙ ap (λ (R : Reg d). comp d s (cut_arrow d (arrow_reg d f n) R)) (sym e4)
      ∙ ap (λ (h : Arr d). comp d s h) (sym e6)
      ∙ ap (λ (i : ℕ). comp d s (arrow_reg d first i)) (sym e7)
      ∙ ap (λ (h : Arr d). comp d h (arrow_reg d first (dual second.heights j))) (sym e5)
      ∙ sym e8

  sing_same : (i k : ℕ) → dual gf.heights W.from + i ≡ k → k < dual gf.heights W.to
      → arrow_sing d (cut_arrow (suc d) gf W) i ≡ arrow_sing d (comp (suc d) second first) i
  sing_same i k e l =
      let p = from_same in
      let q = to_same in
      let mf = preimage-from d Y g W in
      let mt = preimage-to d Y g W in
      let nz = cW.region.within in
      let ny = cM.region.within in
      let n = interval_within d X Y f M vf cM.region in
      let hl = vf.heights_len in
      let sl = vf.sings_len in
      let m : ℕ = height d f k in
      let t : ℕ = height d g m in
      let mlow : M.from ≤ m = goes_from d X Y f M vf cM.region k (omega arith) (omega arith) in
      let mhigh : m < M.to = goes_to d X Y f M vf cM.region k (omega arith) in
      let tlow : W.from ≤ t = goes_from d Y Z g W vg cW.region m (omega arith) (omega arith) in
      let thigh : t < W.to = goes_to d Y Z g W vg cW.region m (omega arith) in
      let fl = cut_arrow-sings_len d f M in
      let e1 = cut_arrow-sing d gf W i k e l in
      let e2 = comp-sing d g f k (omega arith) in
      let e3 = comp-height d g f k (omega arith) in
      let e4 = ih (sing d X k) (sing d Y m) (sing d Z t) (arrow_sing d f k) (arrow_sing d g m) (sing_region d W t)
      (vX.sings k (omega arith)) (vY.sings m (omega arith)) (vZ.sings t (omega arith)) (vf.sings k (omega arith)) (vg.sings m (omega arith))
      (closed_sing d Z W cW t tlow thigh) in
      let e5 = preimage-sing d Y g W m (omega arith) (omega arith) in
      let e6 = cut_arrow-sing d f M i k (omega arith) (omega arith) in
      let e7 = cut_arrow-sing d g W (m - M.from) m (omega arith) (omega arith) in
      let e8 = cut_arrow-height d f M i k (omega arith) (omega arith) in
      let e9 = comp-sing d second first i (omega arith) in
      let s : Arr d = cut_arrow d (arrow_sing d g m) (sing_region d W t) in
      e1
      ∙ ap (λ (n : ℕ). cut_arrow d (arrow_sing d gf k) (sing_region d W n)) e3
      ∙ ap (λ (h : Arr d). cut_arrow d h (sing_region d W t)) e2 ∙ e4
      ∙ ap (λ (R : Reg d). comp d s (cut_arrow d (arrow_sing d f k) R)) (sym e5)
      ∙ ap (λ (h : Arr d). comp d s h) (sym e6)
      ∙ ap (λ (h : Arr d). comp d h (arrow_sing d first i)) (sym e7)
      ∙ ap (λ (n : ℕ). comp d (arrow_sing d second n) (arrow_sing d first i)) (sym e8)
      ∙ sym e9

  composite_step : cut_arrow (suc d) gf W ≡ comp (suc d) second first
  composite_step =
      let p = from_same in
      let q = to_same in
      let o = cW.region.order in
      let r1 = cut_arrow-regs_len d gf W in
      let r2 = comp-regs_len d second first in
      let r3 = cut_arrow-regs_len d g W in
      let s1 = cut_arrow-sings_len d gf W in
      let s2 = comp-sings_len d second first in
      let s3 = cut_arrow-sings_len d f M in
      same_arrows d (cut_arrow (suc d) gf W) (comp (suc d) second first) heights_same
      (omega arith) (λ j l. reg_same j (W.from + j) refl (omega arith))
      (omega arith) (λ i l. sing_same i (dual gf.heights W.from + i) refl (omega arith))

composite_base : CutsKeepComposites zero
unfolding cut_arrow
composite_base x y z f g W vx vy vz vf vg cW = refl

pub cuts_keep_composites : (d : ℕ) → CutsKeepComposites d
cuts_keep_composites zero = composite_base
cuts_keep_composites (suc d) = composite_step d (cuts_keep_composites d)

-- ---- identities, one level up

module _ (d : ℕ) (ih : CutsKeepIdentities d) (X : Dia (suc d)) (W : Reg (suc d)) (vX : Valid (suc d) X) (rW : IsRegionOf (suc d) X W) where
  abbrev one : Arr (suc d)
  one = ident (suc d) X

  abbrev part : Dia (suc d)
  part = cut_diagram (suc d) X W

  one_from : dual one.heights W.from ≡ W.from
  one_from = let o = rW.order in let w = rW.within in ident-dual d X W.from (omega arith)

  one_to : dual one.heights W.to ≡ W.to
  one_to = ident-dual d X W.to rW.within

  identity_step : cut_arrow (suc d) one W ≡ ident (suc d) part
  identity_step =
      let o = rW.order in
      let w = rW.within in
      let p = one_from in
      let q = one_to in
      let xl = vX.regs_len in
      let h1 = cut_arrow-heights_len d one W in
      let h2 = ident-heights_len d part in
      let r1 = cut_arrow-regs_len d one W in
      let r2 = ident-regs_len d part in
      let r3 = cut-regs_len d X W in
      let s1 = cut_arrow-sings_len d one W in
      let s2 = ident-sings_len d part in
      let s3 = cut-sings_len d X W in
      same_arrows d (cut_arrow (suc d) one W) (ident (suc d) part)
      (same_numbers (cut_arrow (suc d) one W).heights (ident (suc d) part).heights (omega arith) (λ i l.
      let k : ℕ = W.from + i in
      let e1 = cut_arrow-height d one W i k (omega arith) (omega arith) in
      let e2 = ident-height d X k (omega arith) in
      let e3 = ident-height d part i (omega arith) in
      omega arith))
      (omega arith) (λ j l.
      let k : ℕ = W.from + j in
      cut_arrow-reg d one W j k refl (omega arith)
      ∙ ap (λ (h : Arr d). cut_arrow d h (reg_region d W k)) (ident-reg d X k (omega arith))
      ∙ ih (reg d X k) (reg_region d W k) (vX.regs k (omega arith)) (rW.regs k (omega arith) (omega arith))
      ∙ ap (ident d) (sym (cut-reg d X W j k refl (omega arith)))
      ∙ sym (ident-reg d part j (omega arith)))
      (omega arith) (λ i l.
      let k : ℕ = W.from + i in
      cut_arrow-sing d one W i k (omega arith) (omega arith)
      ∙ ap (λ (n : ℕ). cut_arrow d (arrow_sing d one k) (sing_region d W n)) (ident-height d X k (omega arith))
      ∙ ap (λ (h : Arr d). cut_arrow d h (sing_region d W k)) (ident-sing d X k (omega arith))
      ∙ ih (sing d X k) (sing_region d W k) (vX.sings k (omega arith)) (rW.sings k (omega arith) (omega arith))
      ∙ ap (ident d) (sym (cut-sing d X W i k refl (omega arith)))
      ∙ sym (ident-sing d part i (omega arith)))

identity_base : CutsKeepIdentities zero
unfolding cut_arrow cut_diagram
identity_base x W vx rW = refl

pub cuts_keep_identities : (d : ℕ) → CutsKeepIdentities d
cuts_keep_identities zero = identity_base
cuts_keep_identities (suc d) = identity_step d (cuts_keep_identities d)
