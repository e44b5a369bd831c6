-- Preimages of closed regions are closed, and preimages compose.
use Rattle.std.proofs.Common.{◌≡◌, ℕ, zero, suc, ◌<◌, ◌≤◌, length, refl, sym, ap, ◌∙◌, subst, arith, inl, inr}
use Rattle.diagram_terms.specs.Family.{Dia, Arr, reg, sing, bwd, height, arrow_reg, arrow_sing}
use Rattle.diagram_terms.specs.Dual.{dual}
use Rattle.diagram_terms.specs.Composite.{comp, ident}
use Rattle.diagram_terms.specs.Valid.{ValidArrow, Valid}
use Rattle.diagram_terms.proofs.Parts.{comp-height, comp-reg, comp-sing, ident-reg, ident-sing, ident-height, ident-dual}
use Rattle.map_laws.proofs.ValidParts.{dual_within, composite-dual}
use Rattle.map_laws.proofs.ValidComposites.{composites_are_valid}
use Rattle.map_laws.proofs.ValidIdentities.{identities_are_valid}
use Rattle.diagram_terms.specs.Regions.{Reg, reg_region, sing_region}
use Rattle.diagram_terms.specs.ClosedRegions.{IsClosedRegion}
use Rattle.diagram_terms.specs.Preimages.{preimage}
use Rattle.region_laws.specs.Laws.{PreimagesAreClosed, PreimagesCompose, PreimageCasesAgree, PreimagesUnderIdentities}
use Rattle.region_laws.proofs.RegionParts.{same_regions, preimage-from, preimage-to, preimage-sing, preimage-after}
use Rattle.region_laws.proofs.PreimageRegions.{interval_within, goes_from, goes_to, first_or_after, preimages_are_regions}
use Rattle.region_laws.proofs.PreimageCases.{closed_reg, closed_sing, preimage_cases}

-- ---- preimages of closed regions are closed, one level up

module _ (d : ℕ) (ih : PreimagesAreClosed d) (compose : PreimagesCompose d) (X Y : Dia (suc d)) (f : Arr (suc d)) (W : Reg (suc d))
    (vX : Valid (suc d) X) (vY : Valid (suc d) Y) (vf : ValidArrow (suc d) X Y f) (cW : IsClosedRegion (suc d) Y W) where
  sing_closed : (i : ℕ) → dual f.heights W.from ≤ i → i < dual f.heights W.to → IsClosedRegion d (sing d X i) (sing_region d (preimage (suc d) X f W) i)
  sing_closed i low high =
      let n = interval_within d X Y f W vf cW.region in
      let m : ℕ = height d f i in
      let from : W.from ≤ m = goes_from d X Y f W vf cW.region i low high in
      let to : m < W.to = goes_to d X Y f W vf cW.region i high in
      let w = cW.region.within in
      subst (IsClosedRegion d (sing d X i)) (sym (preimage-sing d X f W i low high))
      (ih (sing d X i) (sing d Y m) (arrow_sing d f i) (sing_region d W m) (vX.sings i (omega arith)) (vY.sings m (omega arith)) (vf.sings i (omega arith))
      (closed_sing d Y W cW m from to))

  reg_closed : (j : ℕ) → dual f.heights W.from ≤ j → j ≤ dual f.heights W.to → IsClosedRegion d (reg d X j) (reg_region d (preimage (suc d) X f W) j)
  reg_closed j low high =
      let n = interval_within d X Y f W vf cW.region in
      let o = cW.region.order in
      let w = cW.region.within in
      elim (first_or_after (dual f.heights W.from) j low) [
        | inr p ↦ (
            let i : ℕ = p.0 in
            let pl = p.1 in
            let pe = p.2 in
            let here : i < length X.sings = omega arith in
            subst (λ (k : ℕ). IsClosedRegion d (reg d X k) (reg_region d (preimage (suc d) X f W) k)) pe
            (subst (IsClosedRegion d (reg d X (suc i))) (sym (preimage-after d X f W i pl (omega arith)))
            (ih (reg d X (suc i)) (sing d X i) (bwd d X i) _ (vX.regs (suc i) here) (vX.sings i here) (vX.bwds i here) (sing_closed i pl (omega arith)))))
        | inl e ↦ (
            let c = preimage_cases d compose X Y f W vX vY vf cW in
            let k : ℕ = dual f.heights W.from in
            subst (λ (k : ℕ). IsClosedRegion d (reg d X k) (reg_region d (preimage (suc d) X f W) k)) (sym e)
            (subst (IsClosedRegion d (reg d X k)) (sym (c.regs W.from (omega arith) o))
            (ih (reg d X k) (reg d Y W.from) (arrow_reg d f W.from) (reg_region d W W.from) (vX.regs k (dual_within d X Y f vf W.from))
            (vY.regs W.from (omega arith)) (vf.regs W.from (omega arith)) (closed_reg d Y W cW W.from (omega arith) o))))
      ]

  closed_step : IsClosedRegion (suc d) X (preimage (suc d) X f W)
  closed_step =
      let a = preimage-from d X f W in
      let b = preimage-to d X f W in
      let c = preimage_cases d compose X Y f W vX vY vf cW in
      record {
        region = preimages_are_regions (suc d) X Y f W vX vf cW.region;
        closed = record {
          regs = λ j low high. (reg_closed j (omega arith) (omega arith)).closed;
          sings = λ i low high. (sing_closed i (omega arith) (omega arith)).closed;
          fwds = λ i low high. sym (c.fwds i (omega arith) (omega arith));
          bwds = λ i low high. sym (c.bwds i (omega arith) (omega arith));
        };
      }

-- ---- preimages under composites, one level up

module _ (d : ℕ) (ih : PreimagesCompose d) (closed : PreimagesAreClosed (suc d)) (X Y Z : Dia (suc d)) (f g : Arr (suc d)) (W : Reg (suc d))
    (vX : Valid (suc d) X) (vY : Valid (suc d) Y) (vZ : Valid (suc d) Z) (vf : ValidArrow (suc d) X Y f) (vg : ValidArrow (suc d) Y Z g)
    (cW : IsClosedRegion (suc d) Z W) where
  abbrev gf : Arr (suc d)
  gf = comp (suc d) g f

  abbrev M : Reg (suc d)
  M = preimage (suc d) Y g W

  vgf : ValidArrow (suc d) X Z gf
  vgf = composites_are_valid (suc d) X Y Z f g vX vY vZ vf vg

  cM : IsClosedRegion (suc d) Y M
  cM = closed Y Z g W vY vZ vg cW

  from_same : dual gf.heights W.from ≡ dual f.heights M.from
  from_same = composite-dual d X Y Z f g vf vg W.from ∙ ap (dual f.heights) (sym (preimage-from d Y g W))

  to_same : dual gf.heights W.to ≡ dual f.heights M.to
  to_same = composite-dual d X Y Z f g vf vg W.to ∙ ap (dual f.heights) (sym (preimage-to d Y g W))

  sing_same : (i : ℕ) → dual gf.heights W.from ≤ i → i < dual gf.heights W.to
      → sing_region d (preimage (suc d) X gf W) i ≡ sing_region d (preimage (suc d) X f M) i
  sing_same i low high =
      let p = from_same in
      let q = to_same in
      let mf = preimage-from d Y g W in
      let mt = preimage-to d Y g W in
      let n = interval_within d X Y f M vf cM.region in
      let ny = cM.region.within in
      let j : ℕ = height d f i in
      let k : ℕ = height d g j in
      let jf : M.from ≤ j = goes_from d X Y f M vf cM.region i (omega arith) (omega arith) in
      let jt : j < M.to = goes_to d X Y f M vf cM.region i (omega arith) in
      let kf : W.from ≤ k = goes_from d Y Z g W vg cW.region j (omega arith) (omega arith) in
      let kt : k < W.to = goes_to d Y Z g W vg cW.region j (omega arith) in
      let nz = cW.region.within in
      let e1 = preimage-sing d X gf W i low high in
      let e2 = comp-sing d g f i (let a = vf.sings_len in omega arith) in
      let e3 = comp-height d g f i (let a = vf.heights_len in omega arith) in
      let e4 = ih (sing d X i) (sing d Y j) (sing d Z k) (arrow_sing d f i) (arrow_sing d g j) (sing_region d W k)
      (vX.sings i (omega arith)) (vY.sings j (omega arith)) (vZ.sings k (omega arith)) (vf.sings i (omega arith)) (vg.sings j (omega arith))
      (closed_sing d Z W cW k kf kt) in
      let e5 = preimage-sing d Y g W j (omega arith) (omega arith) in
      let e6 = preimage-sing d X f M i (omega arith) (omega arith) in
      e1
      ∙ ap (λ (h : Arr d). preimage d (sing d X i) h (sing_region d W (height d gf i))) e2
      ∙ ap (λ (n : ℕ). preimage d (sing d X i) (comp d (arrow_sing d g j) (arrow_sing d f i)) (sing_region d W n)) e3
      ∙ e4 ∙ ap (preimage d (sing d X i) (arrow_sing d f i)) (sym e5) ∙ sym e6

  reg_same : (t : ℕ) → dual gf.heights W.from ≤ t → t ≤ dual gf.heights W.to
      → reg_region d (preimage (suc d) X gf W) t ≡ reg_region d (preimage (suc d) X f M) t
  reg_same t low high =
      let ff = from_same in
      let ft = to_same in
      elim (first_or_after (dual gf.heights W.from) t low) [
        | inr p ↦ (
            let i : ℕ = p.0 in
            let pl = p.1 in
            let pe = p.2 in
            let r : reg_region d (preimage (suc d) X gf W) (suc i) ≡ reg_region d (preimage (suc d) X f M) (suc i) =
            preimage-after d X gf W i pl (omega arith)
            ∙ ap (preimage d (reg d X (suc i)) (bwd d X i)) (sing_same i pl (omega arith))
            ∙ sym (preimage-after d X f M i (omega arith) (omega arith)) in
            subst (λ (t : ℕ). reg_region d (preimage (suc d) X gf W) t ≡ reg_region d (preimage (suc d) X f M) t) pe r)
        | inl e ↦ (
            let a : ℕ = W.from in
            let o = cW.region.order in
            let nz = cW.region.within in
            let j : ℕ = dual g.heights a in
            let i : ℕ = dual f.heights j in
            let mf = preimage-from d Y g W in
            let mo = cM.region.order in
            let whole = preimage_cases d ih X Z gf W vX vZ vgf cW in
            let first = preimage_cases d ih X Y f M vX vY vf cM in
            let second = preimage_cases d ih Y Z g W vY vZ vg cW in
            let e0 : dual gf.heights a ≡ i = composite-dual d X Y Z f g vf vg a in
            let lj : j ≤ length Y.sings = dual_within d Y Z g vg a in
            let e1 = whole.regs a (omega arith) o in
            let e2 = comp-reg d g f a (let l = vg.regs_len in omega arith) in
            let e3 = ih (reg d X i) (reg d Y j) (reg d Z a) (arrow_reg d f j) (arrow_reg d g a) (reg_region d W a)
            (vX.regs i (dual_within d X Y f vf j)) (vY.regs j lj) (vZ.regs a (omega arith)) (vf.regs j lj) (vg.regs a (omega arith))
            (closed_reg d Z W cW a (omega arith) o) in
            let e4 = second.regs a (omega arith) o in
            let e5 = first.regs j (omega arith) (omega arith) in
            ap (reg_region d (preimage (suc d) X gf W)) e ∙ e1
            ∙ ap (λ (n : ℕ). preimage d (reg d X n) (arrow_reg d gf a) (reg_region d W a)) e0
            ∙ ap (λ (h : Arr d). preimage d (reg d X i) h (reg_region d W a)) e2
            ∙ e3 ∙ ap (preimage d (reg d X i) (arrow_reg d f j)) (sym e4) ∙ sym e5
            ∙ ap (reg_region d (preimage (suc d) X f M)) (sym e0 ∙ sym e))
      ]

  compose_step : preimage (suc d) X gf W ≡ preimage (suc d) X f M
  compose_step =
      let f1 = preimage-from d X gf W in
      let t1 = preimage-to d X gf W in
      same_regions d X (preimage (suc d) X gf W) (preimage (suc d) X f M)
      (preimages_are_regions (suc d) X Z gf W vX vgf cW.region) (preimages_are_regions (suc d) X Y f M vX vf cM.region)
      (f1 ∙ from_same ∙ sym (preimage-from d X f M)) (t1 ∙ to_same ∙ sym (preimage-to d X f M))
      (λ j low high. reg_same j (omega arith) (omega arith)) (λ i low high. sing_same i (omega arith) (omega arith))

-- ---- in every dimension

both : (d : ℕ) → PreimagesAreClosed d × PreimagesCompose d
both zero = (λ x y f W vx vy vf cW. record { region = tt; closed = tt }, λ x y z f g W vx vy vz vf vg cW. refl)
both (suc d) =
    let lower = both d in
    let closed : PreimagesAreClosed (suc d) = closed_step d lower.0 lower.1 in
    (closed, compose_step d lower.1 closed)

pub preimages_are_closed : (d : ℕ) → PreimagesAreClosed d
preimages_are_closed d = (both d).0

pub preimages_compose : (d : ℕ) → PreimagesCompose d
preimages_compose d = (both d).1

pub preimage_cases_agree : (d : ℕ) → PreimageCasesAgree d
preimage_cases_agree d = preimage_cases d (preimages_compose d)

-- ---- the preimage under an identity

module _ (d : ℕ) (ih : PreimagesUnderIdentities d) (X : Dia (suc d)) (W : Reg (suc d)) (vX : Valid (suc d) X) (cW : IsClosedRegion (suc d) X W) where
  identity_step : preimage (suc d) X (ident (suc d) X) W ≡ W
  identity_step =
      let one : Arr (suc d) = ident (suc d) X in
      let v : ValidArrow (suc d) X X one = identities_are_valid (suc d) X vX in
      let o = cW.region.order in
      let w = cW.region.within in
      let df : dual one.heights W.from ≡ W.from = ident-dual d X W.from (omega arith) in
      let dt : dual one.heights W.to ≡ W.to = ident-dual d X W.to w in
      let pf = preimage-from d X one W in
      let pt = preimage-to d X one W in
      let rl = vX.regs_len in
      let c = preimage_cases_agree d X X one W vX vX v cW in
      same_regions d X (preimage (suc d) X one W) W (preimages_are_regions (suc d) X X one W vX v cW.region) cW.region (pf ∙ df) (pt ∙ dt)
      (λ j low high.
      let same : dual one.heights j ≡ j = ident-dual d X j (omega arith) in
      ap (reg_region d (preimage (suc d) X one W)) (sym same) ∙ c.regs j (omega arith) (omega arith)
      ∙ ap (λ (n : ℕ). preimage d (reg d X n) (arrow_reg d one j) (reg_region d W j)) same
      ∙ ap (λ (h : Arr d). preimage d (reg d X j) h (reg_region d W j)) (ident-reg d X j (omega arith))
      ∙ ih (reg d X j) (reg_region d W j) (vX.regs j (omega arith)) (closed_reg d X W cW j (omega arith) (omega arith)))
      (λ i low high.
      preimage-sing d X one W i (omega arith) (omega arith)
      ∙ ap (λ (h : Arr d). preimage d (sing d X i) h (sing_region d W (height d one i))) (ident-sing d X i (omega arith))
      ∙ ap (λ (n : ℕ). preimage d (sing d X i) (ident d (sing d X i)) (sing_region d W n)) (ident-height d X i (omega arith))
      ∙ ih (sing d X i) (sing_region d W i) (vX.sings i (omega arith)) (closed_sing d X W cW i (omega arith) (omega arith)))

pub preimages_under_identities : (d : ℕ) → PreimagesUnderIdentities d
preimages_under_identities zero = λ x W vx cW. refl
preimages_under_identities (suc d) = identity_step d (preimages_under_identities d)
