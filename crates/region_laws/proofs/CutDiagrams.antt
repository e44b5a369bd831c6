-- The cut of a valid diagram at a closed region is valid, and cuts of plain arrows and plain diagrams are plain.
use Rattle.std.proofs.Common.{◌≡◌, ℕ, zero, suc, ◌+◌, ◌<◌, ◌≤◌, refl, sym, ap, ◌∙◌, subst, arith}
use Rattle.diagram_terms.specs.Family.{Dia, Arr, reg, sing, fwd, bwd, height, arrow_reg, arrow_sing}
use Rattle.diagram_terms.specs.Dual.{dual}
use Rattle.diagram_terms.specs.Composite.{ident}
use Rattle.diagram_terms.specs.Identity.{IsIdentity}
use Rattle.diagram_terms.specs.Plain.{PlainArrow, Plain}
use Rattle.diagram_terms.specs.Valid.{ValidArrow, Valid}
use Rattle.map_laws.proofs.IdentityShapes.{identities_have_shape, shape_means_identity}
use Rattle.map_laws.proofs.ValidParts.{dual_within}
use Rattle.diagram_terms.specs.Regions.{Reg, reg_region, sing_region}
use Rattle.diagram_terms.specs.ClosedRegions.{IsClosedRegion}
use Rattle.diagram_terms.specs.Cuts.{cut_arrow, cut_diagram}
use Rattle.region_laws.specs.Laws.{CutsOfDiagramsAreValid, CutsOfIdentitiesAreIdentities, CutsOfPlainArrowsArePlain, CutsOfPlainDiagramsArePlain}
use Rattle.region_laws.proofs.PreimageRegions.{interval_within, goes_from, goes_to}
use Rattle.region_laws.proofs.PreimageCases.{closed_reg, closed_sing}
use Rattle.region_laws.proofs.CutParts.{cut-regs_len, cut-sings_len, cut-fwds_len, cut-bwds_len, cut-reg, cut-sing, cut-fwd, cut-bwd, cut_arrow-regs_len, cut_arrow-sings_len, cut_arrow-reg, cut_arrow-sing}
use Rattle.region_laws.proofs.CutComposites.{cuts_keep_identities}
use Rattle.region_laws.proofs.CutArrows.{along, cuts_of_arrows_are_valid}

-- ---- valid diagrams, one level up

module _ (d : ℕ) (ih : CutsOfDiagramsAreValid d) (X : Dia (suc d)) (W : Reg (suc d)) (vX : Valid (suc d) X) (cW : IsClosedRegion (suc d) X W) where
  abbrev part : Dia (suc d)
  part = cut_diagram (suc d) X W

  valid_fwd : (j k : ℕ) → W.from + j ≡ k → k < W.to → ValidArrow d (reg d part j) (sing d part j) (fwd d part j)
  valid_fwd j k e l =
      let w = cW.region.within in
      along d (ValidArrow d) _ _ _ _ _ _
      (cut-reg d X W j k e (omega arith) ∙ ap (cut_diagram d (reg d X k)) (sym (cW.closed.fwds k (omega arith) l)))
      (cut-sing d X W j k e l) (cut-fwd d X W j k e l)
      (cuts_of_arrows_are_valid d (reg d X k) (sing d X k) (fwd d X k) (sing_region d W k) (vX.regs k (omega arith)) (vX.sings k (omega arith))
      (vX.fwds k (omega arith)) (closed_sing d X W cW k (omega arith) l))

  valid_bwd : (j k : ℕ) → W.from + j ≡ k → k < W.to → ValidArrow d (reg d part (suc j)) (sing d part j) (bwd d part j)
  valid_bwd j k e l =
      let w = cW.region.within in
      along d (ValidArrow d) _ _ _ _ _ _
      (cut-reg d X W (suc j) (suc k) (omega arith) l ∙ ap (cut_diagram d (reg d X (suc k))) (sym (cW.closed.bwds k (omega arith) l)))
      (cut-sing d X W j k e l) (cut-bwd d X W j k e l)
      (cuts_of_arrows_are_valid d (reg d X (suc k)) (sing d X k) (bwd d X k) (sing_region d W k) (vX.regs (suc k) (omega arith)) (vX.sings k (omega arith))
      (vX.bwds k (omega arith)) (closed_sing d X W cW k (omega arith) l))

  valid_step : Valid (suc d) part
  valid_step =
      let o = cW.region.order in
      let w = cW.region.within in
      let rl = cut-regs_len d X W in
      let sl = cut-sings_len d X W in
      let fl = cut-fwds_len d X W in
      let bl = cut-bwds_len d X W in
      record {
        regs_len = omega arith;
        fwds_len = omega arith;
        bwds_len = omega arith;
        regs = λ j l.
            let k : ℕ = W.from + j in
            subst (Valid d) (sym (cut-reg d X W j k refl (omega arith)))
            (ih (reg d X k) (reg_region d W k) (vX.regs k (omega arith)) (closed_reg d X W cW k (omega arith) (omega arith)));
        sings = λ i l.
            let k : ℕ = W.from + i in
            subst (Valid d) (sym (cut-sing d X W i k refl (omega arith)))
            (ih (sing d X k) (sing_region d W k) (vX.sings k (omega arith)) (closed_sing d X W cW k (omega arith) (omega arith)));
        fwds = λ k l. valid_fwd k (W.from + k) refl (omega arith);
        bwds = λ k l. valid_bwd k (W.from + k) refl (omega arith);
      }

pub cuts_of_diagrams_are_valid : (d : ℕ) → CutsOfDiagramsAreValid d
cuts_of_diagrams_are_valid zero = λ x W vx cW. tt
cuts_of_diagrams_are_valid (suc d) = valid_step d (cuts_of_diagrams_are_valid d)

-- ---- identities

pub cuts_of_identities_are_identities : (d : ℕ) → CutsOfIdentitiesAreIdentities d
cuts_of_identities_are_identities d X Y f W vX vY vf cW jf =
    let one = shape_means_identity d X Y f vX vY vf jf in
    let same : f ≡ ident d Y = one.1 ∙ ap (ident d) one.0 in
    subst (IsIdentity d) (sym (ap (λ (g : Arr d). cut_arrow d g W) same ∙ cuts_keep_identities d Y W vY cW.region))
    (identities_have_shape d (cut_diagram d Y W) (cuts_of_diagrams_are_valid d Y W vY cW))

-- ---- plain arrows, one level up

module _ (d : ℕ) (ih : CutsOfPlainArrowsArePlain d) (X Y : Dia (suc d)) (f : Arr (suc d)) (W : Reg (suc d))
    (vX : Valid (suc d) X) (vY : Valid (suc d) Y) (vf : ValidArrow (suc d) X Y f) (cW : IsClosedRegion (suc d) Y W) (pf : PlainArrow (suc d) f) where
  plain_step : PlainArrow (suc d) (cut_arrow (suc d) f W)
  plain_step =
      let o = cW.region.order in
      let w = cW.region.within in
      let n = interval_within d X Y f W vf cW.region in
      let rl = cut_arrow-regs_len d f W in
      let sl = cut_arrow-sings_len d f W in
      let fr = vf.regs_len in
      let fs = vf.sings_len in
      record {
        regs = λ j l.
            let k : ℕ = W.from + j in
            subst (IsIdentity d) (sym (cut_arrow-reg d f W j k refl (omega arith)))
            (cuts_of_identities_are_identities d (reg d X (dual f.heights k)) (reg d Y k) (arrow_reg d f k) (reg_region d W k)
            (vX.regs (dual f.heights k) (dual_within d X Y f vf k)) (vY.regs k (omega arith)) (vf.regs k (omega arith))
            (closed_reg d Y W cW k (omega arith) (omega arith)) (pf.regs k (omega arith)));
        sings = λ i l.
            let k : ℕ = dual f.heights W.from + i in
            let m : ℕ = height d f k in
            let low : W.from ≤ m = goes_from d X Y f W vf cW.region k (omega arith) (omega arith) in
            let high : m < W.to = goes_to d X Y f W vf cW.region k (omega arith) in
            subst (PlainArrow d) (sym (cut_arrow-sing d f W i k refl (omega arith)))
            (ih (sing d X k) (sing d Y m) (arrow_sing d f k) (sing_region d W m) (vX.sings k (omega arith)) (vY.sings m (omega arith))
            (vf.sings k (omega arith)) (closed_sing d Y W cW m low high) (pf.sings k (omega arith)));
      }

pub cuts_of_plain_arrows_are_plain : (d : ℕ) → CutsOfPlainArrowsArePlain d
cuts_of_plain_arrows_are_plain zero = λ x y f W vx vy vf cW pf. tt
cuts_of_plain_arrows_are_plain (suc d) = plain_step d (cuts_of_plain_arrows_are_plain d)

-- ---- plain diagrams, one level up

module _ (d : ℕ) (ih : CutsOfPlainDiagramsArePlain d) (X : Dia (suc d)) (W : Reg (suc d)) (vX : Valid (suc d) X)
    (cW : IsClosedRegion (suc d) X W) (pX : Plain (suc d) X) where
  plain_diagram_step : Plain (suc d) (cut_diagram (suc d) X W)
  plain_diagram_step =
      let o = cW.region.order in
      let w = cW.region.within in
      let x1 = vX.regs_len in
      let x2 = vX.fwds_len in
      let x3 = vX.bwds_len in
      let rl = cut-regs_len d X W in
      let sl = cut-sings_len d X W in
      let fl = cut-fwds_len d X W in
      let bl = cut-bwds_len d X W in
      record {
        regs = λ j l.
            let k : ℕ = W.from + j in
            subst (Plain d) (sym (cut-reg d X W j k refl (omega arith)))
            (ih (reg d X k) (reg_region d W k) (vX.regs k (omega arith)) (closed_reg d X W cW k (omega arith) (omega arith)) (pX.regs k (omega arith)));
        sings = λ i l.
            let k : ℕ = W.from + i in
            subst (Plain d) (sym (cut-sing d X W i k refl (omega arith)))
            (ih (sing d X k) (sing_region d W k) (vX.sings k (omega arith)) (closed_sing d X W cW k (omega arith) (omega arith)) (pX.sings k (omega arith)));
        fwds = λ i l.
            let k : ℕ = W.from + i in
            subst (PlainArrow d) (sym (cut-fwd d X W i k refl (omega arith)))
            (cuts_of_plain_arrows_are_plain d (reg d X k) (sing d X k) (fwd d X k) (sing_region d W k) (vX.regs k (omega arith)) (vX.sings k (omega arith))
            (vX.fwds k (omega arith)) (closed_sing d X W cW k (omega arith) (omega arith)) (pX.fwds k (omega arith)));
        bwds = λ i l.
            let k : ℕ = W.from + i in
            subst (PlainArrow d) (sym (cut-bwd d X W i k refl (omega arith)))
            (cuts_of_plain_arrows_are_plain d (reg d X (suc k)) (sing d X k) (bwd d X k) (sing_region d W k) (vX.regs (suc k) (omega arith)) (vX.sings k (omega arith))
            (vX.bwds k (omega arith)) (closed_sing d X W cW k (omega arith) (omega arith)) (pX.bwds k (omega arith)));
      }

pub cuts_of_plain_diagrams_are_plain : (d : ℕ) → CutsOfPlainDiagramsArePlain d
cuts_of_plain_diagrams_are_plain zero = λ x W vx cW px. tt
cuts_of_plain_diagrams_are_plain (suc d) = plain_diagram_step d (cuts_of_plain_diagrams_are_plain d)
