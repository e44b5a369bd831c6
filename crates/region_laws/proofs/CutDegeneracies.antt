-- The cut of a degeneracy has the shape of one.
use Rattle.std.proofs.Common.{◌≡◌, ℕ, zero, suc, ◌+◌, ◌<◌, ◌≤◌, refl, sym, ap, ◌∙◌, arith}
use Rattle.diagram_terms.specs.Family.{Dia, Arr, reg, sing, height, arrow_reg, arrow_sing}
use Rattle.diagram_terms.specs.Dual.{IsIncreasing, dual}
use Rattle.diagram_terms.specs.Degeneracy.{DegeneracyByShape}
use Rattle.diagram_terms.specs.Valid.{ValidArrow, Valid, left_edge, right_edge}
use Rattle.diagram_terms.proofs.Duals.{dual_mono}
use Rattle.map_laws.proofs.ValidParts.{dual_within}
use Rattle.diagram_terms.specs.Regions.{Reg, reg_region, sing_region}
use Rattle.diagram_terms.specs.ClosedRegions.{IsClosedRegion}
use Rattle.diagram_terms.specs.Preimages.{preimage}
use Rattle.diagram_terms.specs.Cuts.{cut_arrow, cut_diagram}
use Rattle.region_laws.specs.Laws.{CutsOfDegeneraciesHaveShape}
use Rattle.region_laws.proofs.PreimageRegions.{interval_within, goes_from, goes_to}
use Rattle.region_laws.proofs.PreimageCases.{closed_reg, closed_sing, left_region, right_region}
use Rattle.region_laws.proofs.Preimages.{preimages_compose}
use Rattle.region_laws.proofs.CutParts.{cut-sings_len, cut-reg, cut-sing, cut_arrow-heights_len, cut_arrow-height, cut_arrow-reg, cut_arrow-sing, cut-dual}
use Rattle.region_laws.proofs.CutArrows.{along, cut_source_reg, cut_source_sing, cut_target_sing, left_cut, right_cut, cuts_of_arrows_are_valid}

-- an arrow of that shape is valid
pub shape_is_valid : (d : ℕ) (X Y : Dia d) (e : Arr d) → DegeneracyByShape d X Y e → ValidArrow d X Y e
shape_is_valid zero X Y e g = g.0
shape_is_valid (suc d) X Y e g = g.valid

module _ (d : ℕ) (ih : CutsOfDegeneraciesHaveShape d) (X Y : Dia (suc d)) (f : Arr (suc d)) (W : Reg (suc d)) (vX : Valid (suc d) X) (vY : Valid (suc d) Y)
    (g : DegeneracyByShape (suc d) X Y f) (cW : IsClosedRegion (suc d) Y W) where
  vf : ValidArrow (suc d) X Y f
  vf = g.valid

  abbrev from : Dia (suc d)
  from = cut_diagram (suc d) X (preimage (suc d) X f W)

  abbrev to : Dia (suc d)
  to = cut_diagram (suc d) Y W

  abbrev part : Arr (suc d)
  part = cut_arrow (suc d) f W

  increasing : IsIncreasing part.heights
  increasing = record {
    increases = λ i j l h.
        let n = cut_arrow-heights_len d f W in
        let a : ℕ = dual f.heights W.from in
        let m = interval_within d X Y f W vf cW.region in
        let fl = vf.heights_len in
        let e1 = cut_arrow-height d f W i (a + i) refl (omega arith) in
        let e2 = cut_arrow-height d f W j (a + j) refl (omega arith) in
        let up = g.increasing.increases (a + i) (a + j) (omega arith) (omega arith) in
        let low = goes_from d X Y f W vf cW.region (a + i) (omega arith) (omega arith) in
        omega arith;
  }

  shape_reg : (j k : ℕ) → W.from + j ≡ k → k ≤ W.to → DegeneracyByShape d (reg d from (dual part.heights j)) (reg d to j) (arrow_reg d part j)
  shape_reg j k e l =
      let n : ℕ = dual f.heights k in
      let w = cW.region.within in
      along d (DegeneracyByShape d) _ _ _ _ _ _ (cut_source_reg d X Y f W vX vY vf cW j k e l) (cut-reg d Y W j k e l) (cut_arrow-reg d f W j k e l)
      (ih (reg d X n) (reg d Y k) (arrow_reg d f k) (reg_region d W k) (vX.regs n (dual_within d X Y f vf k)) (vY.regs k (omega arith))
      (g.regs k (omega arith)) (closed_reg d Y W cW k (omega arith) l))

  shape_sing : (i k : ℕ) → dual f.heights W.from + i ≡ k → k < dual f.heights W.to
      → DegeneracyByShape d (sing d from i) (sing d to (height d part i)) (arrow_sing d part i)
  shape_sing i k e l =
      let n = interval_within d X Y f W vf cW.region in
      let w = cW.region.within in
      let m : ℕ = height d f k in
      let low : W.from ≤ m = goes_from d X Y f W vf cW.region k (omega arith) l in
      let high : m < W.to = goes_to d X Y f W vf cW.region k l in
      along d (DegeneracyByShape d) _ _ _ _ _ _ (cut_source_sing d X Y f W vX vY vf cW i k e l) (cut_target_sing d X Y f W vX vY vf cW i k e l) (cut_arrow-sing d f W i k e l)
      (ih (sing d X k) (sing d Y m) (arrow_sing d f k) (sing_region d W m) (vX.sings k (omega arith)) (vY.sings m (omega arith))
      (g.sings k (omega arith)) (closed_sing d Y W cW m low high))

  -- at a height to which no height goes, of the cut and so of f
  missed : (j k : ℕ) → W.from + j ≡ k → k < W.to → dual part.heights j ≡ dual part.heights (suc j) → dual f.heights k ≡ dual f.heights (suc k)
  missed j k e l same =
      let low = cut-dual d f W vf.monotone j k e (omega arith) in
      let high = cut-dual d f W vf.monotone (suc j) (suc k) (omega arith) l in
      let m1 = dual_mono f.heights vf.monotone W.from k (omega arith) in
      let m2 = dual_mono f.heights vf.monotone k (suc k) (omega arith) in
      omega arith

  shape_fwd : (j k : ℕ) → W.from + j ≡ k → k < W.to → dual part.heights j ≡ dual part.heights (suc j)
      → DegeneracyByShape d (reg d from (dual part.heights j)) (sing d to j) (left_edge d to part j)
  shape_fwd j k e l same =
      let n : ℕ = dual f.heights k in
      let w = cW.region.within in
      along d (DegeneracyByShape d) _ _ _ _ _ _
      (cut_source_reg d X Y f W vX vY vf cW j k e (omega arith)
      ∙ ap (cut_diagram d (reg d X n)) (sym (left_region d (preimages_compose d) X Y f W vX vY vf cW k (omega arith) l)))
      (cut-sing d Y W j k e l) (left_cut d X Y f W vX vY vf cW j k e l)
      (ih (reg d X n) (sing d Y k) (left_edge d Y f k) (sing_region d W k) (vX.regs n (dual_within d X Y f vf k)) (vY.sings k (omega arith))
      (g.missed_fwds k (omega arith) (missed j k e l same)) (closed_sing d Y W cW k (omega arith) l))

  shape_bwd : (j k : ℕ) → W.from + j ≡ k → k < W.to → dual part.heights j ≡ dual part.heights (suc j)
      → DegeneracyByShape d (reg d from (dual part.heights (suc j))) (sing d to j) (right_edge d to part j)
  shape_bwd j k e l same =
      let n : ℕ = dual f.heights (suc k) in
      let w = cW.region.within in
      along d (DegeneracyByShape d) _ _ _ _ _ _
      (cut_source_reg d X Y f W vX vY vf cW (suc j) (suc k) (omega arith) l
      ∙ ap (cut_diagram d (reg d X n)) (sym (right_region d (preimages_compose d) X Y f W vX vY vf cW k (omega arith) l)))
      (cut-sing d Y W j k e l) (right_cut d X Y f W vX vY vf cW j k e l)
      (ih (reg d X n) (sing d Y k) (right_edge d Y f k) (sing_region d W k) (vX.regs n (dual_within d X Y f vf (suc k))) (vY.sings k (omega arith))
      (g.missed_bwds k (omega arith) (missed j k e l same)) (closed_sing d Y W cW k (omega arith) l))

  step : DegeneracyByShape (suc d) from to part
  step =
      let o = cW.region.order in
      let xl = cut-sings_len d X (preimage (suc d) X f W) in
      let yl = cut-sings_len d Y W in
      let hl = cut_arrow-heights_len d f W in
      let valid = cuts_of_arrows_are_valid (suc d) X Y f W vX vY vf cW in
      let vl = valid.heights_len in
      record {
        valid = valid;
        increasing = increasing;
        regs = λ j l. shape_reg j (W.from + j) refl (omega arith);
        sings = λ i l. shape_sing i (dual f.heights W.from + i) refl (omega arith);
        missed_fwds = λ j l same. shape_fwd j (W.from + j) refl (omega arith) same;
        missed_bwds = λ j l same. shape_bwd j (W.from + j) refl (omega arith) same;
      }

base : CutsOfDegeneraciesHaveShape zero
unfolding cut_arrow cut_diagram
base x y e W vx vy g cW = g

pub cuts_of_degeneracies_have_shape : (d : ℕ) → CutsOfDegeneraciesHaveShape d
cuts_of_degeneracies_have_shape zero = base
cuts_of_degeneracies_have_shape (suc d) = step d (cuts_of_degeneracies_have_shape d)
