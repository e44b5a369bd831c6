-- Paths go on in the cut at the region of their beginning, and cuts that are identities stay so.
use Rattle.std.proofs.Common.{◌≡◌, ℕ, zero, suc, List, [], ◌∷◌, ◌++◌, map, refl, sym, ap, ◌∙◌, subst, arith}
use Rattle.diagram_terms.specs.declared.place.Height.{Height}
use Rattle.diagram_terms.specs.declared.place.Height.TheVariants as height_kind
use Rattle.diagram_terms.specs.Family.{Dia, reg, sing, fwd, bwd}
use Rattle.diagram_terms.specs.Composite.{identity_diagram}
use Rattle.diagram_terms.specs.Identity.{IsIdentity}
use Rattle.diagram_terms.specs.Valid.{Valid}
use Rattle.diagram_terms.specs.Regions.{Reg, sing_region, IsRegionOf, whole_region}
use Rattle.diagram_terms.specs.Preimages.{preimage}
use Rattle.diagram_terms.specs.Paths.{IsPathOf, first_height}
use Rattle.diagram_terms.specs.PointRegions.{at_reg, at_sing, point_region}
use Rattle.diagram_terms.specs.Cuts.{cut_arrow, cut_diagram}
use Rattle.diagram_terms.specs.Neighbourhoods.{neighbourhood}
use Rattle.diagram_terms.specs.CutsOfCuts.{uncut_region}
use Rattle.region_laws.specs.Laws.{PathsGoOnInCuts, IdentityCutsGoOn, QuietPathsGoOn}
use Rattle.region_laws.proofs.WholeRegions.{cuts_at_whole_regions}
use Rattle.region_laws.proofs.PointRegions.{point_region-nil, point_region-reg, point_region-sing, at_reg-reg, at_sing-sing, at_sing_closed, path_regions_are_closed}
use Rattle.region_laws.proofs.CutArrows.{cuts_of_arrows_are_valid}
use Rattle.region_laws.proofs.CutDiagrams.{cuts_of_diagrams_are_valid, cuts_of_identities_are_identities}
use Rattle.region_laws.proofs.Neighbourhoods.{regular_neighbourhoods, singular_neighbourhoods, cut_at_sing}
use Rattle.region_laws.proofs.UncutRegions.{cuts_of_cuts, cuts_of_cut_arrows}
use Rattle.region_laws.proofs.UncutClosed.{uncut_at_reg, uncut_at_sing, uncut_of_whole_regions}
use Rattle.region_laws.proofs.Preimages.{preimages_are_closed}

-- the beginning of a path is a path
path_begins : (d : ℕ) (X : Dia d) (us vs : List Height) → IsPathOf d X (us ++ vs) → IsPathOf d X us
path_begins zero X [] vs p = tt
path_begins zero X (h ∷ us) vs p = absurd p
path_begins (suc d) X [] vs p = tt
path_begins (suc d) X (height_kind.R j ∷ us) vs p = (p.0, path_begins d (reg d X j) us vs p.1)
path_begins (suc d) X (height_kind.S k ∷ us) vs p = (p.0, path_begins d (sing d X k) us vs p.1)

-- ---- where it goes on

path_in_cut : (d : ℕ) (X : Dia d) (us vs : List Height) → Valid d X → IsPathOf d X (us ++ vs) → IsPathOf d (neighbourhood d X us) (map first_height us ++ vs)
unfolding cut_diagram
path_in_cut zero X [] vs v p = p
path_in_cut zero X (h ∷ us) vs v p = absurd p
path_in_cut (suc d) X [] vs v p =
    subst (λ (D : Dia (suc d)). IsPathOf (suc d) D vs)
    (sym (ap (cut_diagram (suc d) X) (point_region-nil d X) ∙ cuts_at_whole_regions (suc d) X v)) p
path_in_cut (suc d) X (height_kind.R j ∷ us) vs v p =
    let deeper = path_in_cut d (reg d X j) us vs (v.regs j p.0) p.1 in
    subst (λ (D : Dia (suc d)). IsPathOf (suc d) D (height_kind.R 0 ∷ map first_height us ++ vs)) (sym (regular_neighbourhoods d X j us))
    (omega arith, deeper)
path_in_cut (suc d) X (height_kind.S k ∷ us) vs v p =
    let deeper = path_in_cut d (sing d X k) us vs (v.sings k p.0) p.1 in
    subst (λ (D : Dia (suc d)). IsPathOf (suc d) D (height_kind.S 0 ∷ map first_height us ++ vs)) (sym (singular_neighbourhoods d X k us))
    (omega arith, deeper)

-- ---- the region of what goes on

path_region : (d : ℕ) (X : Dia d) (us vs : List Height) → Valid d X → IsPathOf d X (us ++ vs)
    → point_region d X (us ++ vs) ≡ uncut_region d (point_region d X us) (point_region d (neighbourhood d X us) (map first_height us ++ vs))
path_region zero X us vs v p = refl
path_region (suc d) X [] vs v p =
    let whole : Reg (suc d) = whole_region (suc d) X in
    let N : Dia (suc d) = neighbourhood (suc d) X [] in
    let same : N ≡ X = ap (cut_diagram (suc d) X) (point_region-nil d X) ∙ cuts_at_whole_regions (suc d) X v in
    sym (uncut_of_whole_regions (suc d) X (point_region (suc d) X vs) (path_regions_are_closed (suc d) X vs v p).region)
    ∙ ap (λ (W : Reg (suc d)). uncut_region (suc d) W (point_region (suc d) X vs)) (sym (point_region-nil d X))
    ∙ ap (λ (D : Dia (suc d)). uncut_region (suc d) (point_region (suc d) X []) (point_region (suc d) D vs)) (sym same)
path_region (suc d) X (height_kind.R j ∷ us) vs v p =
    let Q : Reg d = point_region d (reg d X j) us in
    let D : Dia d = neighbourhood d (reg d X j) us in
    let N : Dia (suc d) = neighbourhood (suc d) X (height_kind.R j ∷ us) in
    let ws : List Height = map first_height us ++ vs in
    let V : Reg d = point_region d D ws in
    let same : N ≡ identity_diagram d D = regular_neighbourhoods d X j us in
    point_region-reg d X j (us ++ vs)
    ∙ ap (at_reg d j) (path_region d (reg d X j) us vs (v.regs j p.0) p.1)
    ∙ ap (λ (R : Reg d). at_reg d j (uncut_region d R V)) (sym (at_reg-reg d j Q))
    ∙ sym (uncut_at_reg d (at_reg d j Q) V 0 j (omega arith))
    ∙ ap (uncut_region (suc d) (at_reg d j Q)) (sym (point_region-reg d (identity_diagram d D) 0 ws))
    ∙ ap (λ (E : Dia (suc d)). uncut_region (suc d) (at_reg d j Q) (point_region (suc d) E (height_kind.R 0 ∷ ws))) (sym same)
    ∙ ap (λ (W : Reg (suc d)). uncut_region (suc d) W (point_region (suc d) N (height_kind.R 0 ∷ ws))) (sym (point_region-reg d X j us))
path_region (suc d) X (height_kind.S k ∷ us) vs v p =
    let Q : Reg d = point_region d (sing d X k) us in
    let D : Dia d = neighbourhood d (sing d X k) us in
    let N : Dia (suc d) = neighbourhood (suc d) X (height_kind.S k ∷ us) in
    let W : Reg (suc d) = at_sing d X k Q in
    let C : Dia (suc d) = cut_diagram (suc d) X W in
    let ws : List Height = map first_height us ++ vs in
    let V : Reg d = point_region d D ws in
    let vs2 = v.sings k p.0 in
    let cQ = path_regions_are_closed d (sing d X k) us vs2 (path_begins d (sing d X k) us vs p.1) in
    let cW = at_sing_closed d X k Q v p.0 cQ in
    let cV = path_regions_are_closed d D ws (cuts_of_diagrams_are_valid d (sing d X k) Q vs2 cQ) (path_in_cut d (sing d X k) us vs vs2 p.1) in
    let at : sing_region d W k ≡ Q = at_sing-sing d X k Q in
    let rV : IsRegionOf d (cut_diagram d (sing d X k) (sing_region d W k)) V =
    subst (λ (R : Reg d). IsRegionOf d (cut_diagram d (sing d X k) R) V) (sym at) cV.region in
    let slice : sing d C 0 ≡ D = ap (λ (E : Dia (suc d)). sing d E 0) (cut_at_sing d X k Q) in
    point_region-sing d X k (us ++ vs)
    ∙ ap (at_sing d X k) (path_region d (sing d X k) us vs vs2 p.1)
    ∙ ap (λ (R : Reg d). at_sing d X k (uncut_region d R V)) (sym at)
    ∙ sym (uncut_at_sing d X W V 0 k v cW (omega arith) (omega arith) rV)
    ∙ ap (λ (E : Dia d). uncut_region (suc d) W (at_sing d C 0 (point_region d E ws))) (sym slice)
    ∙ ap (uncut_region (suc d) W) (sym (point_region-sing d C 0 ws))
    ∙ ap (λ (R : Reg (suc d)). uncut_region (suc d) R (point_region (suc d) (cut_diagram (suc d) X R) (height_kind.S 0 ∷ ws))) (sym (point_region-sing d X k us))

pub paths_go_on_in_cuts : (d : ℕ) → PathsGoOnInCuts d
paths_go_on_in_cuts d X us vs v p =
    let W : Reg d = point_region d X us in
    let N : Dia d = neighbourhood d X us in
    let ws : List Height = map first_height us ++ vs in
    let cW = path_regions_are_closed d X us v (path_begins d X us vs p) in
    let q = path_in_cut d X us vs v p in
    let r = path_region d X us vs v p in
    let cV = path_regions_are_closed d N ws (cuts_of_diagrams_are_valid d X W v cW) q in
    record {
      is_path = q;
      region = r;
      neighbourhood = ap (cut_diagram d X) r ∙ sym (cuts_of_cuts d X W (point_region d N ws) v cW.region cV.region);
    }

-- ---- cuts that are identities

pub identity_cuts_go_on : (d : ℕ) → IdentityCutsGoOn d
identity_cuts_go_on d X Y f us vs vX vY vf p one =
    let W : Reg d = point_region d Y us in
    let N : Dia d = neighbourhood d Y us in
    let ws : List Height = map first_height us ++ vs in
    let V : Reg d = point_region d N ws in
    let P : Reg d = preimage d X f W in
    let cW = path_regions_are_closed d Y us vY (path_begins d Y us vs p) in
    let cP = preimages_are_closed d X Y f W vX vY vf cW in
    let g = paths_go_on_in_cuts d Y us vs vY p in
    let vN = cuts_of_diagrams_are_valid d Y W vY cW in
    let cV = path_regions_are_closed d N ws vN g.is_path in
    let again = cuts_of_identities_are_identities d (cut_diagram d X P) N (cut_arrow d f W) V (cuts_of_diagrams_are_valid d X P vX cP) vN
    (cuts_of_arrows_are_valid d X Y f W vX vY vf cW) cV one in
    subst (IsIdentity d) (cuts_of_cut_arrows d X Y f W V vf cW.region cV.region ∙ ap (cut_arrow d f) (sym g.region)) again

pub quiet_paths_go_on : (d : ℕ) → QuietPathsGoOn d
quiet_paths_go_on d X k us vs vX p q =
    let l = p.0 in
    let vs2 = vX.sings k l in
    record {
      fwds = identity_cuts_go_on d (reg d X k) (sing d X k) (fwd d X k) us vs (vX.regs k (omega arith)) vs2 (vX.fwds k l) p.1 q.fwds;
      bwds = identity_cuts_go_on d (reg d X (suc k)) (sing d X k) (bwd d X k) us vs (vX.regs (suc k) l) vs2 (vX.bwds k l) p.1 q.bwds;
    }
