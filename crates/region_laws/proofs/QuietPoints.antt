-- Arrows whose cuts at the region of a point are identities, and quiet points.
use Rattle.std.proofs.Common.{◌≡◌, ℕ, zero, suc, ◌≤◌, List, [], ◌∷◌, length, ap, ◌∙◌, subst, arith, inl}
use Rattle.diagram_terms.specs.declared.place.Height.{Height}
use Rattle.diagram_terms.specs.declared.place.Height.TheVariants as height_kind
use Rattle.diagram_terms.specs.Family.{Dia, Arr, reg, sing, fwd, bwd, height, arrow_reg, arrow_sing}
use Rattle.diagram_terms.specs.Dual.{dual}
use Rattle.diagram_terms.specs.Composite.{ident, identity_diagram}
use Rattle.diagram_terms.specs.Cone.{cospan}
use Rattle.diagram_terms.specs.Identity.{IsIdentity}
use Rattle.diagram_terms.specs.Valid.{ValidArrow, Valid}
use Rattle.diagram_terms.proofs.Duals.{in_fibre}
use Rattle.map_laws.proofs.IdentityShapes.{shape_means_identity}
use Rattle.map_laws.proofs.ValidParts.{dual_within}
use Rattle.diagram_terms.specs.Regions.{Reg, sing_region}
use Rattle.diagram_terms.specs.ClosedRegions.{IsClosedRegion}
use Rattle.diagram_terms.specs.Preimages.{preimage}
use Rattle.diagram_terms.specs.Paths.{IsPointOf}
use Rattle.diagram_terms.specs.PointRegions.{at_reg, at_sing, point_region}
use Rattle.diagram_terms.specs.Cuts.{cut_arrow, cut_diagram}
use Rattle.diagram_terms.specs.Neighbourhoods.{neighbourhood}
use Rattle.diagram_terms.specs.PulledPoints.{pulled_point, PullsBack}
use Rattle.region_laws.specs.Laws.{IdentityCutsPullBack, QuietPoints}
use Rattle.region_laws.proofs.Preimages.{preimages_are_closed}
use Rattle.region_laws.proofs.PointRegions.{point_region-reg, point_region-sing, at_reg-reg, at_sing-sing, point_regions_are_closed}
use Rattle.region_laws.proofs.CutParts.{cut_arrow-regs_len, cut_arrow-sings_len, cut_arrow-reg, cut_arrow-sing}
use Rattle.region_laws.proofs.CutArrows.{cuts_of_arrows_are_valid}
use Rattle.region_laws.proofs.CutDiagrams.{cuts_of_diagrams_are_valid}
use Rattle.region_laws.proofs.Neighbourhoods.{regular_neighbourhoods, singular_neighbourhoods}
use Rattle.region_laws.proofs.PulledPoints.{points_pull_back}

-- ---- where the cut is an identity

-- it goes between one diagram and itself, and is its identity
identity_cut : (d : ℕ) (X Y : Dia d) (f : Arr d) (W : Reg d) → Valid d X → Valid d Y → ValidArrow d X Y f → IsClosedRegion d Y W → IsIdentity d (cut_arrow d f W)
    → (cut_diagram d X (preimage d X f W) ≡ cut_diagram d Y W) × (cut_arrow d f W ≡ ident d (cut_diagram d Y W))
identity_cut d X Y f W vX vY vf cW one =
    let C : Dia d = cut_diagram d X (preimage d X f W) in
    let r = shape_means_identity d C (cut_diagram d Y W) (cut_arrow d f W) (cuts_of_diagrams_are_valid d X (preimage d X f W) vX (preimages_are_closed d X Y f W vX vY vf cW))
    (cuts_of_diagrams_are_valid d Y W vY cW) (cuts_of_arrows_are_valid d X Y f W vX vY vf cW) one in
    (r.0, r.1 ∙ ap (ident d) r.0)

pulls_base : (x y : Dia zero) (f : Arr zero) (W : Reg zero) → IsIdentity zero (cut_arrow zero f W) → IsIdentity zero f
unfolding cut_arrow
pulls_base x y f W one = one

pulls_back : (d : ℕ) (X Y : Dia d) (f : Arr d) (hs : List Height) → Valid d X → ValidArrow d X Y f → IsPointOf d Y hs
    → IsIdentity d (cut_arrow d f (point_region d Y hs)) → PullsBack d Y f hs
pulls_back zero X Y f hs vX vf p one = pulls_base X Y f (point_region zero Y hs) one
pulls_back (suc d) X Y f [] vX vf p one = tt
pulls_back (suc d) X Y f (height_kind.R j ∷ hs) vX vf p one =
    let W : Reg d = point_region d (reg d Y j) hs in
    let A : Reg (suc d) = at_reg d j W in
    let i : IsIdentity (suc d) (cut_arrow (suc d) f A) = subst (λ (V : Reg (suc d)). IsIdentity (suc d) (cut_arrow (suc d) f V)) (point_region-reg d Y j hs) one in
    let rl = cut_arrow-regs_len d f A in
    let r = subst (IsIdentity d) (cut_arrow-reg d f A 0 j (omega arith) (omega arith) ∙ ap (cut_arrow d (arrow_reg d f j)) (at_reg-reg d j W)) (i.regs 0 (omega arith)) in
    pulls_back d (reg d X (dual f.heights j)) (reg d Y j) (arrow_reg d f j) hs (vX.regs (dual f.heights j) (dual_within d X Y f vf j)) (vf.regs j p.0) p.1 r
pulls_back (suc d) X Y f (height_kind.S k ∷ hs) vX vf p one =
    let W : Reg d = point_region d (sing d Y k) hs in
    let A : Reg (suc d) = at_sing d Y k W in
    let t : ℕ = dual f.heights k in
    let i : IsIdentity (suc d) (cut_arrow (suc d) f A) = subst (λ (V : Reg (suc d)). IsIdentity (suc d) (cut_arrow (suc d) f V)) (point_region-sing d Y k hs) one in
    let rl = cut_arrow-regs_len d f A in
    let sl = cut_arrow-sings_len d f A in
    let il = i.regs_len in
    let single : suc t ≡ dual f.heights (suc k) = omega arith in
    let top = dual_within d X Y f vf (suc k) in
    let goes : height d f t ≡ k = in_fibre f.heights vf.monotone t k (omega arith) (omega arith) in
    let v : ValidArrow d (sing d X t) (sing d Y k) (arrow_sing d f t) =
    subst (λ (n : ℕ). ValidArrow d (sing d X t) (sing d Y n) (arrow_sing d f t)) goes (vf.sings t (omega arith)) in
    let s = subst (IsIdentity d)
    (cut_arrow-sing d f A 0 t (omega arith) (omega arith)
    ∙ ap (λ (n : ℕ). cut_arrow d (arrow_sing d f t) (sing_region d A n)) goes
    ∙ ap (cut_arrow d (arrow_sing d f t)) (at_sing-sing d Y k W)) (i.sings 0 (omega arith)) in
    inl (single, pulls_back d (sing d X t) (sing d Y k) (arrow_sing d f t) hs (vX.sings t (omega arith)) v p.1 s)

pub identity_cuts_pull_back : (d : ℕ) → IdentityCutsPullBack d
identity_cuts_pull_back d X Y f hs vX vY vf p one =
    let b = pulls_back d X Y f hs vX vf p one in
    let r = points_pull_back d X Y f hs vX vY vf p b in
    (b, ap (cut_diagram d X) r.region ∙ (identity_cut d X Y f (point_region d Y hs) vX vY vf (point_regions_are_closed d Y hs vY p) one).0)

-- ---- quiet points

same_cospan : (d : ℕ) (S T E : Dia d) (f g h : Arr d) → S ≡ E → f ≡ h → T ≡ E → g ≡ h → cospan d S f E g T ≡ cospan d E h E h E
same_cospan d S T E f g h s p t q = ap (λ (x : Dia d). cospan d x f E g T) s ∙ ap (λ (a : Arr d). cospan d E a E g T) p
    ∙ ap (λ (x : Dia d). cospan d E h E g x) t ∙ ap (λ (a : Arr d). cospan d E h E a E) q

pub quiet_points : (d : ℕ) → QuietPoints d
quiet_points d X k hs vX p q =
    let s : Dia d = sing d X k in
    let W : Reg d = point_region d s hs in
    let E : Dia d = neighbourhood d s hs in
    let l = p.0 in
    let vs = vX.sings k l in
    let vr = vX.regs k (omega arith) in
    let cW = point_regions_are_closed d s hs vs p.1 in
    let a = identity_cut d (reg d X k) s (fwd d X k) W vr vs (vX.fwds k l) cW q.fwds in
    let b = identity_cut d (reg d X (suc k)) s (bwd d X k) W (vX.regs (suc k) l) vs (vX.bwds k l) cW q.bwds in
    let c = identity_cuts_pull_back d (reg d X k) s (fwd d X k) hs vr vs (vX.fwds k l) p.1 q.fwds in
    let r = points_pull_back d (reg d X k) s (fwd d X k) hs vr vs (vX.fwds k l) p.1 c.0 in
    let inside : k ≤ length X.sings = omega arith in
    record {
      around = singular_neighbourhoods d X k hs ∙ same_cospan d _ _ E _ _ (ident d E) a.0 a.1 b.0 b.1;
      is_point = (inside, r.is_point);
      label = r.label;
      before = regular_neighbourhoods d X k (pulled_point d s (fwd d X k) hs) ∙ ap (identity_diagram d) c.1;
    }
