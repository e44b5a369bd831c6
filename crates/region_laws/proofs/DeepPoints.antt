-- Each point lies under a deep point.
use Rattle.std.proofs.Common.{◌≡◌, ℕ, zero, suc, ◌+◌, ◌-◌, ◌<◌, ◌≤◌, List, [], ◌∷◌, length, refl, sym, ap, ◌∙◌, subst, arith, inl, inr}
use Rattle.std.proofs.lemmas.Bool.{cases_lt}
use Rattle.diagram_terms.specs.declared.place.Height.{Height}
use Rattle.diagram_terms.specs.declared.place.Height.TheVariants as height_kind
use Rattle.diagram_terms.specs.Family.{Dia, Arr, reg, sing, fwd, bwd, height, arrow_reg, arrow_sing}
use Rattle.diagram_terms.specs.Dual.{dual}
use Rattle.diagram_terms.specs.Valid.{ValidArrow, Valid}
use Rattle.diagram_terms.proofs.Duals.{dual-zero, dual_full, dual_mono, in_fibre, fibre_low, fibre_high}
use Rattle.diagram_terms.proofs.MonotoneParts.{between_duals}
use Rattle.map_laws.specs.Edges.{HasEdges}
use Rattle.map_laws.proofs.ValidParts.{dual_within, height_within}
use Rattle.map_laws.proofs.ValidComposites.{composites_are_valid}
use Rattle.map_laws.proofs.SquareEdges.{squares_have_edges}
use Rattle.diagram_terms.specs.Regions.{Reg, sing_region}
use Rattle.diagram_terms.specs.ClosedRegions.{IsClosedRegion}
use Rattle.diagram_terms.specs.Preimages.{preimage}
use Rattle.diagram_terms.specs.Paths.{IsPointOf, IsDeep}
use Rattle.diagram_terms.specs.PointRegions.{LiesIn, at_reg, at_sing, point_region}
use Rattle.region_laws.specs.PulledPoints.{LiesUnderDeepPoint}
use Rattle.region_laws.specs.Laws.{PointsLieUnderDeepPoints}
use Rattle.region_laws.proofs.RegionParts.{preimage-from, preimage-to, preimage-sing, preimage-alone}
use Rattle.region_laws.proofs.Preimages.{preimage_cases_agree}
use Rattle.region_laws.proofs.PointRegions.{point_region-reg, point_region-sing, at_reg-reg, at_sing-sing, at_sing_closed, point_regions_are_closed}

-- the edges of a square are valid
edge_valid : (d : ℕ) (X Y : Dia (suc d)) (f : Arr (suc d)) → Valid (suc d) X → Valid (suc d) Y → ValidArrow (suc d) X Y f
    → (k t : ℕ) (e : HasEdges d X Y f k) → k < length Y.sings → dual f.heights k ≤ t → t ≤ dual f.heights (suc k)
    → ValidArrow d (reg d X t) (sing d Y k) (e.edge t)
edge_valid d X Y f vX vY vf k t e lk low high =
    let top = dual_within d X Y f vf (suc k) in
    elim (cases_lt t (dual f.heights (suc k))) [
      | inl l ↦ (
          let goes : height d f t ≡ k = in_fibre f.heights vf.monotone t k low l in
          let v : ValidArrow d (sing d X t) (sing d Y k) (arrow_sing d f t) =
          subst (λ (n : ℕ). ValidArrow d (sing d X t) (sing d Y n) (arrow_sing d f t)) goes (vf.sings t (omega arith)) in
          subst (ValidArrow d (reg d X t) (sing d Y k)) (sym (e.along_fwd t low l))
          (composites_are_valid d (reg d X t) (sing d X t) (sing d Y k) (fwd d X t) (arrow_sing d f t) (vX.regs t (omega arith)) (vX.sings t (omega arith))
          (vY.sings k lk) (vX.fwds t (omega arith)) v))
      | inr l ↦ (
          let n : ℕ = dual f.heights (suc k) in
          let last : ValidArrow d (reg d X n) (sing d Y k) (e.edge n) = subst (ValidArrow d (reg d X n) (sing d Y k)) (sym e.last)
          (composites_are_valid d (reg d X n) (reg d Y (suc k)) (sing d Y k) (arrow_reg d f (suc k)) (bwd d Y k) (vX.regs n top) (vY.regs (suc k) lk)
          (vY.sings k lk) (vf.regs (suc k) lk) (vY.bwds k lk)) in
          subst (λ (m : ℕ). ValidArrow d (reg d X m) (sing d Y k) (e.edge m)) (omega arith) last)
    ]

-- ---- what lies in the preimage of a single height

module _ (d : ℕ) (X : Dia (suc d)) (f : Arr (suc d)) (W : Reg d) (hs : List Height) where
  lies_at_reg : (j t : ℕ) → t ≡ dual f.heights j → LiesIn d (preimage d (reg d X t) (arrow_reg d f j) W) hs
      → LiesIn (suc d) (preimage (suc d) X f (at_reg d j W)) (height_kind.R t ∷ hs)
  lies_at_reg j t e i =
      let A : Reg (suc d) = at_reg d j W in
      let a = preimage-from d X f A in
      let b = preimage-to d X f A in
      let part = preimage-alone d X f A t e e ∙ ap (preimage d (reg d X t) (arrow_reg d f j)) (at_reg-reg d j W) in
      (omega arith, omega arith, subst (λ (V : Reg d). LiesIn d V hs) (sym part) i)

  module _ (Y : Dia (suc d)) (k : ℕ) where
    lies_at_sing : (i : ℕ) → height d f i ≡ k → dual f.heights k ≤ i → i < dual f.heights (suc k) → LiesIn d (preimage d (sing d X i) (arrow_sing d f i) W) hs
        → LiesIn (suc d) (preimage (suc d) X f (at_sing d Y k W)) (height_kind.S i ∷ hs)
    lies_at_sing i goes low high inside =
        let A : Reg (suc d) = at_sing d Y k W in
        let a = preimage-from d X f A in
        let b = preimage-to d X f A in
        let part = preimage-sing d X f A i low high ∙ ap (λ (n : ℕ). preimage d (sing d X i) (arrow_sing d f i) (sing_region d A n)) goes
        ∙ ap (preimage d (sing d X i) (arrow_sing d f i)) (at_sing-sing d Y k W) in
        (omega arith, omega arith, subst (λ (V : Reg d). LiesIn d V hs) (sym part) inside)

    lies_along_edge : (t : ℕ) (e : HasEdges d X Y f k) → Valid (suc d) X → Valid (suc d) Y → ValidArrow (suc d) X Y f → k < length Y.sings
        → IsClosedRegion d (sing d Y k) W → dual f.heights k ≤ t → t ≤ dual f.heights (suc k) → LiesIn d (preimage d (reg d X t) (e.edge t) W) hs
        → LiesIn (suc d) (preimage (suc d) X f (at_sing d Y k W)) (height_kind.R t ∷ hs)
    lies_along_edge t e vX vY vf l cW low high inside =
        let A : Reg (suc d) = at_sing d Y k W in
        let a = preimage-from d X f A in
        let b = preimage-to d X f A in
        let c = preimage_cases_agree d X Y f A vX vY vf (at_sing_closed d Y k W vY l cW) in
        let part = c.edges k t e (omega arith) (omega arith) low high ∙ ap (preimage d (reg d X t) (e.edge t)) (at_sing-sing d Y k W) in
        (omega arith, omega arith, subst (λ (V : Reg d). LiesIn d V hs) (sym part) inside)

-- ---- one level up

-- a deep point, by its first height
deep_reg : (d : ℕ) (X Y : Dia (suc d)) (f : Arr (suc d)) (hs ps : List Height) → length Y.sings ≡ 0 → IsPointOf d (reg d Y 0) ps → IsDeep d (reg d Y 0) ps
    → LiesIn (suc d) (preimage (suc d) X f (at_reg d 0 (point_region d (reg d Y 0) ps))) hs → LiesUnderDeepPoint (suc d) X Y f hs
deep_reg d X Y f hs ps none p q i = record {
  point = height_kind.R 0 ∷ ps;
  is_point = (omega arith, p);
  deep = (none, q);
  lies_in = subst (λ (V : Reg (suc d)). LiesIn (suc d) (preimage (suc d) X f V) hs) (sym (point_region-reg d Y 0 ps)) i;
}

deep_sing : (d : ℕ) (X Y : Dia (suc d)) (f : Arr (suc d)) (k : ℕ) (hs ps : List Height) → k < length Y.sings → IsPointOf d (sing d Y k) ps → IsDeep d (sing d Y k) ps
    → LiesIn (suc d) (preimage (suc d) X f (at_sing d Y k (point_region d (sing d Y k) ps))) hs → LiesUnderDeepPoint (suc d) X Y f hs
deep_sing d X Y f k hs ps l p q i = record {
  point = height_kind.S k ∷ ps;
  is_point = (l, p);
  deep = q;
  lies_in = subst (λ (V : Reg (suc d)). LiesIn (suc d) (preimage (suc d) X f V) hs) (sym (point_region-sing d Y k ps)) i;
}

module _ (d : ℕ) (ih : PointsLieUnderDeepPoints d) (X Y : Dia (suc d)) (f : Arr (suc d)) (vX : Valid (suc d) X) (vY : Valid (suc d) Y)
    (vf : ValidArrow (suc d) X Y f) where
  over_sing : (i : ℕ) (hs : List Height) → i < length X.sings → IsPointOf d (sing d X i) hs → LiesUnderDeepPoint (suc d) X Y f (height_kind.S i ∷ hs)
  over_sing i hs l p =
      let k : ℕ = height d f i in
      let hl = vf.heights_len in
      let lk : k < length Y.sings = height_within d X Y f vf i l in
      let r = ih (sing d X i) (sing d Y k) (arrow_sing d f i) hs (vX.sings i l) (vY.sings k lk) (vf.sings i l) p in
      deep_sing d X Y f k (height_kind.S i ∷ hs) r.point lk r.is_point r.deep
      (lies_at_sing d X f (point_region d (sing d Y k) r.point) hs Y k i refl (fibre_low f.heights vf.monotone i k refl)
      (fibre_high f.heights vf.monotone i k (omega arith) refl) r.lies_in)

  -- where Y has heights, along an edge
  over_reg : (t : ℕ) (hs : List Height) (k : ℕ) → k < length Y.sings → dual f.heights k ≤ t → t ≤ dual f.heights (suc k) → IsPointOf d (reg d X t) hs
      → LiesUnderDeepPoint (suc d) X Y f (height_kind.R t ∷ hs)
  over_reg t hs k lk low high p =
      let top = dual_within d X Y f vf (suc k) in
      let edges : HasEdges d X Y f k = (squares_have_edges d X Y f k (dual_mono f.heights vf.monotone k (suc k) (omega arith))).0 (vf.squares k lk) in
      let r = ih (reg d X t) (sing d Y k) (edges.edge t) hs (vX.regs t (omega arith)) (vY.sings k lk) (edge_valid d X Y f vX vY vf k t edges lk low high) p in
      deep_sing d X Y f k (height_kind.R t ∷ hs) r.point lk r.is_point r.deep
      (lies_along_edge d X f (point_region d (sing d Y k) r.point) hs Y k t edges vX vY vf lk
      (point_regions_are_closed d (sing d Y k) r.point (vY.sings k lk) r.is_point) low high r.lies_in)

  -- where Y has none, and so X has none, under the regular slice of f
  over_none : (t : ℕ) (hs : List Height) → length Y.sings ≡ 0 → t ≡ dual f.heights 0 → t ≤ length X.sings → IsPointOf d (reg d X t) hs
      → LiesUnderDeepPoint (suc d) X Y f (height_kind.R t ∷ hs)
  over_none t hs none here l p =
      let v : ValidArrow d (reg d X t) (reg d Y 0) (arrow_reg d f 0) =
      subst (λ (n : ℕ). ValidArrow d (reg d X n) (reg d Y 0) (arrow_reg d f 0)) (sym here) (vf.regs 0 (omega arith)) in
      let r = ih (reg d X t) (reg d Y 0) (arrow_reg d f 0) hs (vX.regs t l) (vY.regs 0 (omega arith)) v p in
      deep_reg d X Y f (height_kind.R t ∷ hs) r.point none r.is_point r.deep (lies_at_reg d X f (point_region d (reg d Y 0) r.point) hs 0 t here r.lies_in)

  at_reg_height : (t : ℕ) (hs : List Height) → t ≤ length X.sings → IsPointOf d (reg d X t) hs → LiesUnderDeepPoint (suc d) X Y f (height_kind.R t ∷ hs)
  at_reg_height t hs l p =
      let z : dual f.heights 0 ≡ 0 = dual-zero f.heights vf.monotone in
      let hl = vf.heights_len in
      elim (cases_lt 0 (length Y.sings)) [
        | inr none ↦ (
            let full : dual f.heights 0 ≡ length f.heights = dual_full f.heights vf.monotone (length Y.sings) 0 vf.below (omega arith) in
            over_none t hs (omega arith) (omega arith) l p)
        | inl some ↦ (
            let n : ℕ = length Y.sings - 1 in
            let full : dual f.heights (0 + suc n) ≡ length f.heights = dual_full f.heights vf.monotone (length Y.sings) (0 + suc n) vf.below (omega arith) in
            let b = between_duals f.heights 0 n t (omega arith) (omega arith) in
            let c = b.1 in
            let lk = c.1 in
            over_reg t hs b.0 (omega arith) c.2 c.3 p)
      ]

pub points_lie_under_deep_points : (d : ℕ) → PointsLieUnderDeepPoints d
points_lie_under_deep_points zero X Y f hs vX vY vf p = record { point = []; is_point = tt; deep = tt; lies_in = tt }
points_lie_under_deep_points (suc d) X Y f [] vX vY vf p = absurd p
points_lie_under_deep_points (suc d) X Y f (height_kind.R t ∷ hs) vX vY vf p = at_reg_height d (points_lie_under_deep_points d) X Y f vX vY vf t hs p.0 p.1
points_lie_under_deep_points (suc d) X Y f (height_kind.S i ∷ hs) vX vY vf p = over_sing d (points_lie_under_deep_points d) X Y f vX vY vf i hs p.0 p.1
