-- Regions of points and of paths are closed.
use Rattle.std.proofs.Common.{◌≡◌, ℕ, zero, suc, ◌-◌, ◌<◌, ◌≤◌, List, [], ◌∷◌, length, get_or, refl, sym, ap, ◌∙◌, subst, arith, inl, inr}
use Rattle.diagram_terms.specs.declared.place.Height.{Height}
use Rattle.diagram_terms.specs.declared.place.Height.TheVariants as height_kind
use Rattle.diagram_terms.specs.Family.{Dia, reg, sing, fwd, bwd}
use Rattle.diagram_terms.specs.Valid.{Valid}
use Rattle.diagram_terms.specs.Regions.{Reg, no_region, reg_region, sing_region, whole_region}
use Rattle.diagram_terms.specs.ClosedRegions.{IsClosedRegion}
use Rattle.diagram_terms.specs.Preimages.{preimage}
use Rattle.diagram_terms.specs.PointRegions.{at_reg, at_sing, point_region}
use Rattle.region_laws.specs.Laws.{PathRegionsAreClosed, PointRegionsAreClosed, PointsArePaths, OnlyPathsAreWhole}
use Rattle.region_laws.proofs.RegionParts.{same_spans}
use Rattle.region_laws.proofs.PreimageRegions.{first_or_after}
use Rattle.region_laws.proofs.Preimages.{preimages_are_closed}
use Rattle.region_laws.proofs.WholeRegions.{whole-from, whole-to, whole-regs_len, whole-sings_len, whole-reg, whole-sing, preimages_of_whole_regions, whole_regions_are_closed}

-- ---- the parts

pub point_region-nil : (d : ℕ) (X : Dia (suc d)) → point_region (suc d) X [] ≡ whole_region (suc d) X
unfolding point_region
point_region-nil d X = refl

pub point_region-reg : (d : ℕ) (X : Dia (suc d)) (j : ℕ) (hs : List Height)
    → point_region (suc d) X (height_kind.R j ∷ hs) ≡ at_reg d j (point_region d (reg d X j) hs)
unfolding point_region
point_region-reg d X j hs = refl

pub point_region-sing : (d : ℕ) (X : Dia (suc d)) (k : ℕ) (hs : List Height)
    → point_region (suc d) X (height_kind.S k ∷ hs) ≡ at_sing d X k (point_region d (sing d X k) hs)
unfolding point_region
point_region-sing d X k hs = refl

pub at_reg-reg : (d j : ℕ) (W : Reg d) → reg_region d (at_reg d j W) j ≡ W
at_reg-reg d j W = let e : j - j ≡ 0 = omega arith in ap (λ (n : ℕ). get_or (W ∷ []) n (no_region d)) e

module _ (d : ℕ) (X : Dia (suc d)) (k : ℕ) (W : Reg d) where
  pub at_sing-sing : sing_region d (at_sing d X k W) k ≡ W
  at_sing-sing = let e : k - k ≡ 0 = omega arith in ap (λ (n : ℕ). get_or (W ∷ []) n (no_region d)) e

  pub at_sing-before : reg_region d (at_sing d X k W) k ≡ preimage d (reg d X k) (fwd d X k) W
  at_sing-before = let e : k - k ≡ 0 = omega arith in ap (λ (n : ℕ). get_or ((at_sing d X k W).regs) n (no_region d)) e

  pub at_sing-behind : reg_region d (at_sing d X k W) (suc k) ≡ preimage d (reg d X (suc k)) (bwd d X k) W
  at_sing-behind = let e : suc k - k ≡ 1 = omega arith in ap (λ (n : ℕ). get_or ((at_sing d X k W).regs) n (no_region d)) e

-- ---- they are closed

pub at_reg_closed : (d : ℕ) (X : Dia (suc d)) (j : ℕ) (W : Reg d) → j ≤ length X.sings → IsClosedRegion d (reg d X j) W
    → IsClosedRegion (suc d) X (at_reg d j W)
at_reg_closed d X j W l c =
    let here : (i : ℕ) → j ≤ i → i ≤ j → IsClosedRegion d (reg d X i) (reg_region d (at_reg d j W) i) =
    λ i low high. subst (λ (n : ℕ). IsClosedRegion d (reg d X n) (reg_region d (at_reg d j W) n)) (omega arith)
    (subst (IsClosedRegion d (reg d X j)) (sym (at_reg-reg d j W)) c) in
    record {
      region = record {
        order = omega arith;
        within = l;
        regs_len = omega arith;
        sings_len = omega arith;
        regs = λ i low high. (here i low high).region;
        sings = λ i low high. absurd (omega arith);
      };
      closed = record {
        regs = λ i low high. (here i low high).closed;
        sings = λ i low high. absurd (omega arith);
        fwds = λ i low high. absurd (omega arith);
        bwds = λ i low high. absurd (omega arith);
      };
    }

module _ (d : ℕ) (X : Dia (suc d)) (k : ℕ) (W : Reg d) (vX : Valid (suc d) X) (l : k < length X.sings) (c : IsClosedRegion d (sing d X k) W) where
  abbrev whole : Reg (suc d)
  whole = at_sing d X k W

  reg_here : (j : ℕ) → k ≤ j → j ≤ suc k → IsClosedRegion d (reg d X j) (reg_region d whole j)
  reg_here j low high =
      let vs = vX.sings k l in
      let before : IsClosedRegion d (reg d X k) (reg_region d whole k) = subst (IsClosedRegion d (reg d X k)) (sym (at_sing-before d X k W))
      (preimages_are_closed d (reg d X k) (sing d X k) (fwd d X k) W (vX.regs k (omega arith)) vs (vX.fwds k l) c) in
      let behind : IsClosedRegion d (reg d X (suc k)) (reg_region d whole (suc k)) = subst (IsClosedRegion d (reg d X (suc k))) (sym (at_sing-behind d X k W))
      (preimages_are_closed d (reg d X (suc k)) (sing d X k) (bwd d X k) W (vX.regs (suc k) l) vs (vX.bwds k l) c) in
      elim (first_or_after k j low) [
        | inl e ↦ subst (λ (n : ℕ). IsClosedRegion d (reg d X n) (reg_region d whole n)) (sym e) before
        | inr p ↦ (let low2 = p.1 in let same = p.2 in subst (λ (n : ℕ). IsClosedRegion d (reg d X n) (reg_region d whole n)) (omega arith) behind)
      ]

  sing_here : (i : ℕ) → k ≤ i → i < suc k → IsClosedRegion d (sing d X i) (sing_region d whole i)
  sing_here i low high = subst (λ (n : ℕ). IsClosedRegion d (sing d X n) (sing_region d whole n)) (omega arith)
      (subst (IsClosedRegion d (sing d X k)) (sym (at_sing-sing d X k W)) c)

  pub at_sing_closed : IsClosedRegion (suc d) X whole
  at_sing_closed = record {
    region = record {
      order = omega arith;
      within = l;
      regs_len = omega arith;
      sings_len = omega arith;
      regs = λ j low high. (reg_here j low high).region;
      sings = λ i low high. (sing_here i low high).region;
    };
    closed = record {
      regs = λ j low high. (reg_here j low high).closed;
      sings = λ i low high. (sing_here i low high).closed;
      fwds = λ i low high. subst (λ (n : ℕ). preimage d (reg d X n) (fwd d X n) (sing_region d whole n) ≡ reg_region d whole n) (omega arith)
          (ap (preimage d (reg d X k) (fwd d X k)) (at_sing-sing d X k W) ∙ sym (at_sing-before d X k W));
      bwds = λ i low high. subst (λ (n : ℕ). preimage d (reg d X (suc n)) (bwd d X n) (sing_region d whole n) ≡ reg_region d whole (suc n)) (omega arith)
          (ap (preimage d (reg d X (suc k)) (bwd d X k)) (at_sing-sing d X k W) ∙ sym (at_sing-behind d X k W));
    };
  }

pub path_regions_are_closed : (d : ℕ) → PathRegionsAreClosed d
path_regions_are_closed zero X hs v p = record { region = tt; closed = tt }
path_regions_are_closed (suc d) X [] v p = subst (IsClosedRegion (suc d) X) (sym (point_region-nil d X)) (whole_regions_are_closed (suc d) X v)
path_regions_are_closed (suc d) X (height_kind.R j ∷ hs) v p =
    subst (IsClosedRegion (suc d) X) (sym (point_region-reg d X j hs))
    (at_reg_closed d X j (point_region d (reg d X j) hs) p.0 (path_regions_are_closed d (reg d X j) hs (v.regs j p.0) p.1))
path_regions_are_closed (suc d) X (height_kind.S k ∷ hs) v p =
    subst (IsClosedRegion (suc d) X) (sym (point_region-sing d X k hs))
    (at_sing_closed d X k (point_region d (sing d X k) hs) v p.0 (path_regions_are_closed d (sing d X k) hs (v.sings k p.0) p.1))

pub points_are_paths : (d : ℕ) → PointsArePaths d
points_are_paths zero X [] p = tt
points_are_paths zero X (h ∷ hs) p = absurd p
points_are_paths (suc d) X [] p = absurd p
points_are_paths (suc d) X (height_kind.R j ∷ hs) p = (p.0, points_are_paths d (reg d X j) hs p.1)
points_are_paths (suc d) X (height_kind.S k ∷ hs) p = (p.0, points_are_paths d (sing d X k) hs p.1)

pub point_regions_are_closed : (d : ℕ) → PointRegionsAreClosed d
point_regions_are_closed d X hs v p = path_regions_are_closed d X hs v (points_are_paths d X hs p)

-- ---- where there is no other path

pub only_paths_are_whole : (d : ℕ) → OnlyPathsAreWhole d
only_paths_are_whole zero X hs v o = refl
only_paths_are_whole (suc d) X [] v o = point_region-nil d X
only_paths_are_whole (suc d) X (height_kind.R j ∷ hs) v o =
    let first : j ≡ 0 = o.0 in
    let none = o.1 in
    let W : Reg d = point_region d (reg d X j) hs in
    let all : W ≡ whole_region d (reg d X j) = only_paths_are_whole d (reg d X j) hs (v.regs j (omega arith)) o.2 in
    let a = whole-from d X in
    let b = whole-to d X in
    let rl = whole-regs_len d X in
    let sl = whole-sings_len d X in
    let here : reg_region d (at_reg d j W) j ≡ reg_region d (whole_region (suc d) X) j = at_reg-reg d j W ∙ all ∙ sym (whole-reg d X j (omega arith)) in
    point_region-reg d X j hs
    ∙ same_spans d (at_reg d j W) (whole_region (suc d) X) (omega arith) (omega arith) (omega arith) (omega arith) (omega arith) (omega arith) (omega arith)
    (λ i low high. subst (λ (n : ℕ). reg_region d (at_reg d j W) n ≡ reg_region d (whole_region (suc d) X) n) (omega arith) here)
    (λ i low high. absurd (omega arith))
only_paths_are_whole (suc d) X (height_kind.S k ∷ hs) v o =
    let first : k ≡ 0 = o.0 in
    let one = o.1 in
    let l : k < length X.sings = omega arith in
    let W : Reg d = point_region d (sing d X k) hs in
    let all : W ≡ whole_region d (sing d X k) = only_paths_are_whole d (sing d X k) hs (v.sings k l) o.2 in
    let A : Reg (suc d) = at_sing d X k W in
    let T : Reg (suc d) = whole_region (suc d) X in
    let a = whole-from d X in
    let b = whole-to d X in
    let rl = whole-regs_len d X in
    let sl = whole-sings_len d X in
    let before : reg_region d A k ≡ reg_region d T k =
    at_sing-before d X k W ∙ ap (preimage d (reg d X k) (fwd d X k)) all
    ∙ preimages_of_whole_regions d (reg d X k) (sing d X k) (fwd d X k) (v.regs k (omega arith)) (v.fwds k l) ∙ sym (whole-reg d X k (omega arith)) in
    let behind : reg_region d A (suc k) ≡ reg_region d T (suc k) =
    at_sing-behind d X k W ∙ ap (preimage d (reg d X (suc k)) (bwd d X k)) all
    ∙ preimages_of_whole_regions d (reg d X (suc k)) (sing d X k) (bwd d X k) (v.regs (suc k) l) (v.bwds k l) ∙ sym (whole-reg d X (suc k) l) in
    let inside : sing_region d A k ≡ sing_region d T k = at_sing-sing d X k W ∙ all ∙ sym (whole-sing d X k l) in
    point_region-sing d X k hs
    ∙ same_spans d A T (omega arith) (omega arith) (omega arith) (omega arith) (omega arith) (omega arith) (omega arith)
    (λ j low high. elim (first_or_after k j low) [
      | inl p ↦ subst (λ (n : ℕ). reg_region d A n ≡ reg_region d T n) (sym p) before
      | inr p ↦ (let pl = p.1 in let pe = p.2 in subst (λ (n : ℕ). reg_region d A n ≡ reg_region d T n) (omega arith) behind)
    ])
    (λ j low high. subst (λ (n : ℕ). sing_region d A n ≡ sing_region d T n) (omega arith) inside)
