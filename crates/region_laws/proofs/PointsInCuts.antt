-- Points of a diagram that lie in a region, and the points of the cut there.
use Rattle.std.proofs.Common.{◌≡◌, ℕ, zero, suc, ◌+◌, ◌-◌, ◌<◌, ◌≤◌, List, [], ◌∷◌, length, refl, sym, ap, ◌∙◌, subst, arith}
use Rattle.diagram_terms.specs.declared.place.Height.{Height}
use Rattle.diagram_terms.specs.declared.place.Height.TheVariants as height_kind
use Rattle.diagram_terms.specs.Family.{Dia, reg, sing}
use Rattle.diagram_terms.specs.Valid.{Valid}
use Rattle.diagram_terms.specs.Regions.{Reg, reg_region, sing_region, IsRegionOf}
use Rattle.diagram_terms.specs.ClosedRegions.{IsClosedRegion}
use Rattle.diagram_terms.specs.Paths.{IsPointOf, point_label}
use Rattle.diagram_terms.specs.PointRegions.{LiesIn, at_reg, at_sing, point_region}
use Rattle.diagram_terms.specs.Cuts.{cut_diagram}
use Rattle.diagram_terms.specs.CutsOfCuts.{uncut_region, cut_path}
use Rattle.region_laws.specs.Laws.{PointsLieInCuts, PointsOfCuts}
use Rattle.region_laws.proofs.PreimageCases.{closed_reg, closed_sing}
use Rattle.region_laws.proofs.PointRegions.{point_region-reg, point_region-sing, point_regions_are_closed}
use Rattle.region_laws.proofs.CutParts.{cut-sings_len, cut-reg, cut-sing}
use Rattle.region_laws.proofs.CutDiagrams.{cuts_of_diagrams_are_valid}
use Rattle.region_laws.proofs.UncutRegions.{cuts_of_cuts}
use Rattle.region_laws.proofs.UncutClosed.{uncut_at_reg, uncut_at_sing}

-- ---- as points of the cut

point_in_cut : (d : ℕ) (X : Dia d) (W : Reg d) (hs : List Height) → IsRegionOf d X W → IsPointOf d X hs → LiesIn d W hs
    → IsPointOf d (cut_diagram d X W) (cut_path d W hs)
point_in_cut zero X W [] rW p i = tt
point_in_cut zero X W (h ∷ hs) rW p i = absurd p
point_in_cut (suc d) X W [] rW p i = absurd p
point_in_cut (suc d) X W (height_kind.R j ∷ hs) rW p i =
    let n = cut-sings_len d X W in
    let low = i.0 in
    let high = i.1 in
    let l : j - W.from ≤ length (cut_diagram (suc d) X W).sings = omega arith in (
      l,
      subst (λ (D : Dia d). IsPointOf d D (cut_path d (reg_region d W j) hs)) (sym (cut-reg d X W (j - W.from) j (omega arith) high))
          (point_in_cut d (reg d X j) (reg_region d W j) hs (rW.regs j low high) p.1 i.2),
    )
point_in_cut (suc d) X W (height_kind.S k ∷ hs) rW p i =
    let n = cut-sings_len d X W in
    let low = i.0 in
    let high = i.1 in
    let l : k - W.from < length (cut_diagram (suc d) X W).sings = omega arith in (
      l,
      subst (λ (D : Dia d). IsPointOf d D (cut_path d (sing_region d W k) hs)) (sym (cut-sing d X W (k - W.from) k (omega arith) high))
          (point_in_cut d (sing d X k) (sing_region d W k) hs (rW.sings k low high) p.1 i.2),
    )

label_in_cut : (d : ℕ) (X : Dia d) (W : Reg d) (hs : List Height) → LiesIn d W hs
    → point_label d X hs ≡ point_label d (cut_diagram d X W) (cut_path d W hs)
unfolding cut_diagram
label_in_cut zero X W hs i = refl
label_in_cut (suc d) X W [] i = refl
label_in_cut (suc d) X W (height_kind.R j ∷ hs) i =
    let low = i.0 in
    label_in_cut d (reg d X j) (reg_region d W j) hs i.2
    ∙ ap (λ (D : Dia d). point_label d D (cut_path d (reg_region d W j) hs)) (sym (cut-reg d X W (j - W.from) j (omega arith) i.1))
label_in_cut (suc d) X W (height_kind.S k ∷ hs) i =
    let low = i.0 in
    label_in_cut d (sing d X k) (sing_region d W k) hs i.2
    ∙ ap (λ (D : Dia d). point_label d D (cut_path d (sing_region d W k) hs)) (sym (cut-sing d X W (k - W.from) k (omega arith) i.1))

region_in_cut : (d : ℕ) (X : Dia d) (W : Reg d) (hs : List Height) → Valid d X → IsClosedRegion d X W → IsPointOf d X hs → LiesIn d W hs
    → point_region d X hs ≡ uncut_region d W (point_region d (cut_diagram d X W) (cut_path d W hs))
region_in_cut zero X W hs v cW p i = refl
region_in_cut (suc d) X W [] v cW p i = absurd p
region_in_cut (suc d) X W (height_kind.R j ∷ hs) v cW p i =
    let C : Dia (suc d) = cut_diagram (suc d) X W in
    let low = i.0 in
    let high = i.1 in
    let n : ℕ = j - W.from in
    let e : W.from + n ≡ j = omega arith in
    let R : Reg d = reg_region d W j in
    let qs : List Height = cut_path d R hs in
    point_region-reg d X j hs
    ∙ ap (at_reg d j) (region_in_cut d (reg d X j) R hs (v.regs j p.0) (closed_reg d X W cW j low high) p.1 i.2)
    ∙ ap (λ (D : Dia d). at_reg d j (uncut_region d R (point_region d D qs))) (sym (cut-reg d X W n j e high))
    ∙ sym (uncut_at_reg d W (point_region d (reg d C n) qs) n j e)
    ∙ ap (uncut_region (suc d) W) (sym (point_region-reg d C n qs))
region_in_cut (suc d) X W (height_kind.S k ∷ hs) v cW p i =
    let C : Dia (suc d) = cut_diagram (suc d) X W in
    let low = i.0 in
    let high = i.1 in
    let n : ℕ = k - W.from in
    let e : W.from + n ≡ k = omega arith in
    let S : Reg d = sing_region d W k in
    let cS : IsClosedRegion d (sing d X k) S = closed_sing d X W cW k low high in
    let qs : List Height = cut_path d S hs in
    let D : Dia d = cut_diagram d (sing d X k) S in
    let same : sing d C n ≡ D = cut-sing d X W n k e high in
    let inner : IsPointOf d D qs = point_in_cut d (sing d X k) S hs cS.region p.1 i.2 in
    let rQ = (point_regions_are_closed d D qs (cuts_of_diagrams_are_valid d (sing d X k) S (v.sings k p.0) cS) inner).region in
    point_region-sing d X k hs
    ∙ ap (at_sing d X k) (region_in_cut d (sing d X k) S hs (v.sings k p.0) cS p.1 i.2)
    ∙ sym (uncut_at_sing d X W (point_region d D qs) n k v cW e high rQ)
    ∙ ap (λ (E : Dia d). uncut_region (suc d) W (at_sing d C n (point_region d E qs))) (sym same)
    ∙ ap (uncut_region (suc d) W) (sym (point_region-sing d C n qs))

pub points_lie_in_cuts : (d : ℕ) → PointsLieInCuts d
points_lie_in_cuts d X W hs v cW p i =
    let C : Dia d = cut_diagram d X W in
    let qs : List Height = cut_path d W hs in
    let q : IsPointOf d C qs = point_in_cut d X W hs cW.region p i in
    let r = region_in_cut d X W hs v cW p i in
    let cQ = point_regions_are_closed d C qs (cuts_of_diagrams_are_valid d X W v cW) q in
    record {
      is_point = q;
      region = r;
      neighbourhood = ap (cut_diagram d X) r ∙ sym (cuts_of_cuts d X W (point_region d C qs) v cW.region cQ.region);
      label = label_in_cut d X W hs i;
    }

-- ---- each point of the cut is one

same_head : (a n m : ℕ) (ps qs : List Height) (k : ℕ → Height) → a + n - a ≡ m → ps ≡ qs → k (a + n - a) ∷ ps ≡ k m ∷ qs
same_head a n m ps qs k e p = ap (λ (i : ℕ). k i ∷ ps) e ∙ ap (λ (rs : List Height). k m ∷ rs) p

pub points_of_cuts : (d : ℕ) → PointsOfCuts d
points_of_cuts zero X W [] rW p = record { is_point = tt; lies_in = tt; same = refl }
points_of_cuts zero X W (h ∷ hs) rW p = absurd p
points_of_cuts (suc d) X W [] rW p = absurd p
points_of_cuts (suc d) X W (height_kind.R j ∷ hs) rW p =
    let n = cut-sings_len d X W in
    let o = rW.order in
    let w = rW.within in
    let l = p.0 in
    let k : ℕ = W.from + j in
    let high : k ≤ W.to = omega arith in
    let low : W.from ≤ k = omega arith in
    let q = subst (λ (D : Dia d). IsPointOf d D hs) (cut-reg d X W j k refl high) p.1 in
    let r = points_of_cuts d (reg d X k) (reg_region d W k) hs (rW.regs k low high) q in
    let inside : k ≤ length X.sings = omega arith in
    record {
      is_point = (inside, r.is_point);
      lies_in = (low, high, r.lies_in);
      same = same_head W.from j j _ hs (λ i. height_kind.R i) (omega arith) r.same;
    }
points_of_cuts (suc d) X W (height_kind.S i ∷ hs) rW p =
    let n = cut-sings_len d X W in
    let o = rW.order in
    let w = rW.within in
    let l = p.0 in
    let k : ℕ = W.from + i in
    let high : k < W.to = omega arith in
    let low : W.from ≤ k = omega arith in
    let q = subst (λ (D : Dia d). IsPointOf d D hs) (cut-sing d X W i k refl high) p.1 in
    let r = points_of_cuts d (sing d X k) (sing_region d W k) hs (rW.sings k low high) q in
    let inside : k < length X.sings = omega arith in
    record {
      is_point = (inside, r.is_point);
      lies_in = (low, high, r.lies_in);
      same = same_head W.from i i _ hs (λ n. height_kind.S n) (omega arith) r.same;
    }
