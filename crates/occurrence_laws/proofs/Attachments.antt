-- Attaching a generator to a diagram.
use Rattle.std.proofs.Common.{◌≡◌, ℕ, suc, List, length, refl, sym, arith}
use Rattle.diagram_terms.specs.declared.label.Label.{Label}
use Rattle.diagram_terms.specs.Family.{Dia, Arr}
use Rattle.diagram_terms.specs.Cone.{source, target, Parallel, cone, mid, HasLabelsBelow}
use Rattle.plain_laws.proofs.Cones.{cones_are_good}
use Rattle.plain_laws.proofs.Parallels.{parallel_is_symmetric, parallel_diagrams_have_one_mid}
use Rattle.diagram_terms.specs.Good.{GoodDiagram, GoodArrow}
use Rattle.diagram_terms.specs.Occurrences.{swap, put, Inside}
use Rattle.diagram_terms.specs.Attachment.{attached_height, attached_height_before, attached_at_target, attached_at_source}
use Rattle.occurrence_laws.proofs.GoodParts.{good_reg}
use Rattle.occurrence_laws.proofs.SumLaws.{good_along}
use Rattle.occurrence_laws.proofs.SumParts.{sum-source, sum-target, good_sum}
use Rattle.occurrence_laws.proofs.OneHeight.{good_cospan}
use Rattle.occurrence_laws.proofs.Puts.{PutsWell, occurrences_put_well}

good_cone : (d : ℕ) (D : Dia d) (x : Label) → GoodDiagram d D → HasLabelsBelow x.dim d D → GoodArrow d D (mid d D x) (cone d D x)
good_cone d D x g b =
    let c = cones_are_good d D x g.valid g.plain b in
    record {
      source = g;
      target = record { valid = c.valid; plain = c.plain };
      valid = c.valid_cone;
      plain = c.plain_cone;
    }

-- S is inside B at e, and f : S → M and g : T → M are two plain arrows: the legs of the height between B and B with T in
-- the place of S
module _ (d : ℕ) (B : Dia d) (e : List ℕ) (S T M : Dia d) (f g : Arr d) (gB : GoodDiagram d B) (inside : Inside d B e S)
    (gf : GoodArrow d S M f) (gg : GoodArrow d T M g) (par : Parallel d T S) where
  well : PutsWell d B e S
  well = occurrences_put_well d B e S gB gf.source inside

  pub put_leg : GoodArrow d B (swap d B e S M) (put d B e S M f)
  put_leg = well.arrow M f gf

  pub swapped_leg : GoodArrow d (swap d B e S T) (swap d B e S M) (put d (swap d B e S T) e T M g)
  swapped_leg =
      let other = occurrences_put_well d (swap d B e S T) e T (well.good T gg.source par) gg.source (well.inside T gg.source par) in
      good_along d _ _ _ _ _ refl (well.twice T M gg.source par) (other.arrow M g gg)

module _ (d : ℕ) (D : Dia (suc d)) (e : List ℕ) (S T : Dia d) (x : Label) (gD : GoodDiagram (suc d) D) (gS : GoodDiagram d S)
    (gT : GoodDiagram d T) (bS : HasLabelsBelow x.dim d S) (bT : HasLabelsBelow x.dim d T) (par : Parallel d S T) where
  over_S : GoodArrow d S (mid d S x) (cone d S x)
  over_S = good_cone d S x gS bS

  over_T : GoodArrow d T (mid d S x) (cone d T x)
  over_T = good_along d _ _ _ _ _ refl (sym (parallel_diagrams_have_one_mid d S T x par)) (good_cone d T x gT bT)

  back : Parallel d T S
  back = parallel_is_symmetric d S T par

  -- the height that is added
  module _ (inside : Inside d (target d D) e S) where
    abbrev after : Dia (suc d)
    after = attached_height d (target d D) e S T x

    good_after : GoodDiagram (suc d) after
    good_after =
        let B : Dia d = target d D in
        let gB = good_reg d D gD (length D.sings) (omega arith) in
        good_cospan d _ _ _ _ _ (put_leg d B e S T (mid d S x) (cone d S x) (cone d T x) gB inside over_S over_T back)
        (swapped_leg d B e S T (mid d S x) (cone d S x) (cone d T x) gB inside over_S over_T back)

    pub good_attached_at_target : GoodDiagram (suc d) (attached_at_target d D e S T x)
    good_attached_at_target = good_sum d D after gD good_after refl

    pub attached_at_target_ends : (source d (attached_at_target d D e S T x) ≡ source d D)
        × (target d (attached_at_target d D e S T x) ≡ swap d (target d D) e S T)
    attached_at_target_ends = (sum-source d D after gD.valid good_after.valid refl, sum-target d D after gD.valid good_after.valid refl)

  module _ (inside : Inside d (source d D) e T) where
    abbrev before : Dia (suc d)
    before = attached_height_before d (source d D) e S T x

    good_before : GoodDiagram (suc d) before
    good_before =
        let B : Dia d = source d D in
        let gB = good_reg d D gD 0 (omega arith) in
        good_cospan d _ _ _ _ _ (swapped_leg d B e T S (mid d S x) (cone d T x) (cone d S x) gB inside over_T over_S par)
        (put_leg d B e T S (mid d S x) (cone d T x) (cone d S x) gB inside over_T over_S par)

    pub good_attached_at_source : GoodDiagram (suc d) (attached_at_source d D e S T x)
    good_attached_at_source = good_sum d before D good_before gD refl

    pub attached_at_source_ends : (source d (attached_at_source d D e S T x) ≡ swap d (source d D) e T S)
        × (target d (attached_at_source d D e S T x) ≡ target d D)
    attached_at_source_ends = (sum-source d before D good_before.valid gD.valid refl, sum-target d before D good_before.valid gD.valid refl)
