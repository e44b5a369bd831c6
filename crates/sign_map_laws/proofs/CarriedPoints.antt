-- Relabelling and suspension carry cuts over, and so neighbourhoods.
use Rattle.std.proofs.Common.{◌≡◌, ℕ, zero, suc, ◌<◌, ◌≤◌, List, [], ◌∷◌, ◌++◌, length, refl, sym, ap, ◌∙◌, subst, arith}
use Rattle.diagram_terms.specs.declared.label.Label.{Label}
use Rattle.diagram_terms.specs.declared.place.Height.{Height}
use Rattle.diagram_terms.specs.declared.place.Height.TheVariants as height_kind
use Rattle.diagram_terms.specs.Family.{Dia, Arr, reg, sing, fwd, bwd}
use Rattle.diagram_terms.specs.Valid.{Valid}
use Rattle.diagram_terms.specs.SliceMaps.{on_slices}
use Rattle.diagram_terms.specs.Relabelling.{relabelled, relabelled_arrow, RisesWithDimension}
use Rattle.diagram_terms.specs.Suspension.{raised, suspended, suspended_arrow}
use Rattle.normal_form_laws.proofs.ImageParts.{image-len, image-reg, image-sing, image-fwd, image-bwd}
use Rattle.normal_form_laws.proofs.Suspension.{suspension_carries_over}
use Rattle.diagram_terms.specs.Regions.{Reg, whole_region}
use Rattle.diagram_terms.specs.Paths.{IsPointOf, point_label}
use Rattle.diagram_terms.specs.PointRegions.{at_reg, at_sing, point_region}
use Rattle.diagram_terms.specs.Preimages.{preimage}
use Rattle.diagram_terms.specs.Cuts.{cut_arrow, cut_diagram}
use Rattle.region_laws.proofs.PointRegions.{point_region-reg, point_region-sing, point_regions_are_closed}
use Rattle.region_laws.proofs.WholeRegions.{preimages_of_whole_regions, cuts_of_arrows_at_whole_regions, cuts_at_whole_regions}
use Rattle.diagram_terms.specs.CarriedRegions.{on_region, relabelled_region, suspended_region}
use Rattle.sign_map_laws.specs.CarriedRegions.{CarriesCutsOver, RelabellingCarriesCutsOver, SuspensionCarriesCutsOver, RelabelledPoints, SuspendedPoints}
use Rattle.sign_map_laws.proofs.CarriedCuts.{next_carries_cuts}

-- ---- cuts

relabelling_base : (image : Label → Label) → CarriesCutsOver zero zero (relabelled image zero) (relabelled_arrow image zero) (relabelled_region zero)
unfolding relabelled relabelled_arrow relabelled_region preimage cut_diagram cut_arrow
relabelling_base image = record {
  preimages = λ x y f W vx vy vf w. refl;
  diagrams = λ x W vx w. refl;
  arrows = λ x y f W vx vy vf w. refl;
}

pub relabelling_carries_cuts_over : (d : ℕ) → RelabellingCarriesCutsOver d
unfolding relabelled relabelled_arrow relabelled_region
relabelling_carries_cuts_over zero image up = relabelling_base image
relabelling_carries_cuts_over (suc d) image up =
    next_carries_cuts d d (relabelled image d) (relabelled_arrow image d) (relabelled_region d) (relabelling_carries_cuts_over d image up)

-- the region of a label becomes the whole of its cospan
suspended_whole : (x : Dia zero) (W : Reg zero) → suspended_region zero W ≡ whole_region 1 (suspended zero x)
unfolding suspended_region suspended whole_region
suspended_whole x W = refl

suspension_base : CarriesCutsOver zero 1 (suspended zero) (suspended_arrow zero) (suspended_region zero)
unfolding preimage cut_diagram cut_arrow
suspension_base =
    let k = suspension_carries_over zero in
    record {
      preimages = λ x y f W vx vy vf w.
          ap (preimage 1 (suspended zero x) (suspended_arrow zero f)) (suspended_whole y W)
          ∙ preimages_of_whole_regions 1 (suspended zero x) (suspended zero y) (suspended_arrow zero f) (k.diagrams x vx) (k.arrows x y f vx vy vf)
          ∙ sym (suspended_whole x (preimage zero x f W));
      diagrams = λ x W vx w. ap (cut_diagram 1 (suspended zero x)) (suspended_whole x W) ∙ cuts_at_whole_regions 1 (suspended zero x) (k.diagrams x vx);
      arrows = λ x y f W vx vy vf w. ap (cut_arrow 1 (suspended_arrow zero f)) (suspended_whole y W)
          ∙ cuts_of_arrows_at_whole_regions 1 (suspended zero x) (suspended zero y) (suspended_arrow zero f) (k.arrows x y f vx vy vf);
    }

pub suspension_carries_cuts_over : (d : ℕ) → SuspensionCarriesCutsOver d
unfolding suspended suspended_arrow suspended_region
suspension_carries_cuts_over zero = suspension_base
suspension_carries_cuts_over (suc d) =
    next_carries_cuts d (suc d) (suspended d) (suspended_arrow d) (suspended_region d) (suspension_carries_cuts_over d)

-- ---- the regions of points, one level up

module _ (d e : ℕ) (o : Dia d → Dia e) (a : Arr d → Arr e) (r : Reg d → Reg e) (c : CarriesCutsOver d e o a r)
    (X : Dia (suc d)) (v : Valid (suc d) X) where
  abbrev O : Dia (suc e)
  O = on_slices d e o a X

  region_over_reg : (j : ℕ) (hs ks : List Height) → j ≤ length X.sings
      → point_region e (o (reg d X j)) ks ≡ r (point_region d (reg d X j) hs)
      → point_region (suc e) O (height_kind.R j ∷ ks) ≡ on_region d e r (point_region (suc d) X (height_kind.R j ∷ hs))
  region_over_reg j hs ks l inner =
      point_region-reg e O j ks
      ∙ ap (at_reg e j) (ap (λ (D : Dia e). point_region e D ks) (image-reg d e o a X v j l) ∙ inner)
      ∙ ap (on_region d e r) (sym (point_region-reg d X j hs))

  region_over_sing : (k : ℕ) (hs ks : List Height) → k < length X.sings → IsPointOf d (sing d X k) hs
      → point_region e (o (sing d X k)) ks ≡ r (point_region d (sing d X k) hs)
      → point_region (suc e) O (height_kind.S k ∷ ks) ≡ on_region d e r (point_region (suc d) X (height_kind.S k ∷ hs))
  region_over_sing k hs ks l q inner =
      let W : Reg d = point_region d (sing d X k) hs in
      let w = (point_regions_are_closed d (sing d X k) hs (v.sings k l) q).region in
      let x = image-reg d e o a X v k (omega arith) in
      let y = image-reg d e o a X v (suc k) l in
      let f = image-fwd d e o a X v k l in
      let g = image-bwd d e o a X v k l in
      let left = (λ t. preimage e (x t) (f t) (r W)) ∙ c.preimages (reg d X k) (sing d X k) (fwd d X k) W (v.regs k (omega arith)) (v.sings k l) (v.fwds k l) w in
      let right = (λ t. preimage e (y t) (g t) (r W)) ∙ c.preimages (reg d X (suc k)) (sing d X k) (bwd d X k) W (v.regs (suc k) l) (v.sings k l) (v.bwds k l) w in
      point_region-sing e O k ks
      ∙ ap (at_sing e O k) (ap (λ (D : Dia e). point_region e D ks) (image-sing d e o a X k l) ∙ inner)
      ∙ (λ t. record { from = k; to = suc k; regs = left t ∷ right t ∷ []; sings = r W ∷ [] })
      ∙ ap (on_region d e r) (sym (point_region-sing d X k hs))

-- ---- relabelled points

-- the region and the label of a point
record Relabels (image : Label → Label) (d : ℕ) (X : Dia d) (hs : List Height) : Type 0 where
  is_point : IsPointOf d X hs
  region : point_region d (relabelled image d X) hs ≡ relabelled_region d (point_region d X hs)
  label : point_label d (relabelled image d X) hs ≡ image (point_label d X hs)

module _ (image : Label → Label) (up : RisesWithDimension image) where
  relabels : (d : ℕ) (X : Dia d) (hs : List Height) → Valid d X → IsPointOf d (relabelled image d X) hs → Relabels image d X hs
  unfolding relabelled relabelled_arrow relabelled_region
  relabels zero x [] v q = record { is_point = tt; region = refl; label = refl }
  relabels zero x (h ∷ hs) v q = absurd q
  relabels (suc d) X [] v q = absurd q
  relabels (suc d) X (height_kind.R j ∷ hs) v q =
      let n = image-len d d (relabelled image d) (relabelled_arrow image d) X in
      let l0 = q.0 in
      let l : j ≤ length X.sings = omega arith in
      let at = image-reg d d (relabelled image d) (relabelled_arrow image d) X v j l in
      let i = relabels d (reg d X j) hs (v.regs j l) (subst (λ (D : Dia d). IsPointOf d D hs) at q.1) in
      record {
        is_point = (l, i.is_point);
        region = region_over_reg d d (relabelled image d) (relabelled_arrow image d) (relabelled_region d) (relabelling_carries_cuts_over d image up) X v j hs hs l i.region;
        label = ap (λ (D : Dia d). point_label d D hs) at ∙ i.label;
      }
  relabels (suc d) X (height_kind.S k ∷ hs) v q =
      let n = image-len d d (relabelled image d) (relabelled_arrow image d) X in
      let l0 = q.0 in
      let l : k < length X.sings = omega arith in
      let at = image-sing d d (relabelled image d) (relabelled_arrow image d) X k l in
      let i = relabels d (sing d X k) hs (v.sings k l) (subst (λ (D : Dia d). IsPointOf d D hs) at q.1) in
      record {
        is_point = (l, i.is_point);
        region = region_over_sing d d (relabelled image d) (relabelled_arrow image d) (relabelled_region d) (relabelling_carries_cuts_over d image up) X v k hs hs l i.is_point i.region;
        label = ap (λ (D : Dia d). point_label d D hs) at ∙ i.label;
      }

pub relabelled_points : (d : ℕ) → RelabelledPoints d
relabelled_points d image X hs up v q =
    let i = relabels image up d X hs v q in
    record {
      is_point = i.is_point;
      neighbourhood = ap (cut_diagram d (relabelled image d X)) i.region
          ∙ (relabelling_carries_cuts_over d image up).diagrams X (point_region d X hs) v (point_regions_are_closed d X hs v i.is_point).region;
      label = i.label;
    }

-- ---- suspended points

record Suspends (d : ℕ) (X : Dia d) (hs : List Height) : Type 0 where
  is_point : IsPointOf (suc d) (suspended d X) (hs ++ height_kind.S 0 ∷ [])
  region : point_region (suc d) (suspended d X) (hs ++ height_kind.S 0 ∷ []) ≡ suspended_region d (point_region d X hs)
  label : point_label (suc d) (suspended d X) (hs ++ height_kind.S 0 ∷ []) ≡ raised (point_label d X hs)

suspends_base : (x : Dia zero) → Suspends zero x []
unfolding suspended suspended_region point_region preimage
suspends_base x = record { is_point = (omega arith, tt); region = refl; label = refl }

suspends : (d : ℕ) (X : Dia d) (hs : List Height) → Valid d X → IsPointOf d X hs → Suspends d X hs
unfolding suspended suspended_arrow suspended_region
suspends zero x [] v q = suspends_base x
suspends zero x (h ∷ hs) v q = absurd q
suspends (suc d) X [] v q = absurd q
suspends (suc d) X (height_kind.R j ∷ hs) v q =
    let n = image-len d (suc d) (suspended d) (suspended_arrow d) X in
    let l = q.0 in
    let at = image-reg d (suc d) (suspended d) (suspended_arrow d) X v j l in
    let i = suspends d (reg d X j) hs (v.regs j l) q.1 in
    let ks : List Height = hs ++ height_kind.S 0 ∷ [] in
    record {
      is_point = (omega arith, subst (λ (D : Dia (suc d)). IsPointOf (suc d) D ks) (sym at) i.is_point);
      region = region_over_reg d (suc d) (suspended d) (suspended_arrow d) (suspended_region d) (suspension_carries_cuts_over d) X v j hs ks l i.region;
      label = ap (λ (D : Dia (suc d)). point_label (suc d) D ks) at ∙ i.label;
    }
suspends (suc d) X (height_kind.S k ∷ hs) v q =
    let n = image-len d (suc d) (suspended d) (suspended_arrow d) X in
    let l = q.0 in
    let at = image-sing d (suc d) (suspended d) (suspended_arrow d) X k l in
    let i = suspends d (sing d X k) hs (v.sings k l) q.1 in
    let ks : List Height = hs ++ height_kind.S 0 ∷ [] in
    record {
      is_point = (omega arith, subst (λ (D : Dia (suc d)). IsPointOf (suc d) D ks) (sym at) i.is_point);
      region = region_over_sing d (suc d) (suspended d) (suspended_arrow d) (suspended_region d) (suspension_carries_cuts_over d) X v k hs ks l q.1 i.region;
      label = ap (λ (D : Dia (suc d)). point_label (suc d) D ks) at ∙ i.label;
    }

pub suspended_points : (d : ℕ) → SuspendedPoints d
suspended_points d X hs v q =
    let i = suspends d X hs v q in
    record {
      is_point = i.is_point;
      neighbourhood = ap (cut_diagram (suc d) (suspended d X)) i.region
          ∙ (suspension_carries_cuts_over d).diagrams X (point_region d X hs) v (point_regions_are_closed d X hs v q).region;
      label = i.label;
    }
