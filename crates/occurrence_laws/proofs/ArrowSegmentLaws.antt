-- Segments of sums, of identities and of composites of plain arrows.
use Rattle.std.proofs.Common.{◌≡◌, ℕ, suc, ◌+◌, ◌≤◌, length, refl, subst, sym, ap, ap₂, ◌∙◌, arith}
use Rattle.diagram_terms.specs.Family.{Dia, Arr}
use Rattle.diagram_terms.specs.Dual.{dual}
use Rattle.diagram_terms.specs.Composite.{comp, ident}
use Rattle.diagram_terms.specs.Cone.{source, target}
use Rattle.diagram_terms.proofs.Parts.{ident-dual}
use Rattle.map_laws.proofs.ValidParts.{composite-dual}
use Rattle.plain_laws.proofs.PlainEnds.{dual-source, dual-target}
use Rattle.diagram_terms.specs.Good.{GoodDiagram, GoodArrow}
use Rattle.diagram_terms.specs.Segments.{segment, diagram_sum, arrow_sum, arrow_segment}
use Rattle.occurrence_laws.proofs.GoodParts.{good_identity, good_composite}
use Rattle.occurrence_laws.proofs.SegmentParts.{segment-length, good_segment}
use Rattle.occurrence_laws.proofs.SumParts.{sum-length}
use Rattle.occurrence_laws.proofs.DiagramParts.{part_segment, sum_segments}
use Rattle.occurrence_laws.proofs.ArrowSums.{targets_meet, sum-dual_first, sum-dual_second, good_arrow_sum}
use Rattle.occurrence_laws.proofs.ArrowSegments.{good_arrow_segment, low_high, high_within}
use Rattle.occurrence_laws.proofs.ArrowParts.{IsArrowPart, same_arrow_parts, arrow_part_at, part_arrow_segment, part_identity, part_composite, arrow_part_first, arrow_part_second}
use Rattle.occurrence_laws.proofs.SumLaws.{good_along}

module _ (d : ℕ) where
  -- a part of f from a on that goes between the segments is the segment there
  pub arrow_part_is_segment : (X Y : Dia (suc d)) (f : Arr (suc d)) (a b : ℕ) (V W : Dia (suc d)) (g : Arr (suc d))
      → GoodArrow (suc d) X Y f → a ≤ b → b ≤ length Y.sings → GoodArrow (suc d) V W g
      → segment d X (dual f.heights a) (dual f.heights b) ≡ V → segment d Y a b ≡ W
      → IsArrowPart d f (dual f.heights a) a V g → arrow_segment d f a b ≡ g
  arrow_part_is_segment X Y f a b V W g gf l m gg from to part =
      same_arrow_parts d f (dual f.heights a) a V W (arrow_segment d f a b) g
      (good_along (suc d) _ _ _ _ (arrow_segment d f a b) from to (good_arrow_segment d X Y f gf a b l m)) gg
      (subst (λ (S : Dia (suc d)). IsArrowPart d f (dual f.heights a) a S (arrow_segment d f a b)) from (part_arrow_segment d X Y f gf a b l m))
      part

  -- the summands are the segments of a sum
  module _ (X Y : Dia (suc d)) (f : Arr (suc d)) (V W : Dia (suc d)) (g : Arr (suc d))
      (gf : GoodArrow (suc d) X Y f) (gg : GoodArrow (suc d) V W g) (meet : target d X ≡ source d V) where
    abbrev both : Arr (suc d)
    both = arrow_sum d f g

    abbrev from : Dia (suc d)
    from = diagram_sum d X V

    abbrev to : Dia (suc d)
    to = diagram_sum d Y W

    abbrev n : ℕ
    n = length X.sings

    abbrev m : ℕ
    m = length Y.sings

    good_both : GoodArrow (suc d) from to both
    good_both = good_arrow_sum d X Y f V W g gf gg meet

    first_dual : dual both.heights 0 ≡ 0
    first_dual = dual-source d from to both good_both.valid

    middle_dual : dual both.heights m ≡ n
    middle_dual = sum-dual_first d X Y f V W g gf gg meet m (omega arith) ∙ dual-target d X Y f gf.valid

    last_dual : dual both.heights (m + length W.sings) ≡ n + length V.sings
    last_dual = sum-dual_second d X Y f V W g gf gg meet (length W.sings) ∙ ap (λ (k : ℕ). n + k) (dual-target d V W g gg.valid)

    pub arrow_sum_segments : (arrow_segment d both 0 m ≡ f) × (arrow_segment d both m (m + length W.sings) ≡ g)
    arrow_sum_segments =
        let froms = sum_segments d X V gf.source gg.source meet in
        let tos = sum_segments d Y W gf.target gg.target (targets_meet d X Y f V W g gf gg meet) in
        let s = sum-length d Y W in (
          arrow_part_is_segment from to both 0 m X Y f good_both (omega arith) (omega arith) gf
              (ap₂ (λ (a b : ℕ). segment d from a b) first_dual middle_dual ∙ froms.0) tos.0
              (arrow_part_at d both 0 0 (dual both.heights 0) 0 X f (sym first_dual) refl (arrow_part_first d X Y f V W g gf gg meet)),
          arrow_part_is_segment from to both m (m + length W.sings) V W g good_both (omega arith) (omega arith) gg
              (ap₂ (λ (a b : ℕ). segment d from a b) middle_dual last_dual ∙ froms.1) tos.1
              (arrow_part_at d both n m (dual both.heights m) m V g (sym middle_dual) refl (arrow_part_second d X Y f V W g gf gg meet)),
        )

  -- the segment of an identity is the identity of the segment
  pub identity_segments : (X : Dia (suc d)) (a b : ℕ) → GoodDiagram (suc d) X → a ≤ b → b ≤ length X.sings
      → arrow_segment d (ident (suc d) X) a b ≡ ident (suc d) (segment d X a b)
  identity_segments X a b g l m =
      let S : Dia (suc d) = segment d X a b in
      let ea : dual (ident (suc d) X).heights a ≡ a = ident-dual d X a (omega arith) in
      let eb : dual (ident (suc d) X).heights b ≡ b = ident-dual d X b m in
      arrow_part_is_segment X X (ident (suc d) X) a b S S (ident (suc d) S) (good_identity (suc d) X g) l m
      (good_identity (suc d) S (good_segment d X a b l m g)) (ap₂ (λ (p q : ℕ). segment d X p q) ea eb) refl
      (arrow_part_at d (ident (suc d) X) a a (dual (ident (suc d) X).heights a) a S (ident (suc d) S) (sym ea) refl
      (part_identity d X a S (part_segment d X a b l m)))

  -- the segment of a composite is the composite of the segments
  pub composite_segments : (X Y Z : Dia (suc d)) (f g : Arr (suc d)) (a b : ℕ) → GoodArrow (suc d) X Y f → GoodArrow (suc d) Y Z g
      → a ≤ b → b ≤ length Z.sings
      → arrow_segment d (comp (suc d) g f) a b
      ≡ comp (suc d) (arrow_segment d g a b) (arrow_segment d f (dual g.heights a) (dual g.heights b))
  composite_segments X Y Z f g a b gf gg l m =
      let p : ℕ = dual g.heights a in
      let q : ℕ = dual g.heights b in
      let pq : p ≤ q = low_high d Y Z g gg a b l m in
      let qn : q ≤ length Y.sings = high_within d Y Z g gg a b l m in
      let s : ℕ = dual f.heights p in
      let t : ℕ = dual f.heights q in
      let st = low_high d X Y f gf p q pq qn in
      let tn = high_within d X Y f gf p q pq qn in
      let c : Arr (suc d) = comp (suc d) g f in
      let ea : dual c.heights a ≡ s = composite-dual d X Y Z f g gf.valid gg.valid a in
      let eb : dual c.heights b ≡ t = composite-dual d X Y Z f g gf.valid gg.valid b in
      let fs : Arr (suc d) = arrow_segment d f p q in
      let gs : Arr (suc d) = arrow_segment d g a b in
      let gfs = good_arrow_segment d X Y f gf p q pq qn in
      let ggs = good_arrow_segment d Y Z g gg a b l m in
      let n = segment-length d X s t st tn in
      arrow_part_is_segment X Z c a b (segment d X s t) (segment d Z a b) (comp (suc d) gs fs) (good_composite (suc d) X Y Z f g gf gg) l m
      (good_composite (suc d) _ _ _ fs gs gfs ggs) (ap₂ (λ (u v : ℕ). segment d X u v) ea eb) refl
      (arrow_part_at d c s a (dual c.heights a) a (segment d X s t) (comp (suc d) gs fs) (sym ea) refl
      (part_composite d X Y f g s p a (segment d X s t) (segment d Y p q) fs gs gf gfs (omega arith)
      (part_arrow_segment d X Y f gf p q pq qn) (part_arrow_segment d Y Z g gg a b l m)))
