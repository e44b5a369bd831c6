-- The laws of segments and sums: neutral diagrams, identities, composites, and how they fit together again.
use Rattle.std.proofs.Common.{◌≡◌, ℕ, suc, ◌+◌, ◌≤◌, length, refl, subst, sym, ap, ◌∙◌, arith}
use Rattle.diagram_terms.specs.Family.{Dia, Arr, reg}
use Rattle.diagram_terms.specs.Dual.{dual}
use Rattle.diagram_terms.specs.Composite.{comp, ident, identity_diagram}
use Rattle.diagram_terms.specs.Valid.{Valid}
use Rattle.diagram_terms.specs.Plain.{Plain}
use Rattle.diagram_terms.specs.Cone.{source, target}
use Rattle.plain_laws.proofs.Cospans.{below_one}
use Rattle.plain_laws.proofs.PlainEnds.{dual-source, dual-target}
use Rattle.diagram_terms.specs.Good.{GoodDiagram, GoodArrow}
use Rattle.diagram_terms.specs.Segments.{segment, diagram_sum, arrow_sum, arrow_segment}
use Rattle.occurrence_laws.proofs.GoodParts.{good_identity, good_composite, good_reg}
use Rattle.occurrence_laws.proofs.SegmentParts.{segment-length, segment-source, segment-target}
use Rattle.occurrence_laws.proofs.SumParts.{sum-length, sum-source, sum-target, good_sum}
use Rattle.occurrence_laws.proofs.DiagramParts.{IsPart, part_at, part_whole, part_first, part_second, part_sum, part_is_whole, segment_whole, segments_join, sums_associate}
use Rattle.occurrence_laws.proofs.ArrowSums.{targets_meet, good_arrow_sum}
use Rattle.occurrence_laws.proofs.ArrowSegments.{good_arrow_segment, low_high, high_within}
use Rattle.occurrence_laws.proofs.ArrowParts.{IsArrowPart, same_arrow_parts, arrow_part_at, arrow_part_within, arrow_whole, part_arrow_segment, part_identity, part_composite, arrow_part_first, arrow_part_second, arrow_part_sum}

-- an arrow between equal diagrams
pub good_along : (d : ℕ) (X X' Y Y' : Dia d) (f : Arr d) → X ≡ X' → Y ≡ Y' → GoodArrow d X Y f → GoodArrow d X' Y' f
good_along d X X' Y Y' f e e' g =
    subst (λ (T : Dia d). GoodArrow d X' T f) e' (subst (λ (S : Dia d). GoodArrow d S Y f) e g)

module _ (d : ℕ) where
  -- ---- the identity diagram of an end is neutral

  pub good_identity_diagram : (x : Dia d) → GoodDiagram d x → GoodDiagram (suc d) (identity_diagram d x)
  good_identity_diagram x g = record {
    valid = record {
      regs_len = refl;
      fwds_len = refl;
      bwds_len = refl;
      regs = λ j l. below_one (λ j. Valid d (reg d (identity_diagram d x) j)) g.valid j (omega arith);
      sings = λ i l. absurd (omega arith);
      fwds = λ k l. absurd (omega arith);
      bwds = λ k l. absurd (omega arith);
    };
    plain = record {
      regs = below_one (λ j. Plain d (reg d (identity_diagram d x) j)) g.plain;
      sings = λ i l. absurd (omega arith);
      fwds = λ k l. absurd (omega arith);
      bwds = λ k l. absurd (omega arith);
    };
  }

  part_point : (X : Dia (suc d)) (p : ℕ) → p ≤ length X.sings → IsPart d X p (identity_diagram d (reg d X p))
  part_point X p l =
      let e : p + 0 ≡ p = omega arith in
      record {
        fits = omega arith;
        regs = λ j h. below_one (λ j. reg d X (p + j) ≡ reg d (identity_diagram d (reg d X p)) j) (ap (reg d X) e) j (omega arith);
        sings = λ i h. absurd (omega arith);
        fwds = λ k h. absurd (omega arith);
        bwds = λ k h. absurd (omega arith);
      }

  pub sum_neutral_first : (X : Dia (suc d)) → GoodDiagram (suc d) X → diagram_sum d (identity_diagram d (source d X)) X ≡ X
  sum_neutral_first X g =
      let I : Dia (suc d) = identity_diagram d (source d X) in
      let gI = good_identity_diagram (source d X) (good_reg d X g 0 (omega arith)) in
      let n = sum-length d I X in
      let e : length (diagram_sum d I X).sings ≡ length X.sings = omega arith in
      let x = part_point X 0 (omega arith) in
      let y = part_at d X 0 (0 + 0) X (omega arith) (part_whole d X) in
      part_is_whole d X (diagram_sum d I X) g (good_sum d I X gI g refl) e (part_sum d X 0 I X gI g x y)

  pub sum_neutral_second : (X : Dia (suc d)) → GoodDiagram (suc d) X → diagram_sum d X (identity_diagram d (target d X)) ≡ X
  sum_neutral_second X g =
      let n : ℕ = length X.sings in
      let I : Dia (suc d) = identity_diagram d (target d X) in
      let gI = good_identity_diagram (target d X) (good_reg d X g n (omega arith)) in
      let s = sum-length d X I in
      let e : length (diagram_sum d X I).sings ≡ length X.sings = omega arith in
      let y = part_at d X n (0 + n) I (omega arith) (part_point X n (omega arith)) in
      part_is_whole d X (diagram_sum d X I) g (good_sum d X I g gI refl) e (part_sum d X 0 X I g gI (part_whole d X) y)

  -- ---- identities and composites of sums

  module _ (X Y : Dia (suc d)) (gX : GoodDiagram (suc d) X) (gY : GoodDiagram (suc d) Y) (meet : target d X ≡ source d Y) where
    pub sum_of_identities : arrow_sum d (ident (suc d) X) (ident (suc d) Y) ≡ ident (suc d) (diagram_sum d X Y)
    sum_of_identities =
        let Z : Dia (suc d) = diagram_sum d X Y in
        let n : ℕ = length X.sings in
        let iX = good_identity (suc d) X gX in
        let iY = good_identity (suc d) Y gY in
        let x = part_identity d Z 0 X (part_first d X Y gX gY meet) in
        let y = arrow_part_at d (ident (suc d) Z) n n (0 + n) (0 + n) Y (ident (suc d) Y) (omega arith) (omega arith)
        (part_identity d Z n Y (part_second d X Y gX gY meet)) in
        same_arrow_parts d (ident (suc d) Z) 0 0 Z Z _ _
        (good_arrow_sum d X X (ident (suc d) X) Y Y (ident (suc d) Y) iX iY meet)
        (good_identity (suc d) Z (good_sum d X Y gX gY meet))
        (arrow_part_sum d X X (ident (suc d) X) Y Y (ident (suc d) Y) iX iY meet (ident (suc d) Z) 0 0 x y)
        (arrow_whole d Z (ident (suc d) Z))

  -- first f, then g, and beside them first h, then k
  module _ (X Y Z U V W : Dia (suc d)) (f g h k : Arr (suc d)) (gf : GoodArrow (suc d) X Y f) (gg : GoodArrow (suc d) Y Z g)
      (gh : GoodArrow (suc d) U V h) (gk : GoodArrow (suc d) V W k) (meet : target d X ≡ source d U) where
    pub sum_of_composites : comp (suc d) (arrow_sum d g k) (arrow_sum d f h) ≡ arrow_sum d (comp (suc d) g f) (comp (suc d) k h)
    sum_of_composites =
        let meet_next : target d Y ≡ source d V = targets_meet d X Y f U V h gf gh meet in
        let A : Dia (suc d) = diagram_sum d X U in
        let B : Dia (suc d) = diagram_sum d Y V in
        let C : Dia (suc d) = diagram_sum d Z W in
        let first : Arr (suc d) = arrow_sum d f h in
        let second : Arr (suc d) = arrow_sum d g k in
        let gfirst : GoodArrow (suc d) A B first = good_arrow_sum d X Y f U V h gf gh meet in
        let gsecond : GoodArrow (suc d) B C second = good_arrow_sum d Y Z g V W k gg gk meet_next in
        let both = good_composite (suc d) A B C first second gfirst gsecond in
        let gc = good_composite (suc d) X Y Z f g gf gg in
        let gc' = good_composite (suc d) U V W h k gh gk in
        let c : Arr (suc d) = comp (suc d) second first in
        let n : ℕ = length X.sings in
        let m : ℕ = length Z.sings in
        let s = sum-length d X U in
        let x = part_composite d A B first second 0 0 0 X Y f g gfirst gf (omega arith)
        (arrow_part_first d X Y f U V h gf gh meet) (arrow_part_first d Y Z g V W k gg gk meet_next) in
        let y = part_composite d A B first second n (length Y.sings) m U V h k gfirst gh (omega arith)
        (arrow_part_second d X Y f U V h gf gh meet) (arrow_part_second d Y Z g V W k gg gk meet_next) in
        let y' = arrow_part_at d c n m (0 + n) (0 + m) U (comp (suc d) k h) (omega arith) (omega arith) y in
        same_arrow_parts d c 0 0 A C _ _ both (good_arrow_sum d X Z (comp (suc d) g f) U W (comp (suc d) k h) gc gc' meet)
        (arrow_whole d A c) (arrow_part_sum d X Z (comp (suc d) g f) U W (comp (suc d) k h) gc gc' meet c 0 0 x y')

  -- ---- the segments of an arrow

  module _ (X Y : Dia (suc d)) (f : Arr (suc d)) (g : GoodArrow (suc d) X Y f) where
    pub arrow_segment_whole : arrow_segment d f 0 (length Y.sings) ≡ f
    arrow_segment_whole =
        let n : ℕ = length Y.sings in
        let first : dual f.heights 0 ≡ 0 = dual-source d X Y f g.valid in
        let last : dual f.heights n ≡ length X.sings = dual-target d X Y f g.valid in
        let from : segment d X (dual f.heights 0) (dual f.heights n) ≡ X =
        ap (λ (k : ℕ). segment d X k (dual f.heights n)) first ∙ ap (segment d X 0) last ∙ segment_whole d X g.source in
        let to : segment d Y 0 n ≡ Y = segment_whole d Y g.target in
        let x = arrow_part_at d f (dual f.heights 0) 0 0 0 _ _ first refl (part_arrow_segment d X Y f g 0 n (omega arith) (omega arith)) in
        same_arrow_parts d f 0 0 X Y (arrow_segment d f 0 n) f
        (good_along (suc d) _ X _ Y (arrow_segment d f 0 n) from to (good_arrow_segment d X Y f g 0 n (omega arith) (omega arith))) g
        (subst (λ (S : Dia (suc d)). IsArrowPart d f 0 0 S (arrow_segment d f 0 n)) from x) (arrow_whole d X f)

    module _ (a b c : ℕ) (l : a ≤ b) (m : b ≤ c) (h : c ≤ length Y.sings) where
      abbrev at : ℕ → ℕ
      at j = dual f.heights j

      -- the segments of the source that belong to segments of the target meet
      pub segments_meet : target d (segment d X (at a) (at b)) ≡ source d (segment d X (at b) (at c))
      segments_meet =
          segment-target d X (at a) (at b) (low_high d X Y f g a b l (omega arith)) (high_within d X Y f g a b l (omega arith))
          ∙ sym (segment-source d X (at b) (at c) (low_high d X Y f g b c m h) (high_within d X Y f g b c m h))

      pub arrow_segments_join : arrow_sum d (arrow_segment d f a b) (arrow_segment d f b c) ≡ arrow_segment d f a c
      arrow_segments_join =
          let ab = low_high d X Y f g a b l (omega arith) in
          let bc = low_high d X Y f g b c m h in
          let top = high_within d X Y f g b c m h in
          let X1 : Dia (suc d) = segment d X (at a) (at b) in
          let X2 : Dia (suc d) = segment d X (at b) (at c) in
          let Y1 : Dia (suc d) = segment d Y a b in
          let Y2 : Dia (suc d) = segment d Y b c in
          let f1 : Arr (suc d) = arrow_segment d f a b in
          let f2 : Arr (suc d) = arrow_segment d f b c in
          let g1 = good_arrow_segment d X Y f g a b l (omega arith) in
          let g2 = good_arrow_segment d X Y f g b c m h in
          let from : diagram_sum d X1 X2 ≡ segment d X (at a) (at c) = segments_join d X (at a) (at b) (at c) g.source ab bc top in
          let to : diagram_sum d Y1 Y2 ≡ segment d Y a c = segments_join d Y a b c g.target l m h in
          let n1 = segment-length d X (at a) (at b) ab (omega arith) in
          let n2 = segment-length d Y a b l (omega arith) in
          let x = part_arrow_segment d X Y f g a b l (omega arith) in
          let y = arrow_part_at d f (at b) b (at a + length X1.sings) (a + length Y1.sings) X2 f2 (omega arith) (omega arith)
          (part_arrow_segment d X Y f g b c m h) in
          let s = arrow_part_sum d X1 Y1 f1 X2 Y2 f2 g1 g2 segments_meet f (at a) a x y in
          same_arrow_parts d f (at a) a (segment d X (at a) (at c)) (segment d Y a c) (arrow_sum d f1 f2) (arrow_segment d f a c)
          (good_along (suc d) _ _ _ _ (arrow_sum d f1 f2) from to (good_arrow_sum d X1 Y1 f1 X2 Y2 f2 g1 g2 segments_meet))
          (good_arrow_segment d X Y f g a c (omega arith) h)
          (subst (λ (S : Dia (suc d)). IsArrowPart d f (at a) a S (arrow_sum d f1 f2)) from s)
          (part_arrow_segment d X Y f g a c (omega arith) h)

  -- ---- sums of arrows are associative

  pub arrow_sums_associate : (X Y U V W Z : Dia (suc d)) (f g h : Arr (suc d))
      → GoodArrow (suc d) X Y f → GoodArrow (suc d) U V g → GoodArrow (suc d) W Z h
      → target d X ≡ source d U → target d U ≡ source d W
      → arrow_sum d f (arrow_sum d g h) ≡ arrow_sum d (arrow_sum d f g) h
  arrow_sums_associate X Y U V W Z f g h gf gg gh m n =
      let m' = targets_meet d X Y f U V g gf gg m in
      let n' = targets_meet d U V g W Z h gg gh n in
      let XU : Dia (suc d) = diagram_sum d X U in
      let YV : Dia (suc d) = diagram_sum d Y V in
      let UW : Dia (suc d) = diagram_sum d U W in
      let VZ : Dia (suc d) = diagram_sum d V Z in
      let fg : Arr (suc d) = arrow_sum d f g in
      let gh' : Arr (suc d) = arrow_sum d g h in
      let gfg = good_arrow_sum d X Y f U V g gf gg m in
      let ggh = good_arrow_sum d U V g W Z h gg gh n in
      let a : target d XU ≡ source d W = sum-target d X U gf.source.valid gg.source.valid m ∙ n in
      let b : target d X ≡ source d UW = m ∙ sym (sum-source d U W gg.source.valid gh.source.valid n) in
      let from : diagram_sum d X UW ≡ diagram_sum d XU W = sums_associate d X U W gf.source gg.source gh.source m n in
      let to : diagram_sum d Y VZ ≡ diagram_sum d YV Z = sums_associate d Y V Z gf.target gg.target gh.target m' n' in
      let whole : Arr (suc d) = arrow_sum d fg h in
      let first = arrow_part_first d XU YV fg W Z h gfg gh a in
      let s = sum-length d X U in
      let t = sum-length d Y V in
      let x = arrow_part_at d whole (0 + 0) (0 + 0) 0 0 X f (omega arith) (omega arith)
      (arrow_part_within d whole 0 0 XU fg 0 0 X f (omega arith) first (arrow_part_first d X Y f U V g gf gg m)) in
      let y = arrow_part_within d whole 0 0 XU fg (length X.sings) (length Y.sings) U g (omega arith) first
      (arrow_part_second d X Y f U V g gf gg m) in
      let z = arrow_part_at d whole (length XU.sings) (length YV.sings) (0 + length X.sings + length U.sings) (0 + length Y.sings + length V.sings)
      W h (omega arith) (omega arith) (arrow_part_second d XU YV fg W Z h gfg gh a) in
      let yz = arrow_part_sum d U V g W Z h gg gh n whole (0 + length X.sings) (0 + length Y.sings) y z in
      let all = arrow_part_sum d X Y f UW VZ gh' gf ggh b whole 0 0 x yz in
      let D : Dia (suc d) = diagram_sum d XU W in
      same_arrow_parts d whole 0 0 D (diagram_sum d YV Z) (arrow_sum d f gh') whole
      (good_along (suc d) _ _ _ _ (arrow_sum d f gh') from to (good_arrow_sum d X Y f UW VZ gh' gf ggh b))
      (good_arrow_sum d XU YV fg W Z h gfg gh a)
      (subst (λ (T : Dia (suc d)). IsArrowPart d whole 0 0 T (arrow_sum d f gh')) from all) (arrow_whole d D whole)
