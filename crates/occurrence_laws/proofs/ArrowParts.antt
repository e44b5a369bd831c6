-- Arrows that are parts of others: from them follow the equations between segments and sums of plain arrows.
use Rattle.std.proofs.Common.{◌≡◌, ℕ, suc, ◌+◌, ◌<◌, ◌≤◌, length, subst, sym, ap, ap₂, ◌∙◌, arith}
use Rattle.diagram_terms.specs.Family.{Dia, Arr, height, arrow_sing}
use Rattle.diagram_terms.specs.Dual.{dual}
use Rattle.diagram_terms.specs.Composite.{comp, ident}
use Rattle.diagram_terms.specs.Cone.{source, target}
use Rattle.diagram_terms.proofs.Parts.{comp-height, comp-sing, ident-height, ident-sing}
use Rattle.diagram_terms.specs.Good.{GoodArrow}
use Rattle.diagram_terms.specs.Segments.{segment, diagram_sum, arrow_sum, arrow_segment}
use Rattle.occurrence_laws.proofs.ListParts.{by_parts}
use Rattle.occurrence_laws.proofs.GoodParts.{same_good_arrows, good_within}
use Rattle.occurrence_laws.proofs.SegmentParts.{segment-length}
use Rattle.occurrence_laws.proofs.SumParts.{sum-length}
use Rattle.occurrence_laws.proofs.DiagramParts.{IsPart}
use Rattle.occurrence_laws.proofs.ArrowSums.{sum-height_first, sum-height_second, sum-arrow_sing_first, sum-arrow_sing_second}
use Rattle.occurrence_laws.proofs.ArrowSegments.{segment-height, segment-arrow_sing, low_high, high_within}

-- f, which goes out of X, is the part of h from the height p of its source and the height q of its target on
pub record IsArrowPart (d : ℕ) (h : Arr (suc d)) (p q : ℕ) (X : Dia (suc d)) (f : Arr (suc d)) : Type 0 where
  pub heights : (i : ℕ) → i < length X.sings → height d h (p + i) ≡ q + height d f i
  pub sings : (i : ℕ) → i < length X.sings → arrow_sing d h (p + i) ≡ arrow_sing d f i

module _ (d : ℕ) where
  -- two such parts between the same diagrams are equal
  pub same_arrow_parts : (h : Arr (suc d)) (p q : ℕ) (X Y : Dia (suc d)) (f g : Arr (suc d)) → GoodArrow (suc d) X Y f → GoodArrow (suc d) X Y g
      → IsArrowPart d h p q X f → IsArrowPart d h p q X g → f ≡ g
  same_arrow_parts h p q X Y f g gf gg x y =
      same_good_arrows d X Y f g gf gg
      (λ i l. let a = x.heights i l in let b = y.heights i l in omega arith)
      (λ i l. sym (x.sings i l) ∙ y.sings i l)

  pub arrow_part_at : (h : Arr (suc d)) (p q p' q' : ℕ) (X : Dia (suc d)) (f : Arr (suc d)) → p ≡ p' → q ≡ q'
      → IsArrowPart d h p q X f → IsArrowPart d h p' q' X f
  arrow_part_at h p q p' q' X f e e' x =
      subst (λ (k : ℕ). IsArrowPart d h p' k X f) e' (subst (λ (k : ℕ). IsArrowPart d h k q X f) e x)

  -- an arrow is a part of itself, and a segment is one
  pub arrow_whole : (X : Dia (suc d)) (f : Arr (suc d)) → IsArrowPart d f 0 0 X f
  arrow_whole X f =
      let e : (j : ℕ) → 0 + j ≡ j = λ j. omega arith in
      record {
        heights = λ i l. ap (height d f) (e i) ∙ sym (e (height d f i));
        sings = λ i l. ap (arrow_sing d f) (e i);
      }

  pub part_arrow_segment : (X Y : Dia (suc d)) (f : Arr (suc d)) → GoodArrow (suc d) X Y f → (a b : ℕ) → a ≤ b → b ≤ length Y.sings
      → IsArrowPart d f (dual f.heights a) a (segment d X (dual f.heights a) (dual f.heights b)) (arrow_segment d f a b)
  part_arrow_segment X Y f g a b l m =
      let u = low_high d X Y f g a b l m in
      let v = high_within d X Y f g a b l m in
      let n = segment-length d X (dual f.heights a) (dual f.heights b) u v in
      record {
        heights = λ i h. sym (segment-height d X Y f g a b l m i (omega arith));
        sings = λ i h. sym (segment-arrow_sing d X Y f g a b l m i (omega arith));
      }

  -- identities and composites of parts are parts
  pub part_identity : (Z : Dia (suc d)) (p : ℕ) (X : Dia (suc d)) → IsPart d Z p X → IsArrowPart d (ident (suc d) Z) p p X (ident (suc d) X)
  part_identity Z p X x =
      let f = x.fits in
      record {
        heights = λ i l. ident-height d Z (p + i) (omega arith) ∙ ap (λ (n : ℕ). p + n) (sym (ident-height d X i l));
        sings = λ i l. ident-sing d Z (p + i) (omega arith) ∙ ap (ident d) (x.sings i l) ∙ sym (ident-sing d X i l);
      }

  -- where f is a part of h, out of A, and g one of k
  pub part_composite : (A B : Dia (suc d)) (h k : Arr (suc d)) (p q r : ℕ) (X Y : Dia (suc d)) (f g : Arr (suc d))
      → GoodArrow (suc d) A B h → GoodArrow (suc d) X Y f → p + length X.sings ≤ length A.sings
      → IsArrowPart d h p q X f → IsArrowPart d k q r Y g → IsArrowPart d (comp (suc d) k h) p r X (comp (suc d) g f)
  part_composite A B h k p q r X Y f g gh gf fits x y =
      let hl = gh.valid.heights_len in
      let hs = gh.valid.sings_len in
      let fl = gf.valid.heights_len in
      let fs = gf.valid.sings_len in
      record {
        heights = λ i l.
            comp-height d k h (p + i) (omega arith) ∙ ap (height d k) (x.heights i l)
            ∙ y.heights (height d f i) (good_within d X Y f gf i l) ∙ ap (λ (n : ℕ). r + n) (sym (comp-height d g f i (omega arith)));
        sings = λ i l.
            comp-sing d k h (p + i) (omega arith)
            ∙ ap₂ (comp d) (ap (arrow_sing d k) (x.heights i l) ∙ y.sings (height d f i) (good_within d X Y f gf i l)) (x.sings i l)
            ∙ sym (comp-sing d g f i (omega arith));
      }

  -- ---- sums

  module _ (X Y : Dia (suc d)) (f : Arr (suc d)) (V W : Dia (suc d)) (g : Arr (suc d))
      (gf : GoodArrow (suc d) X Y f) (gg : GoodArrow (suc d) V W g) (meet : target d X ≡ source d V) where
    pub arrow_part_first : IsArrowPart d (arrow_sum d f g) 0 0 X f
    arrow_part_first =
        let e : (j : ℕ) → 0 + j ≡ j = λ j. omega arith in
        record {
          heights = λ i l. ap (height d (arrow_sum d f g)) (e i) ∙ sum-height_first d X Y f V W g gf gg meet i l ∙ sym (e (height d f i));
          sings = λ i l. ap (arrow_sing d (arrow_sum d f g)) (e i) ∙ sum-arrow_sing_first d X Y f V W g gf gg meet i l;
        }

    pub arrow_part_second : IsArrowPart d (arrow_sum d f g) (length X.sings) (length Y.sings) V g
    arrow_part_second = record {
      heights = λ i l. sum-height_second d X Y f V W g gf gg meet i l;
      sings = λ i l. sum-arrow_sing_second d X Y f V W g gf gg meet i;
    }

    -- the sum of parts that follow one another is a part
    pub arrow_part_sum : (h : Arr (suc d)) (p q : ℕ) → IsArrowPart d h p q X f
        → IsArrowPart d h (p + length X.sings) (q + length Y.sings) V g → IsArrowPart d h p q (diagram_sum d X V) (arrow_sum d f g)
    arrow_part_sum h p q x y =
        let n : ℕ = length X.sings in
        let m : ℕ = length Y.sings in
        let S : Arr (suc d) = arrow_sum d f g in
        let t = sum-length d X V in
        let e : (i : ℕ) → p + (n + i) ≡ p + n + i = λ i. omega arith in
        let e' : (i : ℕ) → q + m + i ≡ q + (m + i) = λ i. omega arith in
        record {
          heights = λ i l. by_parts (λ i. height d h (p + i) ≡ q + height d S i) n (length V.sings)
              (λ i b. x.heights i b ∙ ap (λ (k : ℕ). q + k) (sym (sum-height_first d X Y f V W g gf gg meet i b)))
              (λ i b. ap (height d h) (e i) ∙ y.heights i b ∙ e' (height d g i)
              ∙ ap (λ (k : ℕ). q + k) (sym (sum-height_second d X Y f V W g gf gg meet i b)))
              i (omega arith);
          sings = λ i l. by_parts (λ i. arrow_sing d h (p + i) ≡ arrow_sing d S i) n (length V.sings)
              (λ i b. x.sings i b ∙ sym (sum-arrow_sing_first d X Y f V W g gf gg meet i b))
              (λ i b. ap (arrow_sing d h) (e i) ∙ y.sings i b ∙ sym (sum-arrow_sing_second d X Y f V W g gf gg meet i))
              i (omega arith);
        }

  -- a part of a part is a part
  pub arrow_part_within : (h : Arr (suc d)) (p q : ℕ) (X : Dia (suc d)) (f : Arr (suc d)) (r t : ℕ) (W : Dia (suc d)) (g : Arr (suc d))
      → r + length W.sings ≤ length X.sings → IsArrowPart d h p q X f → IsArrowPart d f r t W g → IsArrowPart d h (p + r) (q + t) W g
  arrow_part_within h p q X f r t W g l x w =
      let e : (j : ℕ) → p + r + j ≡ p + (r + j) = λ j. omega arith in
      record {
        heights = λ i b.
            let a = x.heights (r + i) (omega arith) in
            let c = w.heights i b in
            let u = ap (height d h) (e i) in
            omega arith;
        sings = λ i b. ap (arrow_sing d h) (e i) ∙ x.sings (r + i) (omega arith) ∙ w.sings i b;
      }
