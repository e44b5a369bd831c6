-- Diagrams that are parts of others: from them follow the equations between segments and sums.
use Rattle.std.proofs.Common.{◌≡◌, ℕ, suc, ◌+◌, ◌<◌, ◌≤◌, length, subst, sym, ap, ◌∙◌, arith}
use Rattle.diagram_terms.specs.Family.{Dia, reg, sing, fwd, bwd}
use Rattle.diagram_terms.specs.Cone.{source, target}
use Rattle.diagram_terms.specs.Good.{GoodDiagram}
use Rattle.diagram_terms.specs.Segments.{segment, diagram_sum}
use Rattle.occurrence_laws.proofs.ListParts.{by_parts, by_parts_to}
use Rattle.occurrence_laws.proofs.GoodParts.{same_valid_diagrams}
use Rattle.occurrence_laws.proofs.SegmentParts.{segment-length, segment-reg, segment-sing, segment-fwd, segment-bwd, good_segment}
use Rattle.occurrence_laws.proofs.SumParts.{sum-length, sum-reg_first, sum-reg_second, sum-sing_first, sum-sing_second, sum-fwd_first, sum-fwd_second, sum-bwd_first, sum-bwd_second, good_sum}

-- X is the part of Z from the regular height p on
pub record IsPart (d : ℕ) (Z : Dia (suc d)) (p : ℕ) (X : Dia (suc d)) : Type 0 where
  pub fits : p + length X.sings ≤ length Z.sings
  pub regs : (j : ℕ) → j ≤ length X.sings → reg d Z (p + j) ≡ reg d X j
  pub sings : (i : ℕ) → i < length X.sings → sing d Z (p + i) ≡ sing d X i
  pub fwds : (k : ℕ) → k < length X.sings → fwd d Z (p + k) ≡ fwd d X k
  pub bwds : (k : ℕ) → k < length X.sings → bwd d Z (p + k) ≡ bwd d X k

module _ (d : ℕ) where
  -- two parts of one length from one height on are equal
  pub same_parts : (Z : Dia (suc d)) (p : ℕ) (X Y : Dia (suc d)) → GoodDiagram (suc d) X → GoodDiagram (suc d) Y
      → length X.sings ≡ length Y.sings → IsPart d Z p X → IsPart d Z p Y → X ≡ Y
  same_parts Z p X Y gX gY l x y =
      same_valid_diagrams d X Y gX.valid gY.valid l
      (λ j h. sym (x.regs j h) ∙ y.regs j (omega arith)) (λ i h. sym (x.sings i h) ∙ y.sings i (omega arith))
      (λ k h. sym (x.fwds k h) ∙ y.fwds k (omega arith)) (λ k h. sym (x.bwds k h) ∙ y.bwds k (omega arith))

  pub part_at : (Z : Dia (suc d)) (p q : ℕ) (X : Dia (suc d)) → p ≡ q → IsPart d Z p X → IsPart d Z q X
  part_at Z p q X e x = subst (λ (k : ℕ). IsPart d Z k X) e x

  -- a diagram is a part of itself, a part of a part is a part, and a segment is one
  pub part_whole : (Z : Dia (suc d)) → IsPart d Z 0 Z
  part_whole Z =
      let e : (j : ℕ) → 0 + j ≡ j = λ j. omega arith in
      record {
        fits = omega arith;
        regs = λ j l. ap (reg d Z) (e j);
        sings = λ i l. ap (sing d Z) (e i);
        fwds = λ k l. ap (fwd d Z) (e k);
        bwds = λ k l. ap (bwd d Z) (e k);
      }

  pub part_within : (Z X W : Dia (suc d)) (p q : ℕ) → IsPart d Z p X → IsPart d X q W → IsPart d Z (p + q) W
  part_within Z X W p q x w =
      let e : (j : ℕ) → p + q + j ≡ p + (q + j) = λ j. omega arith in
      let a = x.fits in
      let b = w.fits in
      record {
        fits = omega arith;
        regs = λ j l. ap (reg d Z) (e j) ∙ x.regs (q + j) (omega arith) ∙ w.regs j l;
        sings = λ i l. ap (sing d Z) (e i) ∙ x.sings (q + i) (omega arith) ∙ w.sings i l;
        fwds = λ k l. ap (fwd d Z) (e k) ∙ x.fwds (q + k) (omega arith) ∙ w.fwds k l;
        bwds = λ k l. ap (bwd d Z) (e k) ∙ x.bwds (q + k) (omega arith) ∙ w.bwds k l;
      }

  pub part_segment : (Z : Dia (suc d)) (a b : ℕ) → a ≤ b → b ≤ length Z.sings → IsPart d Z a (segment d Z a b)
  part_segment Z a b l m =
      let n = segment-length d Z a b l m in
      record {
        fits = omega arith;
        regs = λ j h. sym (segment-reg d Z a b j (omega arith));
        sings = λ i h. sym (segment-sing d Z a b i (omega arith));
        fwds = λ k h. sym (segment-fwd d Z a b k (omega arith));
        bwds = λ k h. sym (segment-bwd d Z a b k (omega arith));
      }

  -- the two parts of a sum
  module _ (X Y : Dia (suc d)) (gX : GoodDiagram (suc d) X) (gY : GoodDiagram (suc d) Y) (meet : target d X ≡ source d Y) where
    pub part_first : IsPart d (diagram_sum d X Y) 0 X
    part_first =
        let e : (j : ℕ) → 0 + j ≡ j = λ j. omega arith in
        let n = sum-length d X Y in
        let Z : Dia (suc d) = diagram_sum d X Y in
        record {
          fits = omega arith;
          regs = λ j l. ap (reg d Z) (e j) ∙ sum-reg_first d X Y gX.valid gY.valid meet j l;
          sings = λ i l. ap (sing d Z) (e i) ∙ sum-sing_first d X Y gX.valid gY.valid meet i l;
          fwds = λ k l. ap (fwd d Z) (e k) ∙ sum-fwd_first d X Y gX.valid gY.valid meet k l;
          bwds = λ k l. ap (bwd d Z) (e k) ∙ sum-bwd_first d X Y gX.valid gY.valid meet k l;
        }

    pub part_second : IsPart d (diagram_sum d X Y) (length X.sings) Y
    part_second =
        let n = sum-length d X Y in
        record {
          fits = omega arith;
          regs = λ j l. sum-reg_second d X Y gX.valid gY.valid meet j;
          sings = λ i l. sum-sing_second d X Y gX.valid gY.valid meet i;
          fwds = λ k l. sum-fwd_second d X Y gX.valid gY.valid meet k;
          bwds = λ k l. sum-bwd_second d X Y gX.valid gY.valid meet k;
        }

  -- parts that follow one another meet, and their sum is a part
  module _ (Z : Dia (suc d)) (p : ℕ) (X Y : Dia (suc d)) (gX : GoodDiagram (suc d) X) (gY : GoodDiagram (suc d) Y)
      (x : IsPart d Z p X) (y : IsPart d Z (p + length X.sings) Y) where
    pub parts_meet : target d X ≡ source d Y
    parts_meet =
        let e : p + length X.sings ≡ p + length X.sings + 0 = omega arith in
        sym (x.regs (length X.sings) (omega arith)) ∙ ap (reg d Z) e ∙ y.regs 0 (omega arith)

    pub part_sum : IsPart d Z p (diagram_sum d X Y)
    part_sum =
        let n = sum-length d X Y in
        let m : ℕ = length X.sings in
        let S : Dia (suc d) = diagram_sum d X Y in
        let e : (j : ℕ) → p + (m + j) ≡ p + m + j = λ j. omega arith in
        let fx = x.fits in
        let fy = y.fits in
        record {
          fits = omega arith;
          regs = λ j l. by_parts_to (λ j. reg d Z (p + j) ≡ reg d S j) m (length Y.sings)
              (λ j h. x.regs j h ∙ sym (sum-reg_first d X Y gX.valid gY.valid parts_meet j h))
              (λ j h. ap (reg d Z) (e j) ∙ y.regs j h ∙ sym (sum-reg_second d X Y gX.valid gY.valid parts_meet j))
              j (omega arith);
          sings = λ i l. by_parts (λ i. sing d Z (p + i) ≡ sing d S i) m (length Y.sings)
              (λ i h. x.sings i h ∙ sym (sum-sing_first d X Y gX.valid gY.valid parts_meet i h))
              (λ i h. ap (sing d Z) (e i) ∙ y.sings i h ∙ sym (sum-sing_second d X Y gX.valid gY.valid parts_meet i))
              i (omega arith);
          fwds = λ k l. by_parts (λ k. fwd d Z (p + k) ≡ fwd d S k) m (length Y.sings)
              (λ k h. x.fwds k h ∙ sym (sum-fwd_first d X Y gX.valid gY.valid parts_meet k h))
              (λ k h. ap (fwd d Z) (e k) ∙ y.fwds k h ∙ sym (sum-fwd_second d X Y gX.valid gY.valid parts_meet k))
              k (omega arith);
          bwds = λ k l. by_parts (λ k. bwd d Z (p + k) ≡ bwd d S k) m (length Y.sings)
              (λ k h. x.bwds k h ∙ sym (sum-bwd_first d X Y gX.valid gY.valid parts_meet k h))
              (λ k h. ap (bwd d Z) (e k) ∙ y.bwds k h ∙ sym (sum-bwd_second d X Y gX.valid gY.valid parts_meet k))
              k (omega arith);
        }

  -- ---- equations

  -- a part is the segment there
  pub part_is_segment : (Z : Dia (suc d)) (a b : ℕ) (X : Dia (suc d)) → GoodDiagram (suc d) Z → GoodDiagram (suc d) X
      → a + length X.sings ≡ b → IsPart d Z a X → segment d Z a b ≡ X
  part_is_segment Z a b X gZ gX e x =
      let f = x.fits in
      let n = segment-length d Z a b (omega arith) (omega arith) in
      same_parts Z a (segment d Z a b) X (good_segment d Z a b (omega arith) (omega arith) gZ) gX (omega arith)
      (part_segment Z a b (omega arith) (omega arith)) x

  pub segment_whole : (X : Dia (suc d)) → GoodDiagram (suc d) X → segment d X 0 (length X.sings) ≡ X
  segment_whole X g = part_is_segment X 0 (length X.sings) X g g (omega arith) (part_whole X)

  pub segments_join : (X : Dia (suc d)) (a b c : ℕ) → GoodDiagram (suc d) X → a ≤ b → b ≤ c → c ≤ length X.sings
      → diagram_sum d (segment d X a b) (segment d X b c) ≡ segment d X a c
  segments_join X a b c g l m h =
      let A : Dia (suc d) = segment d X a b in
      let B : Dia (suc d) = segment d X b c in
      let gA = good_segment d X a b l (omega arith) g in
      let gB = good_segment d X b c m h g in
      let nA = segment-length d X a b l (omega arith) in
      let nB = segment-length d X b c m h in
      let xA = part_segment X a b l (omega arith) in
      let xB = part_at X b (a + length A.sings) B (omega arith) (part_segment X b c m h) in
      let n = sum-length d A B in
      sym (part_is_segment X a c (diagram_sum d A B) g (good_sum d A B gA gB (parts_meet X a A B gA gB xA xB))
      (omega arith) (part_sum X a A B gA gB xA xB))

  -- a part of a whole that has its length is the whole
  pub part_is_whole : (Z X : Dia (suc d)) → GoodDiagram (suc d) Z → GoodDiagram (suc d) X → length X.sings ≡ length Z.sings
      → IsPart d Z 0 X → X ≡ Z
  part_is_whole Z X gZ gX e x = same_parts Z 0 X Z gX gZ e x (part_whole Z)

  pub sums_associate : (X Y Z : Dia (suc d)) → GoodDiagram (suc d) X → GoodDiagram (suc d) Y → GoodDiagram (suc d) Z
      → target d X ≡ source d Y → target d Y ≡ source d Z
      → diagram_sum d X (diagram_sum d Y Z) ≡ diagram_sum d (diagram_sum d X Y) Z
  sums_associate X Y Z gX gY gZ mX mY =
      let XY : Dia (suc d) = diagram_sum d X Y in
      let YZ : Dia (suc d) = diagram_sum d Y Z in
      let nXY = sum-length d X Y in
      let nYZ = sum-length d Y Z in
      let gXY = good_sum d X Y gX gY mX in
      let gYZ = good_sum d Y Z gY gZ mY in
      let m : target d XY ≡ source d Z = ap (reg d XY) nXY ∙ sum-reg_second d X Y gX.valid gY.valid mX (length Y.sings) ∙ mY in
      let W : Dia (suc d) = diagram_sum d XY Z in
      let inW = part_first XY Z gXY gZ m in
      let x = part_within W XY X 0 0 inW (part_first X Y gX gY mX) in
      let y = part_within W XY Y 0 (length X.sings) inW (part_second X Y gX gY mX) in
      let z = part_second XY Z gXY gZ m in
      let y' = part_at W (0 + length X.sings) (0 + 0 + length X.sings) Y (omega arith) y in
      let z' = part_at W (length XY.sings) (0 + 0 + length X.sings + length Y.sings) Z (omega arith) z in
      let yz = part_sum W (0 + 0 + length X.sings) Y Z gY gZ y' z' in
      let n1 = sum-length d X YZ in
      let n2 = sum-length d XY Z in
      part_is_whole W (diagram_sum d X YZ) (good_sum d XY Z gXY gZ m)
      (good_sum d X YZ gX gYZ (mX ∙ sym (sum-reg_first d Y Z gY.valid gZ.valid mY 0 (omega arith)))) (omega arith)
      (part_at W (0 + 0) 0 (diagram_sum d X YZ) (omega arith) (part_sum W (0 + 0) X YZ gX gYZ x yz))

  pub sum_segments : (X Y : Dia (suc d)) → GoodDiagram (suc d) X → GoodDiagram (suc d) Y → target d X ≡ source d Y
      → (segment d (diagram_sum d X Y) 0 (length X.sings) ≡ X)
      × (segment d (diagram_sum d X Y) (length X.sings) (length X.sings + length Y.sings) ≡ Y)
  sum_segments X Y gX gY m =
      let Z : Dia (suc d) = diagram_sum d X Y in
      let gZ = good_sum d X Y gX gY m in
      let n : ℕ = length X.sings in (
        part_is_segment Z 0 n X gZ gX (omega arith) (part_first X Y gX gY m),
        part_is_segment Z n (n + length Y.sings) Y gZ gY (omega arith) (part_second X Y gX gY m),
      )
