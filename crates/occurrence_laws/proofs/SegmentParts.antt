-- The parts of a segment of a diagram, which is valid and plain if the diagram is.
use Rattle.std.proofs.Common.{◌≡◌, ℕ, suc, ◌+◌, ◌-◌, ◌<◌, ◌≤◌, length, ap, ◌∙◌, arith}
use Rattle.diagram_terms.specs.Family.{Dia, no_dia, no_arr, reg, sing, fwd, bwd}
use Rattle.diagram_terms.specs.Plain.{Plain}
use Rattle.diagram_terms.specs.Valid.{Valid}
use Rattle.diagram_terms.specs.Cone.{source, target}
use Rattle.diagram_terms.specs.Good.{GoodDiagram}
use Rattle.diagram_terms.specs.Segments.{segment}
use Rattle.occurrence_laws.proofs.ListParts.{length-range, get-range}
use Rattle.occurrence_laws.proofs.GoodParts.{good_reg, good_sing, good_fwd, good_bwd}

module _ (d : ℕ) (X : Dia (suc d)) (a b : ℕ) where
  pub segment-reg : (j : ℕ) → a + j ≤ b → reg d (segment d X a b) j ≡ reg d X (a + j)
  unfolding segment
  segment-reg j l = get-range X.regs a (suc b) j (no_dia d) (omega arith)

  pub segment-sing : (i : ℕ) → a + i < b → sing d (segment d X a b) i ≡ sing d X (a + i)
  unfolding segment
  segment-sing i l = get-range X.sings a b i (no_dia d) l

  pub segment-fwd : (k : ℕ) → a + k < b → fwd d (segment d X a b) k ≡ fwd d X (a + k)
  unfolding segment
  segment-fwd k l = get-range X.fwds a b k (no_arr d) l

  pub segment-bwd : (k : ℕ) → a + k < b → bwd d (segment d X a b) k ≡ bwd d X (a + k)
  unfolding segment
  segment-bwd k l = get-range X.bwds a b k (no_arr d) l

  pub segment-next : (k : ℕ) → a + k < b → reg d (segment d X a b) (suc k) ≡ reg d X (suc (a + k))
  segment-next k l =
      let e : a + suc k ≡ suc (a + k) = omega arith in
      segment-reg (suc k) (omega arith) ∙ ap (reg d X) e

  module _ (l : a ≤ b) (m : b ≤ length X.sings) where
    pub segment-length : length (segment d X a b).sings ≡ b - a
    unfolding segment
    segment-length = length-range X.sings a b l m

    pub segment-source : source d (segment d X a b) ≡ reg d X a
    segment-source = let e : a + 0 ≡ a = omega arith in segment-reg 0 (omega arith) ∙ ap (reg d X) e

    pub segment-target : target d (segment d X a b) ≡ reg d X b
    segment-target =
        let e : a + (b - a) ≡ b = omega arith in
        ap (reg d (segment d X a b)) segment-length ∙ segment-reg (b - a) (omega arith) ∙ ap (reg d X) e

    regs_long : Valid (suc d) X → length (segment d X a b).regs ≡ suc (b - a)
    unfolding segment
    regs_long v = let r = v.regs_len in let e = length-range X.regs a (suc b) (omega arith) (omega arith) in omega arith

    fwds_long : Valid (suc d) X → length (segment d X a b).fwds ≡ b - a
    unfolding segment
    fwds_long v = let r = v.fwds_len in length-range X.fwds a b l (omega arith)

    bwds_long : Valid (suc d) X → length (segment d X a b).bwds ≡ b - a
    unfolding segment
    bwds_long v = let r = v.bwds_len in length-range X.bwds a b l (omega arith)

    -- its slices and legs are those of X
    pub valid_segment : Valid (suc d) X → Valid (suc d) (segment d X a b)
    valid_segment v =
        let n = segment-length in
        record {
          regs_len = let r = regs_long v in omega arith;
          fwds_len = let r = fwds_long v in omega arith;
          bwds_len = let r = bwds_long v in omega arith;
          regs = λ j h. rw (segment-reg j (omega arith)) (v.regs (a + j) (omega arith));
          sings = λ i h. rw (segment-sing i (omega arith)) (v.sings (a + i) (omega arith));
          fwds = λ k h. rw (segment-reg k (omega arith), segment-sing k (omega arith), segment-fwd k (omega arith)) (v.fwds (a + k) (omega arith));
          bwds = λ k h. rw (segment-next k (omega arith), segment-sing k (omega arith), segment-bwd k (omega arith)) (v.bwds (a + k) (omega arith));
        }

    plain_segment : GoodDiagram (suc d) X → Plain (suc d) (segment d X a b)
    plain_segment g =
        let n = segment-length in
        let r = regs_long g.valid in
        let f = fwds_long g.valid in
        let b = bwds_long g.valid in
        record {
          regs = λ j h. rw (segment-reg j (omega arith)) (good_reg d X g (a + j) (omega arith)).plain;
          sings = λ i h. rw (segment-sing i (omega arith)) (good_sing d X g (a + i) (omega arith)).plain;
          fwds = λ k h. rw (segment-fwd k (omega arith)) (good_fwd d X g (a + k) (omega arith)).plain;
          bwds = λ k h. rw (segment-bwd k (omega arith)) (good_bwd d X g (a + k) (omega arith)).plain;
        }

    pub good_segment : GoodDiagram (suc d) X → GoodDiagram (suc d) (segment d X a b)
    good_segment g = record { valid = valid_segment g.valid; plain = plain_segment g }
