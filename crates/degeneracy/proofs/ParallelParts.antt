-- The parallel part of an arrow of the shape of a degeneracy is parallel, so the parts of the arrow are those into which it
-- splits.
use Rattle.std.proofs.Common.{◌≡◌, ℕ, suc, ◌-◌, ◌<◌, ◌≤◌, List, length, get_or, sym, ap, ◌∙◌, subst, arith, inl, inr}
use Rattle.diagram_terms.specs.Family.{Dia, Arr, reg, sing, fwd, height, arrow_reg, arrow_sing}
use Rattle.diagram_terms.specs.Dual.{IsIncreasing, IsMonotone, AreBelow, upto, dual}
use Rattle.diagram_terms.specs.Composite.{comp}
use Rattle.diagram_terms.specs.Valid.{ValidArrow, Valid, Commutes}
use Rattle.diagram_terms.specs.Degeneracy.{ParallelArrow, Degeneracy, DegeneracyByShape, SplitsInto}
use Rattle.diagram_terms.proofs.Duals.{length-upto, dual-upto, get-upto, mono-upto, below-upto}
use Rattle.diagram_terms.proofs.Squares.{last_at}
use Rattle.map_laws.proofs.ValidParts.{dual_within, height_within}
use Rattle.map_laws.proofs.ValidComposites.{composites_are_valid}
use Rattle.map_laws.proofs.Neutral.{neutral_before}
use Rattle.degeneracy_laws.proofs.SplitParts.{middle, simple_part, parallel_part, middle-sings_len, middle-reg, parallel_part-heights, parallel_part-regs, parallel_part-reg, parallel_part-sings_len, hit_or_missed}
use Rattle.degeneracy_laws.proofs.Splits.{middle_valid, simple_part_is_simple, parts_compose, shape_means_degeneracy}

module _ (d : ℕ) (X Y : Dia (suc d)) (f : Arr (suc d))
    (vX : Valid (suc d) X) (vY : Valid (suc d) Y) (v : ValidArrow (suc d) X Y f) (s : IsIncreasing f.heights) where
  abbrev M : Dia (suc d)
  M = middle d X Y f

  abbrev P : Arr (suc d)
  P = parallel_part d X Y f

  from_reg : (k : ℕ) → Valid d (reg d X (dual f.heights k))
  from_reg k = vX.regs _ (dual_within d X Y f v k)

  parallel_part-dual : (k : ℕ) → k ≤ length Y.sings → dual P.heights k ≡ k
  parallel_part-dual k l = ap (λ (h : List ℕ). dual h k) (parallel_part-heights d X Y f) ∙ dual-upto (length Y.sings) k l

  parallel_part-height : (k : ℕ) → k < length Y.sings → height d P k ≡ k
  parallel_part-height k l = ap (λ (h : List ℕ). get_or h k 0) (parallel_part-heights d X Y f) ∙ get-upto (length Y.sings) k l

  -- the way into Y.s(k) from its left neighbour
  left_way : (k : ℕ) → k < length Y.sings
      → ValidArrow d (reg d X (dual f.heights k)) (sing d Y k) (comp d (fwd d Y k) (arrow_reg d f k))
  left_way k l = composites_are_valid d _ _ _ (arrow_reg d f k) (fwd d Y k) (from_reg k) (vY.regs k (omega arith)) (vY.sings k l)
      (v.regs k (omega arith)) (vY.fwds k l)

  parallel_square : (k : ℕ) → k < length Y.sings → Commutes d M Y P k
  parallel_square k l =
      let q0 = parallel_part-dual k (omega arith) in
      let q1 = parallel_part-dual (suc k) l in
      let r0 = parallel_part-reg d X Y f k in
      let r1 = parallel_part-reg d X Y f (suc k) in
      let sq = v.squares k l in
      let c : ℕ = dual f.heights k in
      elim (hit_or_missed d X Y f v s k l) [
        | inl h ↦ (
            let nx = h.next in
            let f1 = h.fwd_is in
            let b1 = h.bwd_is in
            let s1 = h.part_is in
            let e1 = sq.first (omega arith) in
            let e2 = last_at sq c (omega arith) (omega arith) in
            record {
              empty = λ e. absurd (omega arith);
              first = λ p. cc;
              last = λ p. let ik : dual P.heights (suc k) - 1 ≡ k = omega arith in cc;
              inner = λ i p e. absurd (omega arith);
            })
        | inr m ↦ (
            let nx = m.missed in
            let f1 = m.fwd_is in
            let b1 = m.bwd_is in
            let s1 = m.part_is in
            let e1 = sq.empty nx in
            let u = neutral_before d _ _ (comp d (fwd d Y k) (arrow_reg d f k)) (from_reg k) (left_way k l) in
            record {
              empty = λ e. absurd (omega arith);
              first = λ p. cc;
              last = λ p. let ik : dual P.heights (suc k) - 1 ≡ k = omega arith in cc;
              inner = λ i p e. absurd (omega arith);
            })
      ]

  parallel_valid : ValidArrow (suc d) M Y P
  parallel_valid =
      let hs = parallel_part-heights d X Y f in
      let n = middle-sings_len d X Y f in
      record {
        heights_len = ap length hs ∙ length-upto (length Y.sings) ∙ sym n;
        regs_len = ap length (parallel_part-regs d X Y f) ∙ v.regs_len;
        sings_len = parallel_part-sings_len d X Y f ∙ sym n;
        monotone = subst IsMonotone (sym hs) (mono-upto (length Y.sings));
        below = subst (λ (h : List ℕ). AreBelow h (length Y.sings)) (sym hs) (below-upto (length Y.sings));
        regs = λ j l. rw (parallel_part-dual j l, middle-reg d X Y f j l, parallel_part-reg d X Y f j) (v.regs j l);
        sings = λ k l.
            let lk : k < length Y.sings = omega arith in
            elim (hit_or_missed d X Y f v s k lk) [
              | inl h ↦ rw (parallel_part-height k lk, h.sing_is, h.part_is)
                  (subst (λ (m : ℕ). ValidArrow d (sing d X (dual f.heights k)) (sing d Y m) (arrow_sing d f (dual f.heights k)))
                  h.goes (v.sings _ h.within))
              | inr m ↦ rw (parallel_part-height k lk, m.sing_is, m.part_is) (left_way k lk)
            ];
        squares = parallel_square;
      }

-- ---- where f has the shape of a degeneracy

module _ (d : ℕ) (X Y : Dia (suc d)) (f : Arr (suc d))
    (vX : Valid (suc d) X) (vY : Valid (suc d) Y) (q : DegeneracyByShape (suc d) X Y f) where
  parallel_part_is_parallel : ParallelArrow d (Degeneracy d) (middle d X Y f) Y (parallel_part d X Y f)
  parallel_part_is_parallel =
      let v = q.valid in
      let n = middle-sings_len d X Y f in
      let from = from_reg d X Y f vX vY v q.increasing in
      record {
        valid = parallel_valid d X Y f vX vY v q.increasing;
        one_length = n;
        heights = parallel_part-heights d X Y f ∙ ap upto (sym n);
        regs = λ j l. rw (middle-reg d X Y f j l, parallel_part-reg d X Y f j) (shape_means_degeneracy d _ _ (arrow_reg d f j) (from j) (vY.regs j l) (q.regs j l));
        sings = λ k l.
            let lk : k < length Y.sings = omega arith in
            elim (hit_or_missed d X Y f v q.increasing k lk) [
              | inl h ↦ rw (h.sing_is, h.part_is)
                  (subst (λ (m : ℕ). Degeneracy d (sing d X (dual f.heights k)) (sing d Y m) (arrow_sing d f (dual f.heights k))) h.goes
                  (shape_means_degeneracy d _ _ (arrow_sing d f (dual f.heights k)) (vX.sings _ h.within)
                  (vY.sings _ (height_within d X Y f v _ h.within)) (q.sings _ h.within)))
              | inr m ↦ rw (m.sing_is, m.part_is)
                  (shape_means_degeneracy d _ _ (comp d (fwd d Y k) (arrow_reg d f k)) (from k) (vY.sings k lk) (q.missed_fwds k lk m.missed))
            ];
      }

  pub shape_splits : SplitsInto d X Y f (middle d X Y f) (simple_part d X Y f) (parallel_part d X Y f)
  shape_splits = record {
    middle = middle_valid d X Y f vX vY q.valid q.increasing;
    simple = simple_part_is_simple d X Y f vX vY q.valid q.increasing;
    parallel = parallel_part_is_parallel;
    composite = parts_compose d X Y f vX vY q.valid q.increasing;
  }
