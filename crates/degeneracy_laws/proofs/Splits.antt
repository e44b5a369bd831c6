-- A valid arrow whose heights strictly increase is its simple part followed by its parallel part. So an arrow of the
-- shape of a degeneracy is one.
use Rattle.std.proofs.Common.{◌≡◌, ℕ, zero, suc, ◌-◌, ◌<◌, ◌≤◌, List, length, get_or, refl, sym, ap, ◌∙◌, subst, arith, inl, inr}
use Rattle.diagram_terms.specs.Family.{Dia, Arr, reg, sing, fwd, bwd, height, arrow_reg, arrow_sing}
use Rattle.diagram_terms.specs.Dual.{IsIncreasing, IsMonotone, AreBelow, upto, dual, after}
use Rattle.diagram_terms.specs.Composite.{comp, ident}
use Rattle.diagram_terms.specs.Valid.{ValidArrow, Valid, Commutes}
use Rattle.diagram_terms.specs.Degeneracy.{SimpleArrow, ParallelArrow, SimpleOrParallel, Chain, Degeneracy, DegeneracyByShape, SplitsInto}
use Rattle.diagram_terms.specs.Degeneracy.Chain.{none, more}
use Rattle.diagram_terms.proofs.Duals.{length-upto, dual-upto, get-upto, mono-upto, below-upto, upto-after}
use Rattle.diagram_terms.proofs.Injections.{increasing-dual_same, increasing-dual_next}
use Rattle.diagram_terms.proofs.Parts.{comp-heights, comp-regs_len, comp-sings_len, comp-reg, comp-sing, same_arrows}
use Rattle.diagram_terms.proofs.Squares.{last_at}
use Rattle.map_laws.proofs.ValidParts.{dual_within, height_within}
use Rattle.map_laws.proofs.ValidComposites.{composites_are_valid}
use Rattle.map_laws.proofs.ValidIdentities.{identities_are_valid}
use Rattle.map_laws.proofs.Neutral.{neutral_after, neutral_before}
use Rattle.map_laws.proofs.IdentityShapes.{identities_have_shape}
use Rattle.degeneracy_laws.specs.Laws.{ShapeMeansDegeneracy, DegeneraciesSplit}
use Rattle.degeneracy_laws.proofs.Shapes.{degeneracy_ends, degeneracies_have_shape}
use Rattle.degeneracy_laws.proofs.SplitParts.{at_hit-yes, middle, simple_part, parallel_part, middle-regs_len, middle-sings_len, middle-fwds_len, middle-bwds_len, middle-reg, middle-sing, simple_part-heights, simple_part-regs_len, simple_part-sings_len, simple_part-reg, simple_part-sing, parallel_part-heights, parallel_part-regs, parallel_part-reg, parallel_part-sings_len, parallel_part-sing, IsMissed, hit_or_missed}

module _ (d : ℕ) (X Y : Dia (suc d)) (f : Arr (suc d))
    (vX : Valid (suc d) X) (vY : Valid (suc d) Y) (v : ValidArrow (suc d) X Y f) (s : IsIncreasing f.heights) where
  abbrev M : Dia (suc d)
  M = middle d X Y f

  abbrev S : Arr (suc d)
  S = simple_part d X Y f

  abbrev P : Arr (suc d)
  P = parallel_part d X Y f

  from_reg : (k : ℕ) → Valid d (reg d X (dual f.heights k))
  from_reg k = vX.regs _ (dual_within d X Y f v k)

  -- ---- the middle

  pub middle_valid : Valid (suc d) M
  middle_valid =
      let n = middle-sings_len d X Y f in
      record {
        regs_len = middle-regs_len d X Y f ∙ ap suc (sym n);
        fwds_len = middle-fwds_len d X Y f ∙ sym n;
        bwds_len = middle-bwds_len d X Y f ∙ sym n;
        regs = λ j l. rw (middle-reg d X Y f j (omega arith)) (from_reg j);
        sings = λ k l. elim (hit_or_missed d X Y f v s k (omega arith)) [
          | inl h ↦ rw h.sing_is (vX.sings _ h.within)
          | inr m ↦ rw m.sing_is (from_reg k)
        ];
        fwds = λ k l. elim (hit_or_missed d X Y f v s k (omega arith)) [
          | inl h ↦ rw (middle-reg d X Y f k (omega arith), h.sing_is, h.fwd_is) (vX.fwds _ h.within)
          | inr m ↦ rw (middle-reg d X Y f k (omega arith), m.sing_is, m.fwd_is) (identities_are_valid d _ (from_reg k))
        ];
        bwds = λ k l. elim (hit_or_missed d X Y f v s k (omega arith)) [
          | inl h ↦ rw (middle-reg d X Y f (suc k) (omega arith), h.sing_is, h.bwd_is, h.next) (vX.bwds _ h.within)
          | inr m ↦ rw (middle-reg d X Y f (suc k) (omega arith), m.sing_is, m.bwd_is, ← m.missed)
              (identities_are_valid d _ (from_reg k))
        ];
      }

  -- ---- the simple part

  simple_part-dual : (k : ℕ) → dual S.heights k ≡ dual f.heights k
  simple_part-dual k = ap (λ (h : List ℕ). dual h k) (simple_part-heights d X Y f)

  simple_square : (k : ℕ) → k < length Y.sings → Commutes d X M S k
  simple_square k l =
      let d0 = simple_part-dual k in
      let d1 = simple_part-dual (suc k) in
      let r0 = simple_part-reg d X Y f k (omega arith) in
      let r1 = simple_part-reg d X Y f (suc k) l in
      elim (hit_or_missed d X Y f v s k l) [
        | inl h ↦ (
            let c : ℕ = dual f.heights k in
            let lc = h.within in
            let nx = h.next in
            let f1 = h.fwd_is in
            let b1 = h.bwd_is in
            let s1 = simple_part-sing d X Y f c lc in
            let vs = vX.sings c lc in
            let uf1 = neutral_before d _ _ (fwd d X c) (vX.regs c (omega arith)) (vX.fwds c lc) in
            let uf2 = neutral_after d _ _ (fwd d X c) vs (vX.fwds c lc) in
            let ub1 = neutral_before d _ _ (bwd d X c) (vX.regs (suc c) lc) (vX.bwds c lc) in
            let ub2 = neutral_after d _ _ (bwd d X c) vs (vX.bwds c lc) in
            record {
              empty = λ e. absurd (omega arith);
              first = λ p. cc;
              last = λ p. let ic : dual S.heights (suc k) - 1 ≡ c = omega arith in cc;
              inner = λ i p e. absurd (omega arith);
            })
        | inr m ↦ (
            let nx = m.missed in
            let f1 = m.fwd_is in
            let b1 = m.bwd_is in
            record {
              empty = λ e. cc;
              first = λ p. absurd (omega arith);
              last = λ p. absurd (omega arith);
              inner = λ i p e. absurd (omega arith);
            })
      ]

  simple_valid : ValidArrow (suc d) X M S
  simple_valid =
      let hs = simple_part-heights d X Y f in
      let n = middle-sings_len d X Y f in
      record {
        heights_len = ap length hs ∙ v.heights_len;
        regs_len = simple_part-regs_len d X Y f ∙ ap suc (sym n);
        sings_len = simple_part-sings_len d X Y f;
        monotone = subst IsMonotone (sym hs) v.monotone;
        below = subst (λ (h : List ℕ). AreBelow h (length M.sings)) (sym hs) (subst (AreBelow f.heights) (sym n) v.below);
        regs = λ j l. rw (simple_part-dual j, middle-reg d X Y f j (omega arith), simple_part-reg d X Y f j (omega arith))
            (identities_are_valid d _ (from_reg j));
        sings = λ i l.
            let h0 : height d S i ≡ height d f i = ap (λ (h : List ℕ). get_or h i 0) hs in
            let at = increasing-dual_same f.heights s i (let a = v.heights_len in omega arith) in
            let up = increasing-dual_next f.heights s i (let a = v.heights_len in omega arith) in
            let si : sing d M (height d f i) ≡ sing d X i = middle-sing d X Y f (height d f i) (height_within d X Y f v i l)
            ∙ at_hit-yes f.heights (height d f i) _ _ (omega arith) ∙ ap (sing d X) at in
            rw (h0, si, simple_part-sing d X Y f i l) (identities_are_valid d _ (vX.sings i l));
        squares = λ k l. simple_square k (omega arith);
      }

  pub simple_part_is_simple : SimpleArrow d X M S
  simple_part_is_simple =
      let n = middle-sings_len d X Y f in
      let missed_at : (k : ℕ) → k < length Y.sings → dual S.heights k ≡ dual S.heights (suc k) → IsMissed d X Y f k =
      λ k l e. elim (hit_or_missed d X Y f v s k l) [
        | inl h ↦ absurd (let d0 = simple_part-dual k in let d1 = simple_part-dual (suc k) in let nx = h.next in omega arith)
        | inr m ↦ m
      ] in
      record {
        valid = simple_valid;
        increasing = subst IsIncreasing (sym (simple_part-heights d X Y f)) s;
        regs = λ j l. rw (simple_part-reg d X Y f j (omega arith)) (identities_have_shape d _ (from_reg j));
        sings = λ i l. rw (simple_part-sing d X Y f i l) (identities_have_shape d _ (vX.sings i l));
        missed_fwds = λ k l e. rw ((missed_at k (omega arith) e).fwd_is) (identities_have_shape d _ (from_reg k));
        missed_bwds = λ k l e. rw ((missed_at k (omega arith) e).bwd_is) (identities_have_shape d _ (from_reg k));
      }

  -- ---- the parallel part

  parallel_part-dual : (k : ℕ) → k ≤ length Y.sings → dual P.heights k ≡ k
  parallel_part-dual k l = ap (λ (h : List ℕ). dual h k) (parallel_part-heights d X Y f) ∙ dual-upto (length Y.sings) k l

  parallel_part-height : (k : ℕ) → k < length Y.sings → height d P k ≡ k
  parallel_part-height k l = ap (λ (h : List ℕ). get_or h k 0) (parallel_part-heights d X Y f) ∙ get-upto (length Y.sings) k l

  -- the way into Y.s(k) from its left neighbour
  left_way : (k : ℕ) → k < length Y.sings
      → ValidArrow d (reg d X (dual f.heights k)) (sing d Y k) (comp d (fwd d Y k) (arrow_reg d f k))
  left_way k l = composites_are_valid d _ _ _ (arrow_reg d f k) (fwd d Y k) (from_reg k) (vY.regs k (omega arith)) (vY.sings k l)
      (v.regs k (omega arith)) (vY.fwds k l)

  parallel_square : (k : ℕ) → k < length Y.sings → Commutes d M Y P k
  parallel_square k l =
      let q0 = parallel_part-dual k (omega arith) in
      let q1 = parallel_part-dual (suc k) l in
      let r0 = parallel_part-reg d X Y f k in
      let r1 = parallel_part-reg d X Y f (suc k) in
      let sq = v.squares k l in
      let c : ℕ = dual f.heights k in
      elim (hit_or_missed d X Y f v s k l) [
        | inl h ↦ (
            let nx = h.next in
            let f1 = h.fwd_is in
            let b1 = h.bwd_is in
            let s1 = h.part_is in
            let e1 = sq.first (omega arith) in
            let e2 = last_at sq c (omega arith) (omega arith) in
            record {
              empty = λ e. absurd (omega arith);
              first = λ p. cc;
              last = λ p. let ik : dual P.heights (suc k) - 1 ≡ k = omega arith in cc;
              inner = λ i p e. absurd (omega arith);
            })
        | inr m ↦ (
            let nx = m.missed in
            let f1 = m.fwd_is in
            let b1 = m.bwd_is in
            let s1 = m.part_is in
            let e1 = sq.empty nx in
            let u = neutral_before d _ _ (comp d (fwd d Y k) (arrow_reg d f k)) (from_reg k) (left_way k l) in
            record {
              empty = λ e. absurd (omega arith);
              first = λ p. cc;
              last = λ p. let ik : dual P.heights (suc k) - 1 ≡ k = omega arith in cc;
              inner = λ i p e. absurd (omega arith);
            })
      ]

  parallel_valid : ValidArrow (suc d) M Y P
  parallel_valid =
      let hs = parallel_part-heights d X Y f in
      let n = middle-sings_len d X Y f in
      record {
        heights_len = ap length hs ∙ length-upto (length Y.sings) ∙ sym n;
        regs_len = ap length (parallel_part-regs d X Y f) ∙ v.regs_len;
        sings_len = parallel_part-sings_len d X Y f ∙ sym n;
        monotone = subst IsMonotone (sym hs) (mono-upto (length Y.sings));
        below = subst (λ (h : List ℕ). AreBelow h (length Y.sings)) (sym hs) (below-upto (length Y.sings));
        regs = λ j l. rw (parallel_part-dual j l, middle-reg d X Y f j l, parallel_part-reg d X Y f j) (v.regs j l);
        sings = λ k l.
            let lk : k < length Y.sings = omega arith in
            elim (hit_or_missed d X Y f v s k lk) [
              | inl h ↦ rw (parallel_part-height k lk, h.sing_is, h.part_is)
                  (subst (λ (m : ℕ). ValidArrow d (sing d X (dual f.heights k)) (sing d Y m) (arrow_sing d f (dual f.heights k)))
                  h.goes (v.sings _ h.within))
              | inr m ↦ rw (parallel_part-height k lk, m.sing_is, m.part_is) (left_way k lk)
            ];
        squares = parallel_square;
      }

  -- ---- their composite

  pub parts_compose : comp (suc d) P S ≡ f
  parts_compose =
      let c : Arr (suc d) = comp (suc d) P S in
      let hl = v.heights_len in
      let rl = v.regs_len in
      let xl = v.sings_len in
      let pl = ap length (parallel_part-regs d X Y f) in
      let sl = simple_part-sings_len d X Y f in
      let e1 : c.heights ≡ f.heights = comp-heights d P S
      ∙ ap (λ (h : List ℕ). after h S.heights) (parallel_part-heights d X Y f)
      ∙ ap (after (upto (length Y.sings))) (simple_part-heights d X Y f) ∙ upto-after (length Y.sings) f.heights v.below in
      let e2 : length c.regs ≡ length f.regs = comp-regs_len d P S ∙ pl in
      let e3 : length c.sings ≡ length f.sings = comp-sings_len d P S ∙ sl ∙ sym xl in
      same_arrows d c f e1 e2
      (λ k l.
      let lk : k ≤ length Y.sings = omega arith in
      let a1 = comp-reg d P S k (omega arith) in
      let a2 = parallel_part-dual k lk in
      let a3 = parallel_part-reg d X Y f k in
      let a4 = simple_part-reg d X Y f k lk in
      let a5 = neutral_before d _ _ (arrow_reg d f k) (from_reg k) (v.regs k lk) in
      cc)
      e3
      (λ i l.
      let li : i < length X.sings = omega arith in
      let at = increasing-dual_same f.heights s i (omega arith) in
      let up = increasing-dual_next f.heights s i (omega arith) in
      let a1 = comp-sing d P S i (omega arith) in
      let a2 : height d S i ≡ height d f i = ap (λ (h : List ℕ). get_or h i 0) (simple_part-heights d X Y f) in
      let a3 = parallel_part-sing d X Y f (height d f i) (height_within d X Y f v i li) ∙ at_hit-yes f.heights (height d f i) _ _ (omega arith) in
      let a4 = simple_part-sing d X Y f i li in
      let a5 = neutral_before d _ _ (arrow_sing d f i) (vX.sings i li) (v.sings i li) in
      cc)

-- ---- where f has the shape of a degeneracy

module _ (d : ℕ) (ih : ShapeMeansDegeneracy d) (X Y : Dia (suc d)) (f : Arr (suc d))
    (vX : Valid (suc d) X) (vY : Valid (suc d) Y) (q : DegeneracyByShape (suc d) X Y f) where
  parallel_part_is_parallel : ParallelArrow d (Degeneracy d) (middle d X Y f) Y (parallel_part d X Y f)
  parallel_part_is_parallel =
      let v = q.valid in
      let n = middle-sings_len d X Y f in
      let from = from_reg d X Y f vX vY v q.increasing in
      record {
        valid = parallel_valid d X Y f vX vY v q.increasing;
        one_length = n;
        heights = parallel_part-heights d X Y f ∙ ap upto (sym n);
        regs = λ j l. rw (middle-reg d X Y f j l, parallel_part-reg d X Y f j) (ih _ _ (arrow_reg d f j) (from j) (vY.regs j l) (q.regs j l));
        sings = λ k l.
            let lk : k < length Y.sings = omega arith in
            elim (hit_or_missed d X Y f v q.increasing k lk) [
              | inl h ↦ rw (h.sing_is, h.part_is)
                  (subst (λ (m : ℕ). Degeneracy d (sing d X (dual f.heights k)) (sing d Y m) (arrow_sing d f (dual f.heights k))) h.goes
                  (ih _ _ (arrow_sing d f (dual f.heights k)) (vX.sings _ h.within)
                  (vY.sings _ (height_within d X Y f v _ h.within)) (q.sings _ h.within)))
              | inr m ↦ rw (m.sing_is, m.part_is)
                  (ih _ _ (comp d (fwd d Y k) (arrow_reg d f k)) (from k) (vY.sings k lk) (q.missed_fwds k lk m.missed))
            ];
      }

  shape_splits : SplitsInto d X Y f (middle d X Y f) (simple_part d X Y f) (parallel_part d X Y f)
  shape_splits = record {
    middle = middle_valid d X Y f vX vY q.valid q.increasing;
    simple = simple_part_is_simple d X Y f vX vY q.valid q.increasing;
    parallel = parallel_part_is_parallel;
    composite = parts_compose d X Y f vX vY q.valid q.increasing;
  }

-- what splits is the composite of a list of two arrows
split_is_degeneracy : (d : ℕ) (X Y M : Dia (suc d)) (f s p : Arr (suc d)) → Valid (suc d) X → Valid (suc d) Y
    → SplitsInto d X Y f M s p → Degeneracy (suc d) X Y f
split_is_degeneracy d X Y M f s p vX vY q =
    let one : Chain (suc d) (SimpleOrParallel d (Degeneracy d)) X M (comp (suc d) s (ident (suc d) X)) =
    more X X M (ident (suc d) X) s (none X vX) q.middle (inl q.simple) in
    let two : Chain (suc d) (SimpleOrParallel d (Degeneracy d)) X Y (comp (suc d) p (comp (suc d) s (ident (suc d) X))) =
    more X M Y (comp (suc d) s (ident (suc d) X)) p one vY (inr q.parallel) in
    subst (λ (t : Arr (suc d)). Chain (suc d) (SimpleOrParallel d (Degeneracy d)) X Y t)
    (ap (comp (suc d) p) (neutral_before (suc d) X M s vX q.simple.valid) ∙ q.composite) two

pub shape_means_degeneracy : (d : ℕ) → ShapeMeansDegeneracy d
shape_means_degeneracy zero = λ x y f vx vy q. q
shape_means_degeneracy (suc d) = λ X Y f vX vY q.
    split_is_degeneracy d X Y (middle d X Y f) f (simple_part d X Y f) (parallel_part d X Y f) vX vY
    (shape_splits d (shape_means_degeneracy d) X Y f vX vY q)

pub degeneracies_split : (d : ℕ) → DegeneraciesSplit d
degeneracies_split d X Y f c =
    let ends = degeneracy_ends (suc d) X Y f c in (
      middle d X Y f,
      simple_part d X Y f,
      parallel_part d X Y f,
      shape_splits d (shape_means_degeneracy d) X Y f ends.0 ends.1 (degeneracies_have_shape (suc d) X Y f c),
    )
