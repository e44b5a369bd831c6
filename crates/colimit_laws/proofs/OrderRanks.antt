-- The ranks of an order are ranks as a colimit needs them, and where there is no bias they are settled.
use Rattle.std.proofs.Common.{◌≡◌, ℕ, suc, ◌-◌, ◌<◌, ◌≤◌, length, get_or, sym, ◌∙◌, subst, arith, inl, inr, refl}
use Rattle.std.specs.List.{Contains}
use Rattle.std.proofs.lemmas.Bool.{cases_lt}
use Rattle.diagram_terms.specs.declared.place.Bias.{Bias}
use Rattle.diagram_terms.specs.declared.place.Bias.TheVariants.{Unbiased}
use Rattle.diagram_terms.specs.Dual.{IsMonotone, after}
use Rattle.diagram_terms.proofs.Duals.{length-after, get-after, same_numbers}
use Rattle.diagram_terms.proofs.Injections.{mono_from_steps}
use Rattle.diagram_terms.specs.HeightClasses.{HeightShape, HeightMap, Member, member, IsMember, IsHeightShape, AreJoined, itself, ahead, ComesBefore, Reaches, at_once, further}
use Rattle.diagram_terms.specs.Ranks.{Ranks, ranks_of, rank, rank_at, HasRank, IsRanked}
use Rattle.colimit_laws.specs.RankConditions.{HasStep, AreRanks, AreSettled}
use Rattle.colimit_laws.proofs.Order.{member-before, source-member, target-member, before-member}

module _ (b : Bias) (H : HeightShape) (vH : IsHeightShape H) (r : Ranks) (rk : IsRanked b H r) where
  member_of : (x i : ℕ) → x < length H.lengths → i < length (ranks_of r x) → IsMember H (member x i)
  member_of x i l m = record { object = l; height = (let n = rk.columns x l in omega arith) }

  -- ranks do not fall from one height to the next
  rank-step : (x i : ℕ) → IsMember H (member x (suc i)) → rank r x i ≤ rank r x (suc i)
  rank-step x i m =
      let p : Member = member x i in
      let q : Member = member x (suc i) in
      let mp = member-before H x i m in
      elim (cases_lt (rank r x (suc i)) (rank r x i)) [
        | inr l ↦ l
        | inl l ↦ absurd (
            let apart : AreJoined H p q → ⊥ = λ j. let e = rk.one_rank p q mp m j in omega arith in
            let up = rk.available p q mp m (at_once q (record { object = x; height = i; within = m; first = itself; next = itself; different = apart })) in
            omega arith)
      ]

  ranks-monotone : (x : ℕ) → x < length H.lengths → IsMonotone (ranks_of r x)
  ranks-monotone x l = mono_from_steps (ranks_of r x) (λ k some m.
      let e : suc (k - 1) ≡ k = omega arith in
      let s = rank-step x (k - 1) (member_of x (suc (k - 1)) l (omega arith)) in
      subst (λ (n : ℕ). rank r x (k - 1) ≤ rank r x n) e s)

  ranks-constant : (m : HeightMap) → Contains H.maps m → after (ranks_of r m.to) m.heights ≡ ranks_of r m.from
  ranks-constant m c =
      let v = vH m c in
      let n = v.heights_len in
      let k = rk.columns m.from v.from in
      let e = length-after (ranks_of r m.to) m.heights in
      same_numbers (after (ranks_of r m.to) m.heights) (ranks_of r m.from) (omega arith) (λ i l.
      let li : i < length m.heights = omega arith in
      get-after (ranks_of r m.to) m.heights i li
      ∙ sym (rk.one_rank (member m.from i) (member m.to (get_or m.heights i 0)) (source-member H vH m c i li) (target-member H vH m c i li) (ahead m c i li itself)))

  pub ranks-of_order : AreRanks H r
  ranks-of_order = record {
    rows = rk.rows;
    columns = rk.columns;
    monotone = ranks-monotone;
    below = λ x l. record { below = λ i m. rk.below (member x i) (member_of x i l m) };
    constant = ranks-constant;
    onto = rk.onto;
    linked = rk.one_class;
  }

  -- ---- without a bias

  -- a member of some rank
  pub ranked_member : (k : ℕ) → HasRank r k → (p : Member) × IsMember H p × (rank_at r p ≡ k)
  ranked_member k h =
      let n = rk.rows in
      let lo = h.within_objects in
      let l : h.object < length H.lengths = omega arith in
      (member h.object h.height, member_of h.object h.height l h.within, h.ranked)

  -- along a step from one class to another the rank rises
  step-rises : (p q : Member) → ComesBefore H p q → rank_at r p < rank_at r q
  step-rises p q c = let m = before-member H vH p q c in rk.available p q m.0 m.1 (at_once q c)

  reach-target : (p q : Member) → Reaches H p q → IsMember H q
  reach-target p q (at_once t c) = (before-member H vH p t c).1
  reach-target p q (further t u h c) = (before-member H vH t u c).1

  -- a chain from a class to that of the next rank is one step
  one_step : (k : ℕ) (p q : Member) → IsMember H p → rank_at r p ≡ k → rank_at r q ≡ suc k → Reaches H p q → ComesBefore H p q
  one_step k p q mp ep eq (at_once t c) = c
  one_step k p q mp ep eq (further t u h c) = absurd (
      let a = step-rises t u c in
      let e = rk.available p t mp (reach-target p t h) h in
      omega arith)

  step-of : (k : ℕ) (p q : Member) → IsMember H p → IsMember H q → rank_at r p ≡ k → rank_at r q ≡ suc k → ComesBefore H p q → HasStep r k
  step-of k p q mp mq ep eq c =
      let low = rk.one_rank p (member c.object c.height) mp (member-before H c.object c.height c.within) c.first in
      let high = rk.one_rank q (member c.object (suc c.height)) mq c.within c.next in
      let n = rk.rows in
      let w = c.within in
      let wo = w.object in
      let wh = w.height in
      let m = rk.columns c.object wo in
      record {
        object = c.object;
        height = c.height;
        within_objects = omega arith;
        within = omega arith;
        low = sym low ∙ ep;
        high = sym high ∙ eq;
      }

  pub settled-order : b ≡ Unbiased → AreSettled r
  settled-order none k l =
      let p = ranked_member k (rk.onto k (omega arith)) in
      let q = ranked_member (suc k) (rk.onto (suc k) l) in
      let ep = p.2 in
      let eq = q.2 in
      elim (rk.settled none p.0 q.0 p.1 q.1 (λ j. let e = rk.one_rank p.0 q.0 p.1 q.1 j in omega arith)) [
        | inl up ↦ step-of k p.0 q.0 p.1 q.1 p.2 q.2 (one_step k p.0 q.0 p.1 p.2 q.2 up)
        | inr down ↦ absurd (let a = rk.available q.0 p.0 q.1 p.1 down in omega arith)
      ]

-- ranks without a bias are those under every bias
pub ranks-any_bias : (b : Bias) (H : HeightShape) (r : Ranks) → IsRanked Unbiased H r → IsRanked b H r
ranks-any_bias b H r rk = record {
  acyclic = rk.acyclic;
  settled = λ none. rk.settled refl;
  rows = rk.rows;
  columns = rk.columns;
  below = rk.below;
  onto = rk.onto;
  one_rank = rk.one_rank;
  one_class = rk.one_class;
  available = rk.available;
  -- no later class was available: that of the rank reaches it
  chosen = λ p q mp mq l free. elim (rk.settled refl p q mp mq (λ j. let e = rk.one_rank p q mp mq j in omega arith)) [
    | inl up ↦ absurd (let a = free p mp up in omega arith)
    | inr down ↦ absurd (let a = rk.available q p mq mp down in omega arith)
  ];
}
