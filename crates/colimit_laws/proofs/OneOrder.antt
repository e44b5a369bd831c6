-- An order gives one answer: its ranks, or one fault.
use Rattle.std.proofs.Common.{◌≡◌, ℕ, zero, suc, ◌<◌, ◌≤◌, [], length, sym, ap, ap₂, subst, arith, inl, inr}
use Rattle.std.proofs.lemmas.Bool.{cases_lt}
use Rattle.std.proofs.lemmas.List.{ext_get_or}
use Rattle.diagram_terms.specs.declared.place.Bias.{Bias}
use Rattle.diagram_terms.proofs.Duals.{same_numbers}
use Rattle.diagram_terms.specs.HeightClasses.{HeightShape, Member, member, IsMember, IsBefore, IsHeightShape, Reaches, IsLeastMember}
use Rattle.diagram_terms.specs.OrderFaults.{IsFirstCycle, IsFirstApart, OrderFault, cyclic, unsettled, IsOrderFault}
use Rattle.diagram_terms.specs.Ranks.{HasLesserKey, Ranks, ranks_of, rank_at, IsRanked}
use Rattle.colimit_laws.proofs.OrderRanks.{ranked_member}
use Rattle.colimit_laws.proofs.Order.{same_unless_before, joined-sym, lesser-asym}

-- ---- ranks

module _ (b : Bias) (H : HeightShape) (vH : IsHeightShape H) where
  -- the ranks below k of r are those of s
  abbrev AgreeBelow : Ranks → Ranks → ℕ → Type 0
  AgreeBelow r s k = (p : Member) → IsMember H p → (rank_at r p < k → rank_at s p ≡ rank_at r p) × (rank_at s p < k → rank_at r p ≡ rank_at s p)

  module _ (r s : Ranks) (rr : IsRanked b H r) (rs : IsRanked b H s) (k : ℕ) (agree : AgreeBelow r s k) where
    -- the class of rank k in r does not come after that of rank k in s, by the keys
    less : (p q : Member) → IsMember H p → IsMember H q → rank_at r p ≡ k → rank_at s q ≡ k → k < rank_at r q → HasLesserKey b H p q
    less p q mp mq ep eq l = rr.chosen p q mp mq (omega arith) (λ t mt h.
        let up : rank_at s t < rank_at s q = rs.available t q mt mq h in
        let e = (agree t mt).1 (omega arith) in
        omega arith)

  same_class : (r s : Ranks) (rr : IsRanked b H r) (rs : IsRanked b H s) (k : ℕ) (agree : AgreeBelow r s k) → AgreeBelow s r k
      → (p q : Member) → IsMember H p → IsMember H q → rank_at r p ≡ k → rank_at s q ≡ k → rank_at r q ≡ k
  same_class r s rr rs k agree back p q mp mq ep eq =
      let lq : k ≤ rank_at r q = elim (cases_lt (rank_at r q) k) [
        | inl l ↦ absurd (let e = (agree q mq).0 l in omega arith)
        | inr l ↦ l
      ] in
      let lp : k ≤ rank_at s p = elim (cases_lt (rank_at s p) k) [
        | inl l ↦ absurd (let e = (agree p mp).1 l in omega arith)
        | inr l ↦ l
      ] in
      elim (cases_lt k (rank_at r q)) [
        | inr l ↦ omega arith
        | inl l ↦ elim (cases_lt k (rank_at s p)) [
          | inl m ↦ absurd (lesser-asym b H p q (less r s rr rs k agree p q mp mq ep eq l) (less s r rs rr k back q p mq mp eq ep m))
          | inr m ↦ (
              let same : rank_at s p ≡ rank_at s q = omega arith in
              let e = rr.one_rank p q mp mq (rs.one_class p q mp mq same) in
              omega arith)
        ]
      ]

  flip : (r s : Ranks) (k : ℕ) → AgreeBelow r s k → AgreeBelow s r k
  flip r s k agree p mp = ((agree p mp).1, (agree p mp).0)

  -- if r takes the rank k, the members of that rank in s have it in r
  module _ (r s : Ranks) (rr : IsRanked b H r) (rs : IsRanked b H s) where
    agree_step : (k : ℕ) → AgreeBelow r s k → k < r.count → (q : Member) → IsMember H q → rank_at s q ≡ k → rank_at r q ≡ k
    agree_step k agree l q mq eq =
        let p = ranked_member b H vH r rr k (rr.onto k l) in
        same_class r s rr rs k agree (flip r s k agree) p.0 q p.1 mq p.2 eq

  -- the ranks below k agree, so there is a member of rank k in r if there is one in s
  same_count : (r s : Ranks) → IsRanked b H r → IsRanked b H s → (k : ℕ) → AgreeBelow r s k → (q : Member) → IsMember H q → rank_at s q ≡ k → k < r.count
  same_count r s rr rs k agree q mq eq =
      elim (cases_lt k r.count) [
        | inl l ↦ l
        | inr l ↦ absurd (
            let under = rr.below q mq in
            let e = (agree q mq).0 (omega arith) in
            omega arith)
      ]

  agree_below : (r s : Ranks) → IsRanked b H r → IsRanked b H s → (k : ℕ) → AgreeBelow r s k
  agree_below r s rr rs zero p mp = (λ l. absurd (omega arith), λ l. absurd (omega arith))
  agree_below r s rr rs (suc k) p mp =
      let ih = agree_below r s rr rs k in
      let at : (rank_at s p ≡ k → rank_at r p ≡ k) × (rank_at r p ≡ k → rank_at s p ≡ k) = (
        λ e. agree_step r s rr rs k ih (same_count r s rr rs k ih p mp e) p mp e,
        λ e. agree_step s r rs rr k (flip r s k ih) (same_count s r rs rr k (flip r s k ih) p mp e) p mp e,
      ) in (
        λ l. elim (cases_lt (rank_at r p) k) [
          | inl m ↦ (ih p mp).0 m
          | inr m ↦ (let e : rank_at r p ≡ k = omega arith in let f = at.1 e in omega arith)
        ],
        λ l. elim (cases_lt (rank_at s p) k) [
          | inl m ↦ (ih p mp).1 m
          | inr m ↦ (let e : rank_at s p ≡ k = omega arith in let f = at.0 e in omega arith)
        ],
      )

  module _ (r s : Ranks) (rr : IsRanked b H r) (rs : IsRanked b H s) where
    same_rank : (p : Member) → IsMember H p → rank_at r p ≡ rank_at s p
    same_rank p mp = sym ((agree_below r s rr rs (suc (rank_at r p)) p mp).0 (omega arith))

    counts_up : r.count ≤ s.count
    counts_up = elim (cases_lt s.count r.count) [
      | inr l ↦ l
      | inl l ↦ absurd (
          let p = ranked_member b H vH r rr s.count (rr.onto s.count l) in
          let e = same_rank p.0 p.1 in
          let under = rs.below p.0 p.1 in
          let at = p.2 in
          omega arith)
    ]

  pub one_ranking : (r s : Ranks) → IsRanked b H r → IsRanked b H s → r ≡ s
  one_ranking r s rr rs =
      let up = counts_up r s rr rs in
      let down = counts_up s r rs rr in
      let count : r.count ≡ s.count = omega arith in
      let n = rr.rows in
      let m = rs.rows in
      let rows : r.ranks ≡ s.ranks = ext_get_or [] r.ranks s.ranks (omega arith) (λ x l.
      let lx : x < length H.lengths = omega arith in
      let u = rr.columns x lx in
      let v = rs.columns x lx in
      same_numbers (ranks_of r x) (ranks_of s x) (omega arith) (λ i li.
      same_rank r s rr rs (member x i) (record { object = lx; height = omega arith }))) in
      λ i. record { ranks = rows i; count = count i }

-- ---- faults

module _ (b : Bias) (H : HeightShape) where
  pub no_fault_if_ranked : (r : Ranks) (e : OrderFault) → IsRanked b H r → IsOrderFault b H e → ⊥
  no_fault_if_ranked r (cyclic p) rk f = rk.acyclic p f.least.is_member f.cycle
  no_fault_if_ranked r (unsettled p q) rk f =
      let a = f.2.apart in
      elim (rk.settled f.0 p q a.one.is_member a.other.is_member
      (λ j. a.other.least p a.one.is_member (joined-sym H p q j) a.smaller)) [
        | inl up ↦ a.not_up up
        | inr down ↦ a.not_down down
      ]

  pub one_order_fault : (e f : OrderFault) → IsOrderFault b H e → IsOrderFault b H f → e ≡ f
  one_order_fault (cyclic p) (cyclic q) e f =
      ap cyclic (same_unless_before p q (e_first q p f.first e) (e_first p q e.first f))
    where
      e_first : (s t : Member) → ((u : Member) → IsLeastMember H u → Reaches H u u → IsBefore u s → ⊥) → IsFirstCycle H t → IsBefore t s → ⊥
      e_first s t h c l = h t c.least c.cycle l
  one_order_fault (cyclic p) (unsettled s t) e f = absurd (f.1 p e.least.is_member e.cycle)
  one_order_fault (unsettled p q) (cyclic s) e f = absurd (e.1 s f.least.is_member f.cycle)
  one_order_fault (unsettled p q) (unsettled s t) e f =
      let one : p ≡ s = same_unless_before p s (λ l. f.2.first p q e.2.apart l) (λ l. e.2.first s t f.2.apart l) in
      let at_s : IsFirstApart H s q = subst (λ (u : Member). IsFirstApart H u q) one e.2 in
      let other : q ≡ t = same_unless_before q t (λ l. f.2.second q at_s.apart l) (λ l. at_s.second t f.2.apart l) in
      ap₂ unsettled one other
