-- All ranks of an order in which no class reaches itself, and that an order has an answer.
use Rattle.std.proofs.Common.{◌≡◌, ℕ, zero, suc, ◌<◌, ◌≤◌, List, [], length, get_or, refl, sym, ap, ◌∙◌, arith, inl, inr}
use Rattle.std.specs.Prelude.{◌⊎◌}
use Rattle.std.specs.List.{Contains}
use Rattle.diagram_terms.specs.declared.place.Bias.{Bias}
use Rattle.diagram_terms.specs.declared.place.Bias.TheVariants.{Unbiased, Earlier, Later}
use Rattle.diagram_terms.specs.Dual.{tab}
use Rattle.diagram_terms.proofs.Duals.{length-tab, get-tab}
use Rattle.diagram_terms.specs.HeightClasses.{HeightShape, Member, member, IsMember, IsHeightShape, AreJoined, itself, Reaches}
use Rattle.diagram_terms.specs.OrderFaults.{IsAcyclic, OrderFault, cyclic, unsettled, IsOrderFault}
use Rattle.diagram_terms.specs.Ranks.{Ranks, ranks_of, rank_at, IsRanked}
use Rattle.colimit_laws.proofs.Finite.{without, in_without, without-less}
use Rattle.colimit_laws.proofs.DecidedClasses.{members, in_members, from_members, decide_joined}
use Rattle.colimit_laws.proofs.OrderFaults.{first_cycle, first_apart}
use Rattle.colimit_laws.proofs.Available.{AreGiven, best, all_ranked}
use Rattle.colimit_laws.proofs.Ranking.{moved, given_next, unranked-before}

module _ (b : Bias) (H : HeightShape) (vH : IsHeightShape H) where
  -- ---- all ranks

  record Given : Type 0 where
    value : Member → ℕ
    count : ℕ
    given : AreGiven b H vH value count
    all : (p : Member) → IsMember H p → value p < count

  -- the members without a rank are among us, of which there are at most n
  give : IsAcyclic H → (n : ℕ) (f : Member → ℕ) (k : ℕ) → AreGiven b H vH f k → (us : List Member)
      → ((m : Member) → IsMember H m → f m ≡ k → Contains us m) → length us ≤ n → Given
  give acyclic zero f k g us among l = elim (best b H vH f k g) [
    | inr none ↦ record { value = f; count = k; given = g; all = all_ranked b H vH f k g acyclic (λ p m a. none p (in_members H p m) a) }
    | inl s ↦ absurd (let c = among s.0 (from_members H s.0 s.1.among) s.1.holds.unranked in let h = c.1 in omega arith)
  ]
  give acyclic (suc n) f k g us among l = elim (best b H vH f k g) [
    | inr none ↦ record { value = f; count = k; given = g; all = all_ranked b H vH f k g acyclic (λ p m a. none p (in_members H p m) a) }
    | inl s ↦ (
        let p : Member = s.0 in
        let less = without-less (AreJoined H p) (decide_joined H p) us p itself (among p (from_members H p s.1.among) s.1.holds.unranked) in
        give acyclic n (moved b H vH f k g p s.1) (suc k) (given_next b H vH f k g p s.1) (without (AreJoined H p) (decide_joined H p) us)
        (λ m mm e. let u = unranked-before b H vH f k g p s.1 m mm e in in_without (AreJoined H p) (decide_joined H p) us m u.1 (among m mm u.0))
        (omega arith))
  ]

  none_given : AreGiven b H vH (λ m. 0) 0
  none_given = record {
    joined = λ p q mp mq j. refl;
    one_class = λ p q mp mq e l. absurd (omega arith);
    within = λ p m. omega arith;
    onto = λ j l. absurd (omega arith);
    available = λ p q mp mq r l. absurd (omega arith);
    chosen = λ p q mp mq l free. absurd (omega arith);
  }

  all_given : IsAcyclic H → Given
  all_given acyclic = give acyclic (length (members H)) (λ m. 0) 0 none_given (members H) (λ m mm e. in_members H m mm) (omega arith)

  -- ---- as lists

  module _ (acyclic : IsAcyclic H) where
    v : Member → ℕ
    v = (all_given acyclic).value

    abbrev row : ℕ → List ℕ
    row x = tab (λ i. v (member x i)) (get_or H.lengths x 0)

    abbrev given_ranks : Ranks
    given_ranks = record { ranks = tab row (length H.lengths); count = (all_given acyclic).count }

    row-at : (x : ℕ) → x < length H.lengths → ranks_of given_ranks x ≡ row x
    row-at x l = get-tab row (length H.lengths) x [] l

    rank-is : (p : Member) → IsMember H p → rank_at given_ranks p ≡ v p
    rank-is p m = ap (λ (hs : List ℕ). get_or hs p.height 0) (row-at p.object m.object)
        ∙ get-tab (λ i. v (member p.object i)) (get_or H.lengths p.object 0) p.height 0 m.height

    given_ranks-ranked : (b ≡ Unbiased → (p q : Member) → IsMember H p → IsMember H q → (AreJoined H p q → ⊥) → Reaches H p q ⊎ Reaches H q p)
        → IsRanked b H given_ranks
    unfolding v
    given_ranks-ranked settled =
        let g = (all_given acyclic).given in
        let all = (all_given acyclic).all in
        record {
          acyclic = acyclic;
          settled = settled;
          rows = length-tab row (length H.lengths);
          columns = λ x l. ap length (row-at x l) ∙ length-tab (λ i. v (member x i)) (get_or H.lengths x 0);
          below = λ p m. let e = rank-is p m in let l = all p m in omega arith;
          onto = λ k l.
              let o = g.onto k l in
              let n = length-tab row (length H.lengths) in
              let m = o.1 in
              let lo = m.object in
              let lh = m.height in
              let w : length (ranks_of given_ranks o.0.object) ≡ get_or H.lengths o.0.object 0 =
              ap length (row-at o.0.object lo) ∙ length-tab (λ i. v (member o.0.object i)) (get_or H.lengths o.0.object 0) in
              record { object = o.0.object; height = o.0.height; within_objects = omega arith; within = omega arith; ranked = rank-is o.0 m ∙ o.2 };
          one_rank = λ p q mp mq j. rank-is p mp ∙ g.joined p q mp mq j ∙ sym (rank-is q mq);
          one_class = λ p q mp mq e. g.one_class p q mp mq (sym (rank-is p mp) ∙ e ∙ rank-is q mq) (all p mp);
          available = λ p q mp mq r.
              let a = rank-is p mp in
              let c = rank-is q mq in
              let l = g.available p q mp mq r (all q mq) in
              omega arith;
          chosen = λ p q mp mq l free.
              let a = rank-is p mp in
              let c = rank-is q mq in
              g.chosen p q mp mq (omega arith) (λ t mt r. let e = rank-is t mt in let h = free t mt r in omega arith);
        }

pub order_ranks : (b : Bias) (H : HeightShape) (vH : IsHeightShape H) → IsAcyclic H
    → (b ≡ Unbiased → (p q : Member) → IsMember H p → IsMember H q → (AreJoined H p q → ⊥) → Reaches H p q ⊎ Reaches H q p)
    → (r : Ranks) × IsRanked b H r
order_ranks b H vH acyclic settled = (given_ranks b H vH acyclic, given_ranks-ranked b H vH acyclic settled)

-- ---- an order has an answer

abbrev OrderAnswer : Bias → HeightShape → Type 0
OrderAnswer b H = ((r : Ranks) × IsRanked b H r) ⊎ ((e : OrderFault) × IsOrderFault b H e)

-- a cycle is answered first, then what is unsettled without a bias, and else ranks
acyclic_answer : (b : Bias) (H : HeightShape) (vH : IsHeightShape H) → IsAcyclic H → OrderAnswer b H
acyclic_answer Unbiased H vH acyclic = elim (first_apart H vH) [
  | inl a ↦ inr (unsettled a.0 a.1, (refl, acyclic, a.2))
  | inr settled ↦ inl (order_ranks Unbiased H vH acyclic (λ e. settled))
]
acyclic_answer Earlier H vH acyclic = inl (order_ranks Earlier H vH acyclic (λ e. cc))
acyclic_answer Later H vH acyclic = inl (order_ranks Later H vH acyclic (λ e. cc))

pub order_answer : (b : Bias) (H : HeightShape) → IsHeightShape H → OrderAnswer b H
order_answer b H vH = elim (first_cycle H vH) [
  | inl c ↦ inr (cyclic c.0, c.1)
  | inr acyclic ↦ acyclic_answer b H vH acyclic
]
