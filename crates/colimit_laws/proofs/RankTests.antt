-- The program that gives ranks one after the other gives those of the order.
use Rattle.std.proofs.Common.{◌≡◌, ℕ, zero, suc, ◌<◌, ◌≤◌, Bool, true, false, not, ◌||◌, nat_eq, nat_lt, List, [], length, get_or, refl, sym, ap, ◌∙◌, arith, inl, inr}
use Rattle.std.specs.Prelude.{◌⊎◌, Option, Some, None}
use Rattle.std.specs.List.{Contains}
use Rattle.std.proofs.lemmas.Bool.{cases_Bool, cases_lt, cond-true, cond-false}
use Rattle.std.proofs.lemmas.List.{ext_get_or}
use Rattle.diagram_terms.specs.declared.place.Bias.{Bias}
use Rattle.diagram_terms.specs.Dual.{tab}
use Rattle.diagram_terms.proofs.Duals.{length-tab, get-tab, same_numbers}
use Rattle.diagram_terms.specs.HeightClasses.{HeightShape, Member, member, IsMember, IsHeightShape, AreJoined, itself, Reaches}
use Rattle.diagram_terms.specs.Ranks.{key, HasLesserKey, Ranks, ranks_of, rank_at, IsRanked}
use Rattle.colimit_laws.proofs.Order.{before-irrefl, before-trans}
use Rattle.colimit_laws.proofs.Finite.{without, in_without, without-less}
use Rattle.colimit_laws.proofs.DecidedClasses.{decide_joined}
use Rattle.colimit_laws.proofs.OrderRanks.{ranked_member}
use Rattle.diagram_terms.specs.RankProgram.{members_of, is_before, in_one_class, Giving, give_next, is_available, next_member, with_rank, given_to, give, rank_rows, ranks_given}
use Rattle.colimit_laws.proofs.Tests.{Tells, tells_and, tells_or, tells_not, tells_all, tells_number, tells_less, tells_before, LeastOf, least_of}
use Rattle.colimit_laws.proofs.ClassTests.{in_members_of, from_members_of}

module _ (b : Bias) (H : HeightShape) (vH : IsHeightShape H) (class : Member → Member) (joined : (p q : Member) → Tells (in_one_class H class p q) (AreJoined H p q))
    (reach : Member → Member → Bool) (reaches : (p q : Member) → Tells (reach p q) (Reaches H p q)) (r : Ranks) (rk : IsRanked b H r) where
  -- value is the rank below k, and k for all others
  record AreGiven (value : Member → ℕ) (k : ℕ) : Type 0 where
    within : k ≤ r.count
    ranked : (m : Member) → IsMember H m → rank_at r m < k → value m ≡ rank_at r m
    rest : (m : Member) → IsMember H m → k ≤ rank_at r m → value m ≡ k

  module _ (value : Member → ℕ) (k : ℕ) (given : AreGiven value k) where
    -- a value is below k only where the rank is
    has_rank : (m : Member) → IsMember H m → value m < k → rank_at r m < k
    has_rank m mm l = elim (cases_lt (rank_at r m) k) [
      | inl h ↦ h
      | inr h ↦ absurd (let e = given.rest m mm h in omega arith)
    ]

    -- and is k only where it is not
    no_rank : (m : Member) → IsMember H m → value m ≡ k → k ≤ rank_at r m
    no_rank m mm e = elim (cases_lt (rank_at r m) k) [
      | inl h ↦ absurd (let f = given.ranked m mm h in omega arith)
      | inr h ↦ h
    ]

    abbrev IsAvailable : Member → Type 0
    IsAvailable p = (value p ≡ k) × ((t : Member) → Contains (members_of H) t → (Reaches H t p → ⊥) ⊎ (value t < k))

    tells_available : (p : Member) → Tells (is_available b H class reach value k p) (IsAvailable p)
    unfolding is_available
    tells_available p = tells_and (tells_number (value p) k)
        (tells_all (λ t. (Reaches H t p → ⊥) ⊎ (value t < k)) (λ t. not (reach t p) || nat_lt (value t) k) (members_of H)
        (λ t. tells_or (tells_not (reaches t p)) (tells_less (value t) k)))

    -- a member of the rank k is available
    available : (q : Member) → IsMember H q → rank_at r q ≡ k → IsAvailable q
    available q mq e = (
      given.rest q mq (omega arith),
      λ t c. elim (cases_lt (value t) k) [
        | inl l ↦ inr l
        | inr l ↦ inl (λ h.
            let mt = from_members_of H t c in
            let a = rk.available t q mt mq h in
            let f = given.ranked t mt (omega arith) in
            omega arith)
      ],
    )

    abbrev by_key : Member → Member → Bool
    by_key p q = is_before (key b H p) (key b H q)

    by_key-irreflexive : (p : Member) → by_key p p ≡ true → ⊥
    by_key-irreflexive p e = before-irrefl (key b H p) ((tells_before (key b H p) (key b H p)).yes e)

    by_key-transitive : (p q t : Member) → by_key p q ≡ true → by_key q t ≡ true → by_key p t ≡ true
    by_key-transitive p q t u v = (tells_before (key b H p) (key b H t)).no
        (before-trans (key b H p) (key b H q) (key b H t) ((tells_before (key b H p) (key b H q)).yes u) ((tells_before (key b H q) (key b H t)).yes v))

    abbrev Next : Option Member → Type 0
    Next o = LeastOf by_key (is_available b H class reach value k) by_key-irreflexive by_key-transitive (members_of H) o

    next : Next (next_member b H class reach value k)
    unfolding next_member
    next = least_of by_key (is_available b H class reach value k) by_key-irreflexive by_key-transitive (members_of H)

    -- if no member is available, all have a rank
    all_have : Next None → r.count ≤ k
    all_have none = elim (cases_lt k r.count) [
      | inr l ↦ l
      | inl l ↦ (
          let q = ranked_member b H vH r rk k (rk.onto k l) in
          absurd (none q.0 (in_members_of H q.0 q.1) ((tells_available q.0).no (available q.0 q.1 q.2))))
    ]

    module _ (p : Member) (least : Next (Some p)) where
      mp : IsMember H p
      mp = from_members_of H p least.among

      free : IsAvailable p
      free = (tells_available p).yes least.passes

      -- what reaches p has a rank below k
      reaching : (t : Member) → IsMember H t → Reaches H t p → rank_at r t < k
      reaching t mt h = elim (free.1 t (in_members_of H t mt)) [
        | inl n ↦ absurd (n h)
        | inr l ↦ has_rank t mt l
      ]

      -- no member of the rank k has a lesser key
      not_lesser : (q : Member) → IsMember H q → rank_at r q ≡ k → HasLesserKey b H q p → ⊥
      not_lesser q mq e l =
          let u : Member = l.least in
          let f = rk.one_rank q u mq l.is_member l.joined in
          least.least u (in_members_of H u l.is_member) ((tells_available u).no (available u l.is_member (sym f ∙ e)))
          ((tells_before (key b H u) (key b H p)).no (l.below p mp itself))

      -- the next member has the rank k
      next-rank : rank_at r p ≡ k
      next-rank =
          let low = no_rank p mp free.0 in
          let under = rk.below p mp in
          let q = ranked_member b H vH r rk k (rk.onto k (omega arith)) in
          let e : rank_at r q.0 ≡ k = q.2 in
          elim (cases_lt k (rank_at r p)) [
            | inr l ↦ omega arith
            | inl l ↦ absurd (not_lesser q.0 q.1 e (rk.chosen q.0 p q.1 mp (omega arith) (λ t mt h. let a = reaching t mt h in omega arith)))
          ]

      -- ---- one rank more

      abbrev now : Member → ℕ
      now = given_to b H class reach p value k

      now-joined : (m : Member) → IsMember H m → rank_at r m ≡ k → now m ≡ k
      now-joined m mm e =
          let j = rk.one_class p m mp mm (next-rank ∙ sym e) in
          ap (λ (s : Bool). with_rank b H class reach k s (value m)) ((joined p m).no j)

      now-apart : (m : Member) → IsMember H m → (rank_at r m ≡ k → ⊥) → now m ≡ with_rank b H class reach k false (value m)
      now-apart m mm n = elim (cases_Bool (in_one_class H class p m)) [
        | inl e ↦ absurd (let s = rk.one_rank p m mp mm ((joined p m).yes e) in n (sym s ∙ next-rank))
        | inr e ↦ ap (λ (s : Bool). with_rank b H class reach k s (value m)) e
      ]

      given_more : AreGiven now (suc k)
      given_more = record {
        within = let under = rk.below p mp in let e = next-rank in omega arith;
        ranked = λ m mm l. elim (cases_lt (rank_at r m) k) [
          | inl h ↦ (
              let v = given.ranked m mm h in
              now-apart m mm (λ e. omega arith) ∙ cond-false (nat_eq (value m) k) (suc k) (value m) (other (value m) (omega arith)) ∙ v)
          | inr h ↦ (let e : rank_at r m ≡ k = omega arith in now-joined m mm e ∙ sym e)
        ];
        rest = λ m mm l.
            let v = given.rest m mm (omega arith) in
            now-apart m mm (λ e. omega arith) ∙ cond-true (nat_eq (value m) k) (suc k) (value m) ((tells_number (value m) k).no v);
      }
        where
          other : (v : ℕ) → v < k → nat_eq v k ≡ false
          other v l = elim (cases_Bool (nat_eq v k)) [
            | inl e ↦ absurd (let f = (tells_number v k).yes e in omega arith)
            | inr e ↦ e
          ]

  -- ---- all ranks

  record IsAll (g : Giving) : Type 0 where
    count : g.count ≡ r.count
    value : (m : Member) → IsMember H m → g.value m ≡ rank_at r m

  all_given : (value : Member → ℕ) (k : ℕ) → AreGiven value k → r.count ≤ k → IsAll (record { value = value; count = k })
  all_given value k g l = let w = g.within in record {
    count = omega arith;
    value = λ m mm. g.ranked m mm (let u = rk.below m mm in omega arith);
  }

  -- the members without a rank are among us, of which there are at most n
  abbrev GivesAll : ℕ → Type 0
  GivesAll n = (value : Member → ℕ) (k : ℕ) → AreGiven value k → (us : List Member)
      → ((m : Member) → IsMember H m → k ≤ rank_at r m → Contains us m) → length us ≤ n → IsAll (give b H class reach n value k)

  give-more : (n : ℕ) (value : Member → ℕ) (k : ℕ) (g : AreGiven value k) (us : List Member)
      → ((m : Member) → IsMember H m → k ≤ rank_at r m → Contains us m) → length us ≤ suc n → GivesAll n
      → (o : Option Member) → Next value k g o
      → IsAll (give_next o (record { value = value; count = k }) (λ p. give b H class reach n (given_to b H class reach p value k) (suc k)))
  give-more n value k g us among l ih None none = all_given value k g (all_have value k g none)
  give-more n value k g us among l ih (Some p) s =
      let e = next-rank value k g p s in
      let m = mp value k g p s in
      let less = without-less (AreJoined H p) (decide_joined H p) us p itself (among p m (omega arith)) in
      ih (given_to b H class reach p value k) (suc k) (given_more value k g p s) (without (AreJoined H p) (decide_joined H p) us)
      (λ t mt u. in_without (AreJoined H p) (decide_joined H p) us t (λ j. let f = rk.one_rank p t m mt j in omega arith) (among t mt (omega arith)))
      (omega arith)

  give-all : (n : ℕ) → GivesAll n
  unfolding give
  give-all zero value k g us among l = all_given value k g (elim (cases_lt k r.count) [
    | inr h ↦ h
    | inl h ↦ absurd (
        let q = ranked_member b H vH r rk k (rk.onto k h) in
        let e = q.2 in
        let c = among q.0 q.1 (omega arith) in
        let m = c.1 in
        omega arith)
  ])
  give-all (suc n) value k g us among l =
      give-more n value k g us among l (give-all n) (next_member b H class reach value k) (next value k g)

  none_given : AreGiven (λ m. 0) 0
  none_given = record { within = omega arith; ranked = λ m mm l. absurd (omega arith); rest = λ m mm l. refl }

  same_ranks : (g : Giving) → IsAll g → rank_rows b H class reach g ≡ r
  same_ranks g all =
      let row : ℕ → List ℕ = λ x. tab (λ i. g.value (member x i)) (get_or H.lengths x 0) in
      let n = rk.rows in
      let m = length-tab row (length H.lengths) in
      let rows : tab row (length H.lengths) ≡ r.ranks = ext_get_or [] (tab row (length H.lengths)) r.ranks (omega arith) (λ x l.
      let lx : x < length H.lengths = omega arith in
      let c = rk.columns x lx in
      let w = length-tab (λ i. g.value (member x i)) (get_or H.lengths x 0) in
      get-tab row (length H.lengths) x [] lx
      ∙ same_numbers (row x) (ranks_of r x) (omega arith) (λ i li.
      let lh : i < get_or H.lengths x 0 = omega arith in
      get-tab (λ i. g.value (member x i)) (get_or H.lengths x 0) i 0 lh
      ∙ all.value (member x i) (record { object = lx; height = lh }))) in
      let count = all.count in
      λ i. record { ranks = rows i; count = count i }

  pub ranks_found : ranks_given b H class reach ≡ r
  unfolding ranks_given
  ranks_found = same_ranks (give b H class reach (length (members_of H)) (λ m. 0) 0)
      (give-all (length (members_of H)) (λ m. 0) 0 none_given (members_of H) (λ m mm l. in_members_of H m mm) (omega arith))
