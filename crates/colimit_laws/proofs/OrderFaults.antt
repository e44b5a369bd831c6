-- Whether a class reaches itself, and whether two classes do not reach each other, is decided, with the first ones.
use Rattle.std.proofs.Common.{◌≡◌, sym, subst, inl, inr}
use Rattle.std.specs.Prelude.{◌⊎◌}
use Rattle.std.specs.List.{Contains}
use Rattle.diagram_terms.specs.HeightClasses.{HeightShape, Member, IsMember, IsBefore, IsHeightShape, AreJoined, itself, Reaches, IsLeastMember}
use Rattle.diagram_terms.specs.OrderFaults.{AreApart, IsAcyclic, IsFirstCycle, IsFirstApart}
use Rattle.colimit_laws.proofs.Order.{before-irrefl, before-trans, same_unless_before, joined-trans, joined-sym}
use Rattle.colimit_laws.proofs.Finite.{Decided, decide_both, decide_not, least_where, some_where}
use Rattle.colimit_laws.proofs.DecidedClasses.{decide_before, decide_member, members, in_members, from_members, decide_joined, decide_reach, reach-from, reach-to}

module _ (H : HeightShape) (vH : IsHeightShape H) where
  -- ---- a class that reaches itself

  pub first_cycle : ((p : Member) × IsFirstCycle H p) ⊎ IsAcyclic H
  first_cycle = elim (least_where IsBefore (λ p. Reaches H p p) before-irrefl before-trans decide_before (λ p. decide_reach H vH p p) (members H)) [
    | inr none ↦ inr (λ p m r. none p (in_members H p m) r)
    | inl f ↦ (
        let p : Member = f.0 in
        let l = f.1 in
        inl (
          p,
          record {
            least = record {
              is_member = from_members H p l.among;
              least = λ q m j b. l.least q (in_members H q m) (reach-to H q p q j (reach-from H p q p j l.holds)) b;
            };
            cycle = l.holds;
            first = λ q m r b. l.least q (in_members H q m.is_member) r b;
          },
        ))
  ]

  -- ---- least members

  -- a class has a least member
  pub least_of : (p : Member) → IsMember H p → (q : Member) × AreJoined H p q × IsLeastMember H q
  least_of p m = elim (least_where IsBefore (AreJoined H p) before-irrefl before-trans decide_before (decide_joined H p) (members H)) [
    | inr none ↦ absurd (none p (in_members H p m) itself)
    | inl f ↦ (
        let q : Member = f.0 in
        let l = f.1 in (
          q,
          l.holds,
          record {
            is_member = from_members H q l.among;
            least = λ t n j b. l.least t (in_members H t n) (joined-trans H p q t l.holds j) b;
          },
        ))
  ]

  decide_least : (p : Member) → Decided (IsLeastMember H p)
  decide_least p = elim (decide_member H p) [
    | inr n ↦ inr (λ l. n l.is_member)
    | inl m ↦ elim (some_where (λ q. AreJoined H p q × IsBefore q p) (λ q. decide_both (decide_joined H p q) (decide_before q p)) (members H)) [
      | inl s ↦ inr (λ l. l.least s.0 (from_members H s.0 s.1) s.2.0 s.2.1)
      | inr none ↦ inl (record { is_member = m; least = λ q n j b. none q (in_members H q n) (j, b) })
    ]
  ]

  -- ---- two classes that do not reach each other

  decide_apart : (p q : Member) → Decided (AreApart H p q)
  decide_apart p q =
      let ends = decide_both (decide_least p) (decide_least q) in
      let reach = decide_both (decide_not (decide_reach H vH p q)) (decide_not (decide_reach H vH q p)) in
      elim (decide_both ends (decide_both (decide_before p q) reach)) [
        | inl a ↦ inl (record { one = a.0.0; other = a.0.1; smaller = a.1.0; not_up = a.1.1.0; not_down = a.1.1.1 })
        | inr n ↦ inr (λ a. n ((a.one, a.other), (a.smaller, (a.not_up, a.not_down))))
      ]

  abbrev HasApart : Member → Type 0
  HasApart p = (q : Member) × Contains (members H) q × AreApart H p q

  decide_has_apart : (p : Member) → Decided (HasApart p)
  decide_has_apart p = elim (some_where (AreApart H p) (decide_apart p) (members H)) [
    | inl s ↦ inl s
    | inr none ↦ inr (λ s. none s.0 s.1 s.2)
  ]

  has_apart : (p q : Member) → AreApart H p q → HasApart p
  has_apart p q a = (q, in_members H q a.other.is_member, a)

  abbrev AllSettled : Type 0
  AllSettled = (p q : Member) → IsMember H p → IsMember H q → (AreJoined H p q → ⊥) → Reaches H p q ⊎ Reaches H q p

  -- if no two least members are apart, of two classes one reaches the other
  settled : ((p q : Member) → AreApart H p q → ⊥) → AllSettled
  settled none p q mp mq n = elim (decide_reach H vH p q) [
    | inl r ↦ inl r
    | inr up ↦ elim (decide_reach H vH q p) [
      | inl r ↦ inr r
      | inr down ↦ absurd (
          let s = least_of p mp in
          let t = least_of q mq in
          let not_up : Reaches H s.0 t.0 → ⊥ = λ r. up (reach-from H s.0 p q (joined-sym H p s.0 s.1) (reach-to H s.0 t.0 q (joined-sym H q t.0 t.1) r)) in
          let not_down : Reaches H t.0 s.0 → ⊥ = λ r. down (reach-from H t.0 q p (joined-sym H q t.0 t.1) (reach-to H t.0 s.0 p (joined-sym H p s.0 s.1) r)) in
          let same : s.0 ≡ t.0 = same_unless_before s.0 t.0
          (λ b. none s.0 t.0 (record { one = s.2; other = t.2; smaller = b; not_up = not_up; not_down = not_down }))
          (λ b. none t.0 s.0 (record { one = t.2; other = s.2; smaller = b; not_up = not_down; not_down = not_up })) in
          n (joined-trans H p s.0 q s.1 (subst (λ (m : Member). AreJoined H m q) (sym same) (joined-sym H q t.0 t.1))))
    ]
  ]

  second_apart : (p : Member) → HasApart p → ((s t : Member) → AreApart H s t → IsBefore s p → ⊥) → (q : Member) × IsFirstApart H p q
  second_apart p h first = elim (least_where IsBefore (AreApart H p) before-irrefl before-trans decide_before (decide_apart p) (members H)) [
    | inr none ↦ absurd (none h.0 h.1 h.2)
    | inl f ↦ (
        let l = f.1 in
        (f.0, record { apart = l.holds; first = first; second = λ t a b. l.least t (in_members H t a.other.is_member) a b }))
  ]

  pub first_apart : ((p : Member) × (q : Member) × IsFirstApart H p q) ⊎ AllSettled
  first_apart = elim (least_where IsBefore HasApart before-irrefl before-trans decide_before decide_has_apart (members H)) [
    | inr none ↦ inr (settled (λ p q a. none p (in_members H p a.one.is_member) (has_apart p q a)))
    | inl f ↦ (
        let l = f.1 in
        let s = second_apart f.0 l.holds (λ s t a b. l.least s (in_members H s a.one.is_member) (has_apart s t a) b) in
        inl (f.0, s.0, s.1))
  ]
