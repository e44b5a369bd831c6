-- The programs that look for a cycle and for classes apart find the first ones.
use Rattle.std.proofs.Common.{◌≡◌, Bool, true, ◌&&◌, not, List, sym, ap, ◌∙◌, subst, refl, inl, inr}
use Rattle.std.specs.Prelude.{◌⊎◌, Option, Some, None}
use Rattle.std.specs.List.{Contains, list_any}
use Rattle.diagram_terms.specs.HeightClasses.{HeightShape, Member, IsMember, IsBefore, IsHeightShape, AreJoined, Reaches, IsLeastMember}
use Rattle.diagram_terms.specs.OrderFaults.{AreApart, IsAcyclic, IsFirstCycle, IsFirstApart}
use Rattle.colimit_laws.proofs.Order.{before-irrefl, before-trans, same_unless_before, joined-sym}
use Rattle.colimit_laws.proofs.DecidedClasses.{decide_before, reach-from, reach-to}
use Rattle.colimit_laws.proofs.OrderFaults.{least_of}
use Rattle.diagram_terms.specs.RankProgram.{members_of, is_before, least_by, in_one_class, first_on_cycle, is_least, are_apart, apart_at, apart_from, first_pair_apart}
use Rattle.colimit_laws.proofs.Tests.{Tells, tells_and, tells_not, tells_as, tells_any, tells_all, tells_before, tells_member, LeastOf}
use Rattle.colimit_laws.proofs.Tests as tests
use Rattle.colimit_laws.proofs.ClassTests.{in_members_of, from_members_of}

-- ---- the least member that passes a test

less_irreflexive : (p : Member) → is_before p p ≡ true → ⊥
less_irreflexive p e = before-irrefl p ((tells_before p p).yes e)

less_transitive : (p q t : Member) → is_before p q ≡ true → is_before q t ≡ true → is_before p t ≡ true
less_transitive p q t a b = (tells_before p t).no (before-trans p q t ((tells_before p q).yes a) ((tells_before q t).yes b))

module _ (test : Member → Bool) (Q : Member → Type 0) (told : (p : Member) → Tells (test p) (Q p)) (ms : List Member) where
  abbrev Found : Option Member → Type 0
  Found o = LeastOf is_before test less_irreflexive less_transitive ms o

  found : Found (least_by is_before test ms)
  found = tests.least_of is_before test less_irreflexive less_transitive ms

  pub least_found : (p : Member) → Contains ms p → Q p → ((q : Member) → Contains ms q → Q q → IsBefore q p → ⊥) → least_by is_before test ms ≡ Some p
  least_found p c h first = only (least_by is_before test ms) found
    where
      only : (o : Option Member) → Found o → o ≡ Some p
      only None none = absurd (none p c ((told p).no h))
      only (Some q) l = ap Some (same_unless_before q p
          (first q l.among ((told q).yes l.passes))
          (λ s. l.least p c ((told p).no h) ((tells_before p q).no s)))

  pub none_found : ((q : Member) → Contains ms q → Q q → ⊥) → least_by is_before test ms ≡ None
  none_found none = only (least_by is_before test ms) found
    where
      only : (o : Option Member) → Found o → o ≡ None
      only None n = refl
      only (Some q) l = absurd (none q l.among ((told q).yes l.passes))

module _ (H : HeightShape) (vH : IsHeightShape H) (class : Member → Member) (joined : (p q : Member) → Tells (in_one_class H class p q) (AreJoined H p q))
    (reach : Member → Member → Bool) (reaches : (p q : Member) → Tells (reach p q) (Reaches H p q)) where
  -- ---- a class that reaches itself

  -- the least member of a class is not after p where another one is before p
  least_below : (p q : Member) → IsMember H q → IsBefore q p → (t : Member) × AreJoined H q t × IsLeastMember H t × IsBefore t p
  least_below p q mq l =
      let s = least_of H vH q mq in
      let t : Member = s.0 in (
        t,
        s.1,
        s.2,
        elim (decide_before t q) [
          | inl u ↦ before-trans t q p u l
          | inr n ↦ (
              let same = same_unless_before t q n (λ u. s.2.least q mq (joined-sym H q t s.1) u) in
              subst (λ (m : Member). IsBefore m p) (sym same) l)
        ],
      )

  pub cycle_found : (p : Member) → IsFirstCycle H p → first_on_cycle H reach ≡ Some p
  unfolding first_on_cycle
  cycle_found p f =
      least_found (λ q. reach q q) (λ q. Reaches H q q) (λ q. reaches q q) (members_of H) p (in_members_of H p f.least.is_member) f.cycle
      (λ q c r l.
      let s = least_below p q (from_members_of H q c) l in
      f.first s.0 s.2 (reach-to H s.0 q s.0 s.1 (reach-from H q s.0 q s.1 r)) s.3)

  pub no_cycle_found : IsAcyclic H → first_on_cycle H reach ≡ None
  unfolding first_on_cycle
  no_cycle_found acyclic = none_found (λ q. reach q q) (λ q. Reaches H q q) (λ q. reaches q q) (members_of H)
      (λ q c r. acyclic q (from_members_of H q c) r)

  -- ---- two classes of which neither reaches the other

  tells_least : (p : Member) → Tells (is_least H class reach p) (IsLeastMember H p)
  unfolding is_least
  tells_least p = tells_as
      (tells_and (tells_member H p) (tells_all (λ q. AreJoined H p q × IsBefore q p → ⊥) (λ q. not (in_one_class H class p q && is_before q p)) (members_of H)
      (λ q. tells_not (tells_and (joined p q) (tells_before q p)))))
      (λ h. record { is_member = h.0; least = λ q m j b. h.1 q (in_members_of H q m) (j, b) })
      (λ l. (l.is_member, λ q c h. l.least q (from_members_of H q c) h.0 h.1))

  tells_apart : (p q : Member) → Tells (are_apart H class reach p q) (AreApart H p q)
  unfolding are_apart
  tells_apart p q = tells_as
      (tells_and (tells_least p) (tells_and (tells_least q) (tells_and (tells_before p q) (tells_and (tells_not (reaches p q)) (tells_not (reaches q p))))))
      (λ h. record { one = h.0; other = h.1.0; smaller = h.1.1.0; not_up = h.1.1.1.0; not_down = h.1.1.1.1 })
      (λ a. (a.one, (a.other, (a.smaller, (a.not_up, a.not_down)))))

  abbrev HasApart : Member → Type 0
  HasApart p = (q : Member) × Contains (members_of H) q × AreApart H p q

  tells_has_apart : (p : Member) → Tells (list_any (are_apart H class reach p) (members_of H)) (HasApart p)
  tells_has_apart p = tells_any (AreApart H p) (are_apart H class reach p) (members_of H) (tells_apart p)

  pub pair_found : (p q : Member) → IsFirstApart H p q → first_pair_apart H class reach ≡ Some (record { one = p; other = q })
  unfolding first_pair_apart
  pair_found p q f =
      let first : least_by is_before (λ p. list_any (are_apart H class reach p) (members_of H)) (members_of H) ≡ Some p =
      least_found (λ p. list_any (are_apart H class reach p) (members_of H)) HasApart tells_has_apart (members_of H) p
      (in_members_of H p f.apart.one.is_member) (q, in_members_of H q f.apart.other.is_member, f.apart)
      (λ s c h l. f.first s h.0 h.2 l) in
      let second : least_by is_before (are_apart H class reach p) (members_of H) ≡ Some q =
      least_found (are_apart H class reach p) (AreApart H p) (tells_apart p) (members_of H) q
      (in_members_of H q f.apart.other.is_member) f.apart (λ t c a l. f.second t a l) in
      ap (apart_at H class reach) first ∙ ap (apart_from H class reach p) second

  pub no_pair_found : ((p q : Member) → IsMember H p → IsMember H q → (AreJoined H p q → ⊥) → Reaches H p q ⊎ Reaches H q p)
      → first_pair_apart H class reach ≡ None
  unfolding first_pair_apart
  no_pair_found settled = ap (apart_at H class reach)
      (none_found (λ p. list_any (are_apart H class reach p) (members_of H)) HasApart tells_has_apart (members_of H)
      (λ p c h.
      let q : Member = h.0 in
      let a = h.2 in
      elim (settled p q a.one.is_member a.other.is_member (λ j. a.other.least p a.one.is_member (joined-sym H p q j) a.smaller)) [
        | inl up ↦ a.not_up up
        | inr down ↦ a.not_down down
      ]))
