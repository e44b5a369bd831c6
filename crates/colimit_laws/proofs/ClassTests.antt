-- The program that joins classes tells which members are in one class.
use Rattle.std.proofs.Common.{◌≡◌, ℕ, ◌<◌, List, [], ◌∷◌, length, map, refl, sym, ◌∙◌, subst, arith, inl, inr}
use Rattle.std.specs.Prelude.{◌⊎◌}
use Rattle.std.specs.List.{Contains}
use Rattle.std.proofs.lemmas.Bool.{cases_Bool, cond-true, cond-false}
use Rattle.diagram_terms.specs.Dual.{upto}
use Rattle.diagram_terms.specs.HeightClasses.{HeightShape, HeightMap, Member, IsMember, AreJoined, itself, ahead}
use Rattle.colimit_laws.proofs.Membership.{contains_none, contains_head, contains_tail, contains_cases, contains_map, from_map, contains_flat, from_flat, contains_range, from_range}
use Rattle.colimit_laws.proofs.Order.{joined-trans, joined-sym, same_where_joined}
use Rattle.colimit_laws.proofs.DecidedClasses.{in_members, from_members}
use Rattle.diagram_terms.specs.RankProgram.{members_of, Link, link_at, links_of, taken_in, classes, in_one_class}
use Rattle.diagram_terms.specs.RankProgram as program
use Rattle.colimit_laws.proofs.Tests.{Tells, tells_same, fails}

pub in_members_of : (H : HeightShape) (p : Member) → IsMember H p → Contains (members_of H) p
unfolding members_of
in_members_of H p m = in_members H p m

pub from_members_of : (H : HeightShape) (p : Member) → Contains (members_of H) p → IsMember H p
unfolding members_of
from_members_of H p c = from_members H p c

-- ---- one class taken in another

module _ (a b : Member) (class : Member → Member) where
  abbrev Taken : Member → Type 0
  Taken p = ((class p ≡ b) × (taken_in a b class p ≡ a)) ⊎ ((class p ≡ b → ⊥) × (taken_in a b class p ≡ class p))

  taken : (p : Member) → Taken p
  taken p = elim (cases_Bool (program.same_member (class p) b)) [
    | inl e ↦ inl ((tells_same (class p) b).yes e, cond-true (program.same_member (class p) b) a (class p) e)
    | inr e ↦ inr (fails (tells_same (class p) b) e, cond-false (program.same_member (class p) b) a (class p) e)
  ]

module _ (H : HeightShape) where
  module _ (l : Link) (joined : AreJoined H l.one l.other) (class : Member → Member) (sound : (p q : Member) → class p ≡ class q → AreJoined H p q) where
    abbrev now : Member → Member
    now = taken_in (class l.one) (class l.other) class

    -- what is in the class of the other end is in that of the one
    to_one : (p : Member) → class p ≡ class l.other → AreJoined H p l.one
    to_one p e = joined-trans H p l.other l.one (sound p l.other e) (joined-sym H l.one l.other joined)

    taken-sound : (p q : Member) → now p ≡ now q → AreJoined H p q
    taken-sound p q e = elim (taken (class l.one) (class l.other) class p) [
      | inl v ↦ elim (taken (class l.one) (class l.other) class q) [
        | inl w ↦ sound p q (v.0 ∙ sym w.0)
        | inr w ↦ joined-trans H p l.one q (to_one p v.0) (sound l.one q (sym v.1 ∙ e ∙ w.1))
      ]
      | inr v ↦ elim (taken (class l.one) (class l.other) class q) [
        | inl w ↦ joined-trans H p l.one q (sound p l.one (sym v.1 ∙ e ∙ w.1)) (joined-sym H q l.one (to_one q w.0))
        | inr w ↦ sound p q (sym v.1 ∙ e ∙ w.1)
      ]
    ]

    taken-same : (p q : Member) → class p ≡ class q → now p ≡ now q
    taken-same p q e = elim (taken (class l.one) (class l.other) class p) [
      | inl v ↦ elim (taken (class l.one) (class l.other) class q) [
        | inl w ↦ v.1 ∙ sym w.1
        | inr w ↦ absurd (w.0 (sym e ∙ v.0))
      ]
      | inr v ↦ elim (taken (class l.one) (class l.other) class q) [
        | inl w ↦ absurd (v.0 (e ∙ w.0))
        | inr w ↦ v.1 ∙ e ∙ sym w.1
      ]
    ]

    taken-ends : now l.one ≡ now l.other
    taken-ends = elim (taken (class l.one) (class l.other) class l.other) [
      | inr w ↦ absurd (w.0 refl)
      | inl w ↦ elim (taken (class l.one) (class l.other) class l.one) [
        | inl v ↦ v.1 ∙ sym w.1
        | inr v ↦ v.1 ∙ sym w.1
      ]
    ]

  -- ---- all classes

  abbrev AllJoined : List Link → Type 0
  AllJoined links = (l : Link) → Contains links l → AreJoined H l.one l.other

  rest_joined : (l : Link) (links : List Link) → AllJoined (l ∷ links) → AllJoined links
  rest_joined l links h m c = h m (contains_tail l m links c)

  classes-sound : (links : List Link) → AllJoined links → (p q : Member) → classes links p ≡ classes links q → AreJoined H p q
  unfolding classes
  classes-sound [] h p q e = subst (AreJoined H p) e itself
  classes-sound (l ∷ links) h p q e =
      taken-sound l (h l (contains_head l links)) (classes links) (classes-sound links (rest_joined l links h)) p q e

  classes-same : (links : List Link) → AllJoined links → (m : Link) → Contains links m → classes links m.one ≡ classes links m.other
  unfolding classes
  classes-same [] h m c = contains_none m c
  classes-same (l ∷ links) h m c =
      let joined = h l (contains_head l links) in
      let sound = classes-sound links (rest_joined l links h) in
      elim (contains_cases l m links c) [
        | inl e ↦ subst (λ (m : Link). classes (l ∷ links) m.one ≡ classes (l ∷ links) m.other) e (taken-ends l joined (classes links) sound)
        | inr t ↦ taken-same l joined (classes links) sound m.one m.other (classes-same links (rest_joined l links h) m t)
      ]

  link_among : (m : HeightMap) → Contains H.maps m → (i : ℕ) → i < length m.heights → Contains (links_of H) (link_at m i)
  unfolding links_of
  link_among m c i l = contains_flat (λ (m : HeightMap). map (link_at m) (upto (length m.heights))) H.maps m (link_at m i) c
      (contains_map (link_at m) (upto (length m.heights)) i (contains_range 0 (length m.heights) i (omega arith) (omega arith)))

  links_join : AllJoined (links_of H)
  unfolding links_of
  links_join l c =
      let f = from_flat (λ (m : HeightMap). map (link_at m) (upto (length m.heights))) H.maps l c in
      let g = from_map (link_at f.0) (upto (length f.0.heights)) l f.2 in
      let a = (from_range 0 (length f.0.heights) g.0 g.1).1 in
      subst (λ (l : Link). AreJoined H l.one l.other) g.2 (ahead f.0 f.1 g.0 (omega arith) itself)

  pub tells_joined : (p q : Member) → Tells (in_one_class H (classes (links_of H)) p q) (AreJoined H p q)
  tells_joined p q =
      let t = tells_same (classes (links_of H) p) (classes (links_of H) q) in
      record {
        yes = λ e. classes-sound (links_of H) links_join p q (t.yes e);
        no = λ j. t.no (same_where_joined H (classes (links_of H)) (λ m c i l. classes-same (links_of H) links_join (link_at m i) (link_among m c i l)) p q j);
      }
