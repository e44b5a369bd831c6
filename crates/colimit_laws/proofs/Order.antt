-- Members, classes and which class reaches which.
use Rattle.std.proofs.Common.{◌≡◌, ℕ, suc, ◌<◌, length, get_or, refl, sym, ◌∙◌, arith, inl, inr}
use Rattle.std.specs.List.{Contains}
use Rattle.std.proofs.lemmas.Bool.{cases_lt}
use Rattle.diagram_terms.specs.declared.place.Bias.{Bias}
use Rattle.diagram_terms.specs.HeightClasses.{HeightShape, HeightMap, Member, member, IsMember, IsBefore, IsHeightShape, AreJoined, itself, ahead, behind, ComesBefore}
use Rattle.diagram_terms.specs.Ranks.{key, HasLesserKey}

-- ---- the order of members

pub before-trans : (p q t : Member) → IsBefore p q → IsBefore q t → IsBefore p t
before-trans p q t a b = grind arith

pub before-irrefl : (p : Member) → IsBefore p p → ⊥
before-irrefl p a = grind arith

pub before-asym : (p q : Member) → IsBefore p q → IsBefore q p → ⊥
before-asym p q a b = before-irrefl p (before-trans p q p a b)

pub same_member : (p q : Member) → p.object ≡ q.object → p.height ≡ q.height → p ≡ q
same_member p q e h = λ i. record { object = e i; height = h i }

pub same_unless_before : (p q : Member) → (IsBefore p q → ⊥) → (IsBefore q p → ⊥) → p ≡ q
same_unless_before p q a b = elim (cases_lt p.object q.object) [
  | inl l ↦ absurd (a (inl l))
  | inr l ↦ elim (cases_lt q.object p.object) [
    | inl m ↦ absurd (b (inl m))
    | inr m ↦ (
        let e : p.object ≡ q.object = omega arith in
        elim (cases_lt p.height q.height) [
          | inl u ↦ absurd (a (inr (e, u)))
          | inr u ↦ elim (cases_lt q.height p.height) [
            | inl v ↦ absurd (b (inr (sym e, v)))
            | inr v ↦ same_member p q e (omega arith)
          ]
        ])
  ]
]

-- ---- classes

module _ (H : HeightShape) where
  pub joined-trans : (p q t : Member) → AreJoined H p q → AreJoined H q t → AreJoined H p t
  joined-trans p q t a itself = a
  joined-trans p q t a (ahead m c i l j) = ahead m c i l (joined-trans p q (member m.from i) a j)
  joined-trans p q t a (behind m c i l j) = behind m c i l (joined-trans p q (member m.to (get_or m.heights i 0)) a j)

  pub joined-sym : (p q : Member) → AreJoined H p q → AreJoined H q p
  joined-sym p q itself = itself
  joined-sym p q (ahead m c i l j) = joined-trans (member m.to (get_or m.heights i 0)) (member m.from i) p (behind m c i l itself) (joined-sym p (member m.from i) j)
  joined-sym p q (behind m c i l j) = joined-trans (member m.from i) (member m.to (get_or m.heights i 0)) p (ahead m c i l itself) (joined-sym p (member m.to (get_or m.heights i 0)) j)

  -- what both ends of each join share, all members of a class share
  pub same_where_joined : {A : Type 0} (f : Member → A)
      → ((m : HeightMap) → Contains H.maps m → (i : ℕ) → i < length m.heights → f (member m.from i) ≡ f (member m.to (get_or m.heights i 0)))
      → (p q : Member) → AreJoined H p q → f p ≡ f q
  same_where_joined f e p q itself = refl
  same_where_joined f e p q (ahead m c i l j) = same_where_joined f e p (member m.from i) j ∙ e m c i l
  same_where_joined f e p q (behind m c i l j) = same_where_joined f e p (member m.to (get_or m.heights i 0)) j ∙ sym (e m c i l)

  -- the height before a member, and both ends of a join, are members
  pub member-before : (x i : ℕ) → IsMember H (member x (suc i)) → IsMember H (member x i)
  member-before x i m = let a = m.object in let b = m.height in record { object = a; height = omega arith }

  module _ (vH : IsHeightShape H) where
    pub source-member : (m : HeightMap) → Contains H.maps m → (i : ℕ) → i < length m.heights → IsMember H (member m.from i)
    source-member m c i l = let v = vH m c in let n = v.heights_len in record { object = v.from; height = omega arith }

    pub target-member : (m : HeightMap) → Contains H.maps m → (i : ℕ) → i < length m.heights → IsMember H (member m.to (get_or m.heights i 0))
    target-member m c i l = let v = vH m c in record { object = v.to; height = v.below.below i l }

    pub joined-member : (p q : Member) → IsMember H p → AreJoined H p q → IsMember H q
    joined-member p q mp itself = mp
    joined-member p q mp (ahead m c i l j) = target-member m c i l
    joined-member p q mp (behind m c i l j) = source-member m c i l

    -- what comes before, and what reaches, is a member where the other is
    pub before-member : (p q : Member) → ComesBefore H p q → IsMember H p × IsMember H q
    before-member p q b = (
      joined-member (member b.object b.height) p (member-before b.object b.height b.within) (joined-sym p (member b.object b.height) b.first),
      joined-member (member b.object (suc b.height)) q b.within (joined-sym q (member b.object (suc b.height)) b.next),
    )

-- ---- keys

-- two classes have not both the lesser key
pub lesser-asym : (b : Bias) (H : HeightShape) (p q : Member) → HasLesserKey b H p q → HasLesserKey b H q p → ⊥
lesser-asym b H p q k l = before-asym (key b H k.least) (key b H l.least) (k.below l.least l.is_member l.joined) (l.below k.least k.is_member k.joined)
