-- Of two members it is decided whether they are in one class, and whether the class of one reaches that of the other.
use Rattle.std.proofs.Common.{◌≡◌, ℕ, suc, List, [], ◌∷◌, length, get_or, map, refl, sym, ap, ◌∙◌, subst, arith, inl, inr}
use Rattle.std.specs.Prelude.{◌⊎◌}
use Rattle.std.specs.List.{Contains, flat_map}
use Rattle.diagram_terms.specs.Dual.{upto}
use Rattle.diagram_terms.specs.HeightClasses.{HeightShape, HeightMap, Member, member, IsMember, IsBefore, IsHeightShape, AreJoined, itself, ahead, ComesBefore, Reaches, at_once, further}
use Rattle.colimit_laws.proofs.Membership.{contains_none, contains_head, contains_tail, contains_cases, contains_map, from_map, contains_flat, from_flat, contains_range, from_range}
use Rattle.colimit_laws.proofs.Order.{same_member, joined-trans, joined-sym, same_where_joined, member-before, before-member}
use Rattle.colimit_laws.proofs.Finite.{Decided, decide_both, decide_less, decide_number, pick, some_where}

-- ---- members

pub decide_same : (p q : Member) → Decided (p ≡ q)
decide_same p q = elim (decide_both (decide_number p.object q.object) (decide_number p.height q.height)) [
  | inl e ↦ inl (same_member p q e.0 e.1)
  | inr n ↦ inr (λ e. n (ap (λ (m : Member). m.object) e, ap (λ (m : Member). m.height) e))
]

pub decide_before : (p q : Member) → Decided (IsBefore p q)
decide_before p q = elim (decide_less p.object q.object) [
  | inl l ↦ inl (inl l)
  | inr n ↦ elim (decide_both (decide_number p.object q.object) (decide_less p.height q.height)) [
    | inl b ↦ inl (inr b)
    | inr m ↦ inr (λ h. elim h [ inl l ↦ n l | inr b ↦ m b ])
  ]
]

pub decide_member : (H : HeightShape) (p : Member) → Decided (IsMember H p)
decide_member H p = elim (decide_both (decide_less p.object (length H.lengths)) (decide_less p.height (get_or H.lengths p.object 0))) [
  | inl b ↦ inl (record { object = b.0; height = b.1 })
  | inr n ↦ inr (λ m. n (m.object, m.height))
]

-- all members
abbrev pub members : HeightShape → List Member
members H = flat_map (λ x. map (member x) (upto (get_or H.lengths x 0))) (upto (length H.lengths))

pub in_members : (H : HeightShape) (p : Member) → IsMember H p → Contains (members H) p
in_members H p m =
    let lo = m.object in
    let lh = m.height in
    contains_flat (λ x. map (member x) (upto (get_or H.lengths x 0))) (upto (length H.lengths)) p.object p
    (contains_range 0 (length H.lengths) p.object (omega arith) (omega arith))
    (contains_map (member p.object) (upto (get_or H.lengths p.object 0)) p.height (contains_range 0 (get_or H.lengths p.object 0) p.height (omega arith) (omega arith)))

pub from_members : (H : HeightShape) (p : Member) → Contains (members H) p → IsMember H p
from_members H p c =
    let f = from_flat (λ x. map (member x) (upto (get_or H.lengths x 0))) (upto (length H.lengths)) p c in
    let g = from_map (member f.0) (upto (get_or H.lengths f.0 0)) p f.2 in
    let a = (from_range 0 (length H.lengths) f.0 f.1).1 in
    let b = (from_range 0 (get_or H.lengths f.0 0) g.0 g.1).1 in
    subst (IsMember H) g.2 (record { object = omega arith; height = omega arith })

-- ---- classes: one value for each, made from the joins one after the other

pub record Join : Type 0 where
  pub one : Member
  pub other : Member

module _ (H : HeightShape) where
  -- a value for each member, the same at both ends of each of the joins, and the same only in one class
  record ClassMap (joins : List Join) : Type 0 where
    value : Member → Member
    same : (j : Join) → Contains joins j → value j.one ≡ value j.other
    sound : (p q : Member) → value p ≡ value q → AreJoined H p q

  module _ (a b : Member) (ab : AreJoined H a b) (value : Member → Member) (sound : (p q : Member) → value p ≡ value q → AreJoined H p q) where
    -- the value of a in place of that of b
    abbrev moved : (p : Member) → Decided (value p ≡ value b) → Member
    moved p w = pick w (value a) (value p)

    moved-sound : (p q : Member) (v : Decided (value p ≡ value b)) (w : Decided (value q ≡ value b)) → moved p v ≡ moved q w → AreJoined H p q
    moved-sound p q (inl v) (inl w) e = sound p q (v ∙ sym w)
    moved-sound p q (inl v) (inr w) e = joined-trans H p b q (sound p b v) (joined-trans H b a q (joined-sym H a b ab) (sound a q e))
    moved-sound p q (inr v) (inl w) e = joined-trans H p a q (sound p a e) (joined-trans H a b q ab (sound b q (sym w)))
    moved-sound p q (inr v) (inr w) e = sound p q e

    moved-same : (p q : Member) (v : Decided (value p ≡ value b)) (w : Decided (value q ≡ value b)) → value p ≡ value q → moved p v ≡ moved q w
    moved-same p q (inl v) (inl w) e = refl
    moved-same p q (inl v) (inr w) e = absurd (w (sym e ∙ v))
    moved-same p q (inr v) (inl w) e = absurd (v (e ∙ w))
    moved-same p q (inr v) (inr w) e = e

    moved-ends : (v : Decided (value a ≡ value b)) (w : Decided (value b ≡ value b)) → moved a v ≡ moved b w
    moved-ends (inl v) (inl w) = refl
    moved-ends (inr v) (inl w) = refl
    moved-ends v (inr w) = absurd (w refl)

  class_step : (j : Join) (joins : List Join) → AreJoined H j.one j.other → ClassMap joins → ClassMap (j ∷ joins)
  class_step j joins ab m = record {
    value = λ p. moved j.one j.other ab m.value m.sound p (decide_same (m.value p) (m.value j.other));
    same = λ k c. elim (contains_cases j k joins c) [
      | inl e ↦ subst (λ (k : Join). moved j.one j.other ab m.value m.sound k.one (decide_same (m.value k.one) (m.value j.other))
          ≡ moved j.one j.other ab m.value m.sound k.other (decide_same (m.value k.other) (m.value j.other))) e
          (moved-ends j.one j.other ab m.value m.sound (decide_same (m.value j.one) (m.value j.other)) (decide_same (m.value j.other) (m.value j.other)))
      | inr t ↦ moved-same j.one j.other ab m.value m.sound k.one k.other (decide_same (m.value k.one) (m.value j.other)) (decide_same (m.value k.other) (m.value j.other)) (m.same k t)
    ];
    sound = λ p q e. moved-sound j.one j.other ab m.value m.sound p q (decide_same (m.value p) (m.value j.other)) (decide_same (m.value q) (m.value j.other)) e;
  }

  class_map : (joins : List Join) → ((j : Join) → Contains joins j → AreJoined H j.one j.other) → ClassMap joins
  class_map [] h = record {
    value = λ p. p;
    same = λ j c. contains_none j c;
    sound = λ p q e. subst (AreJoined H p) e itself;
  }
  class_map (j ∷ joins) h = class_step j joins (h j (contains_head j joins)) (class_map joins (λ k c. h k (contains_tail j k joins c)))

  -- the joins of all maps
  abbrev join_at : HeightMap → ℕ → Join
  join_at m i = record { one = member m.from i; other = member m.to (get_or m.heights i 0) }

  abbrev all_joins : List Join
  all_joins = flat_map (λ m. map (join_at m) (upto (length m.heights))) H.maps

  joins_join : (j : Join) → Contains all_joins j → AreJoined H j.one j.other
  joins_join j c =
      let f = from_flat (λ (m : HeightMap). map (join_at m) (upto (length m.heights))) H.maps j c in
      let g = from_map (join_at f.0) (upto (length f.0.heights)) j f.2 in
      let a = (from_range 0 (length f.0.heights) g.0 g.1).1 in
      subst (λ (j : Join). AreJoined H j.one j.other) g.2 (ahead f.0 f.1 g.0 (omega arith) itself)

  classes : ClassMap all_joins
  classes = class_map all_joins joins_join

  class-value : (p q : Member) → AreJoined H p q → classes.value p ≡ classes.value q
  class-value p q j = same_where_joined H (λ (m : Member). classes.value m) (λ m c i l.
      classes.same (join_at m i) (contains_flat (λ (m : HeightMap). map (join_at m) (upto (length m.heights))) H.maps m (join_at m i) c
      (contains_map (join_at m) (upto (length m.heights)) i (contains_range 0 (length m.heights) i (omega arith) (omega arith))))) p q j

  pub decide_joined : (p q : Member) → Decided (AreJoined H p q)
  decide_joined p q = elim (decide_same (classes.value p) (classes.value q)) [
    | inl e ↦ inl (classes.sound p q e)
    | inr n ↦ inr (λ j. n (class-value p q j))
  ]

  -- ---- one step from class to class

  abbrev next_of : Member → Member
  next_of m = member m.object (suc m.height)

  abbrev IsStep : Member → Member → Member → Type 0
  IsStep p q m = IsMember H (next_of m) × (AreJoined H p m × AreJoined H q (next_of m))

  decide_step : (p q : Member) → Decided (ComesBefore H p q)
  decide_step p q = elim (decide_joined p q) [
    | inl j ↦ inr (λ c. c.different j)
    | inr n ↦ elim (some_where (IsStep p q) (λ m. decide_both (decide_member H (next_of m)) (decide_both (decide_joined p m) (decide_joined q (next_of m)))) (members H)) [
      | inl s ↦ inl (record {
        object = s.0.object;
        height = s.0.height;
        within = s.2.0;
        first = s.2.1.0;
        next = s.2.1.1;
        different = n;
      })
      | inr none ↦ inr (λ c. none (member c.object c.height) (in_members H (member c.object c.height) (member-before H c.object c.height c.within)) (c.within, (c.first, c.next)))
    ]
  ]

  -- ---- chains of steps, through the members of a list

  abbrev Via : List Member → Member → Member → Type 0
  Via [] p q = ComesBefore H p q
  Via (m ∷ ms) p q = Via ms p q ⊎ (Via ms p m × Via ms m q)

  decide_or : {P Q : Type 0} → Decided P → Decided Q → Decided (P ⊎ Q)
  decide_or (inl p) q = inl (inl p)
  decide_or (inr p) (inl q) = inl (inr q)
  decide_or (inr p) (inr q) = inr (λ h. elim h [ inl a ↦ p a | inr b ↦ q b ])

  decide_via : (ms : List Member) (p q : Member) → Decided (Via ms p q)
  decide_via [] p q = decide_step p q
  decide_via (m ∷ ms) p q = decide_or (decide_via ms p q) (decide_both (decide_via ms p m) (decide_via ms m q))

  via_step : (ms : List Member) (p q : Member) → ComesBefore H p q → Via ms p q
  via_step [] p q c = c
  via_step (m ∷ ms) p q c = inl (via_step ms p q c)

  -- a chain to m, of the list, and then one from it
  module _ (x : Member) (ms : List Member)
      (ih : (p m q : Member) → Contains ms m → Via ms p m → Via ms m q → Via ms p q) (p m q : Member) where
    through_head : x ≡ m → Via ms p m ⊎ (Via ms p x × Via ms x m) → Via ms p x
    through_head e (inl a) = subst (Via ms p) (sym e) a
    through_head e (inr b) = b.0

    from_head : x ≡ m → Via ms m q ⊎ (Via ms m x × Via ms x q) → Via ms x q
    from_head e (inl a) = subst (λ (n : Member). Via ms n q) (sym e) a
    from_head e (inr b) = b.1

    through_tail : Contains ms m → Via ms p m ⊎ (Via ms p x × Via ms x m) → Via ms m q ⊎ (Via ms m x × Via ms x q)
        → Via ms p q ⊎ (Via ms p x × Via ms x q)
    through_tail t (inl a) (inl b) = inl (ih p m q t a b)
    through_tail t (inl a) (inr b) = inr (ih p m x t a b.0, b.1)
    through_tail t (inr a) (inl b) = inr (a.0, ih x m q t a.1 b)
    through_tail t (inr a) (inr b) = inr (a.0, b.1)

  via_trans : (ms : List Member) (p m q : Member) → Contains ms m → Via ms p m → Via ms m q → Via ms p q
  via_trans [] p m q c a b = contains_none m c
  via_trans (x ∷ ms) p m q c a b = elim (contains_cases x m ms c) [
    | inl e ↦ inr (through_head x ms (via_trans ms) p m q e a, from_head x ms (via_trans ms) p m q e b)
    | inr t ↦ through_tail x ms (via_trans ms) p m q t a b
  ]

  pub reaches-trans : (p q t : Member) → Reaches H p q → Reaches H q t → Reaches H p t
  reaches-trans p q t a (at_once u c) = further q u a c
  reaches-trans p q t a (further u v h c) = further u v (reaches-trans p q u a h) c

  via_reaches : (ms : List Member) (p q : Member) → Via ms p q → Reaches H p q
  via_reaches [] p q c = at_once q c
  via_reaches (m ∷ ms) p q v = elim v [
    | inl a ↦ via_reaches ms p q a
    | inr b ↦ reaches-trans p m q (via_reaches ms p m b.0) (via_reaches ms m q b.1)
  ]

  module _ (vH : IsHeightShape H) where
    pub reach-target : (p q : Member) → Reaches H p q → IsMember H q
    reach-target p q (at_once u c) = (before-member H vH p u c).1
    reach-target p q (further u v h c) = (before-member H vH u v c).1

    pub reach-source : (p q : Member) → Reaches H p q → IsMember H p
    reach-source p q (at_once u c) = (before-member H vH p u c).0
    reach-source p q (further u v h c) = reach-source p u h

    reaches_via : (p q : Member) → Reaches H p q → Via (members H) p q
    reaches_via p q (at_once u c) = via_step (members H) p u c
    reaches_via p q (further u v h c) = via_trans (members H) p u v (in_members H u (reach-target p u h)) (reaches_via p u h) (via_step (members H) u v c)

    pub decide_reach : (p q : Member) → Decided (Reaches H p q)
    decide_reach p q = elim (decide_via (members H) p q) [
      | inl v ↦ inl (via_reaches (members H) p q v)
      | inr n ↦ inr (λ r. n (reaches_via p q r))
    ]

  -- ---- classes reach

  step-from : (p q t : Member) → AreJoined H p q → ComesBefore H p t → ComesBefore H q t
  step-from p q t j c = record {
    object = c.object;
    height = c.height;
    within = c.within;
    first = joined-trans H q p (member c.object c.height) (joined-sym H p q j) c.first;
    next = c.next;
    different = λ k. c.different (joined-trans H p q t j k);
  }

  step-to : (p q t : Member) → AreJoined H q t → ComesBefore H p q → ComesBefore H p t
  step-to p q t j c = record {
    object = c.object;
    height = c.height;
    within = c.within;
    first = c.first;
    next = joined-trans H t q (member c.object (suc c.height)) (joined-sym H q t j) c.next;
    different = λ k. c.different (joined-trans H p t q k (joined-sym H q t j));
  }

  pub reach-from : (p q t : Member) → AreJoined H p q → Reaches H p t → Reaches H q t
  reach-from p q t j (at_once u c) = at_once u (step-from p q u j c)
  reach-from p q t j (further u v h c) = further u v (reach-from p q u j h) c

  pub reach-to : (p q t : Member) → AreJoined H q t → Reaches H p q → Reaches H p t
  reach-to p q t j (at_once u c) = at_once t (step-to p u t j c)
  reach-to p q t j (further u v h c) = further u t h (step-to u v t j c)
