-- The next rank is given to an available class with the least key.
use Rattle.std.proofs.Common.{◌≡◌, ℕ, suc, ◌<◌, ◌≤◌, refl, sym, ◌∙◌, subst, arith, inl, inr}
use Rattle.std.specs.Prelude.{◌⊎◌}
use Rattle.std.proofs.lemmas.Bool.{cases_lt}
use Rattle.diagram_terms.specs.declared.place.Bias.{Bias}
use Rattle.diagram_terms.specs.HeightClasses.{HeightShape, Member, IsMember, IsHeightShape, AreJoined, itself, Reaches}
use Rattle.diagram_terms.specs.Ranks.{key, HasLesserKey}
use Rattle.colimit_laws.proofs.Order.{same_unless_before, joined-trans, joined-sym}
use Rattle.colimit_laws.proofs.Finite.{Decided, decide_number, pick}
use Rattle.colimit_laws.proofs.DecidedClasses.{decide_before, in_members, from_members, decide_joined, reach-to}
use Rattle.colimit_laws.proofs.Available.{same_key, AreGiven, IsAvailable, IsBest, available-joined, below_unless}

module _ (b : Bias) (H : HeightShape) (vH : IsHeightShape H) (f : Member → ℕ) (k : ℕ) (given : AreGiven b H vH f k) where
  module _ (p : Member) (isb : IsBest b H vH f k given p) where
    mp : IsMember H p
    mp = from_members H p isb.among

    unfoldable pub moved : Member → ℕ
    moved m = pick (decide_joined H p m) k (pick (decide_number (f m) k) (suc k) (f m))

    record Takes (m : Member) : Type 0 where
      joined : AreJoined H p m
      was : f m ≡ k
      now : moved m ≡ k

    record Waits (m : Member) : Type 0 where
      apart : AreJoined H p m → ⊥
      was : f m ≡ k
      now : moved m ≡ suc k

    record Keeps (m : Member) : Type 0 where
      was : f m < k
      now : moved m ≡ f m

    -- by what is decided of a member
    case_of : (m : Member) → IsMember H m → (v : Decided (AreJoined H p m)) → (w : Decided (f m ≡ k))
        → moved m ≡ pick v k (pick w (suc k) (f m)) → Takes m ⊎ (Waits m ⊎ Keeps m)
    case_of m mm (inl j) w e = inl (record { joined = j; was = sym (given.joined p m mp mm j) ∙ isb.holds.unranked; now = e })
    case_of m mm (inr n) (inl u) e = inr (inl (record { apart = n; was = u; now = e }))
    case_of m mm (inr n) (inr u) e = inr (inr (record { was = below_unless b H vH f k given m mm u; now = e }))

    case : (m : Member) → IsMember H m → Takes m ⊎ (Waits m ⊎ Keeps m)
    unfolding moved
    case m mm = case_of m mm (decide_joined H p m) (decide_number (f m) k) refl

    -- a member with a rank keeps it
    had : (m : Member) → IsMember H m → f m < k → moved m ≡ f m
    had m mm l = elim (case m mm) [
      | inl t ↦ absurd (let e = t.was in omega arith)
      | inr o ↦ elim o [
        | inl w ↦ absurd (let e = w.was in omega arith)
        | inr h ↦ h.now
      ]
    ]

    -- and one that has a lower rank now had it
    has : (m : Member) → IsMember H m → moved m < k → (f m < k) × (moved m ≡ f m)
    has m mm l = elim (case m mm) [
      | inl t ↦ absurd (let e = t.now in omega arith)
      | inr o ↦ elim o [
        | inl w ↦ absurd (let e = w.now in omega arith)
        | inr h ↦ (h.was, h.now)
      ]
    ]

    -- its key is below those of the classes that were available
    lesser : (q : Member) → IsMember H q → (AreJoined H p q → ⊥) → IsAvailable b H vH f k given q → HasLesserKey b H p q
    lesser q mq n a = record {
      least = p;
      is_member = mp;
      joined = itself;
      below = λ t mt j. elim (decide_before (key b H p) (key b H t)) [
        | inl l ↦ l
        | inr m ↦ absurd (
            let av = available-joined b H vH f k given q t mq mt j a in
            let same = same_key b H p t mp mt (same_unless_before (key b H p) (key b H t) m (isb.least t (in_members H t mt) av)) in
            n (joined-sym H q p (subst (AreJoined H q) (sym same) j)))
      ];
    }

    moved-joined : (s t : Member) → IsMember H s → IsMember H t → AreJoined H s t → moved s ≡ moved t
    moved-joined s t ms mt j =
        let e = given.joined s t ms mt j in
        elim (case s ms) [
          | inl a ↦ elim (case t mt) [
            | inl c ↦ a.now ∙ sym c.now
            | inr o ↦ elim o [
              | inl c ↦ absurd (c.apart (joined-trans H p s t a.joined j))
              | inr c ↦ absurd (let u = a.was in let v = c.was in omega arith)
            ]
          ]
          | inr n ↦ elim n [
            | inl a ↦ elim (case t mt) [
              | inl c ↦ absurd (a.apart (joined-trans H p t s c.joined (joined-sym H s t j)))
              | inr o ↦ elim o [
                | inl c ↦ a.now ∙ sym c.now
                | inr c ↦ absurd (let u = a.was in let v = c.was in omega arith)
              ]
            ]
            | inr a ↦ (let u = a.was in a.now ∙ e ∙ sym (had t mt (omega arith)))
          ]
        ]

    moved-one_class : (s t : Member) → IsMember H s → IsMember H t → moved s ≡ moved t → moved s < suc k → AreJoined H s t
    moved-one_class s t ms mt e l = elim (case s ms) [
      | inl a ↦ elim (case t mt) [
        | inl c ↦ joined-trans H s p t (joined-sym H p s a.joined) c.joined
        | inr o ↦ elim o [
          | inl c ↦ absurd (let u = a.now in let v = c.now in omega arith)
          | inr c ↦ absurd (let u = a.now in let v = c.now in let w = c.was in omega arith)
        ]
      ]
      | inr n ↦ elim n [
        | inl a ↦ absurd (let u = a.now in omega arith)
        | inr a ↦ (
            let u = a.now in
            let v = a.was in
            let w = has t mt (omega arith) in
            let x = w.1 in
            given.one_class s t ms mt (omega arith) v)
      ]
    ]

    moved-within : (s : Member) → IsMember H s → moved s ≤ suc k
    moved-within s ms = elim (case s ms) [
      | inl a ↦ (let u = a.now in omega arith)
      | inr n ↦ elim n [
        | inl a ↦ (let u = a.now in omega arith)
        | inr a ↦ (let u = a.now in let v = a.was in omega arith)
      ]
    ]

    takes-itself : moved p ≡ k
    takes-itself = elim (case p mp) [
      | inl a ↦ a.now
      | inr n ↦ elim n [
        | inl a ↦ absurd (a.apart itself)
        | inr a ↦ absurd (let u = a.was in let e = isb.holds.unranked in omega arith)
      ]
    ]

    moved-onto : (j : ℕ) → j < suc k → (q : Member) × IsMember H q × (moved q ≡ j)
    moved-onto j l = elim (cases_lt j k) [
      | inl h ↦ (let o = given.onto j h in let e = o.2 in (o.0, o.1, had o.0 o.1 (omega arith) ∙ o.2))
      | inr h ↦ (p, mp, takes-itself ∙ (omega arith))
    ]

    moved-available : (t q : Member) → IsMember H t → IsMember H q → Reaches H t q → moved q < suc k → moved t < moved q
    moved-available t q mt mq r l = elim (case q mq) [
      | inl a ↦ (
          let u = a.now in
          let v = isb.holds.reached t mt (reach-to H t q p (joined-sym H p q a.joined) r) in
          let w = had t mt v in
          omega arith)
      | inr n ↦ elim n [
        | inl a ↦ absurd (let u = a.now in omega arith)
        | inr a ↦ (
            let u = a.now in
            let v = a.was in
            let x = given.available t q mt mq r v in
            let w = had t mt (omega arith) in
            omega arith)
      ]
    ]

    -- where q has a higher rank than s that has one, it had one
    above : (s q : Member) → IsMember H q → f s < k → f s < moved q → f s < f q
    above s q mq l m = elim (case q mq) [
      | inl a ↦ (let u = a.was in omega arith)
      | inr n ↦ elim n [
        | inl a ↦ (let u = a.was in omega arith)
        | inr a ↦ (let u = a.now in omega arith)
      ]
    ]

    moved-chosen : (s q : Member) → IsMember H s → IsMember H q → moved s < moved q
        → ((t : Member) → IsMember H t → Reaches H t q → moved t < moved s) → HasLesserKey b H s q
    moved-chosen s q ms mq l free = elim (case s ms) [
      | inl a ↦ elim (case q mq) [
        | inl c ↦ absurd (let u = a.now in let v = c.now in omega arith)
        | inr o ↦ elim o [
          | inr c ↦ absurd (let u = a.now in let v = c.now in let w = c.was in omega arith)
          | inl c ↦ (
              let at : moved s ≡ k = a.now in
              let of_p = lesser q mq c.apart (record { unranked = c.was; reached = λ t mt r. let x = free t mt r in (has t mt (omega arith)).0 }) in
              record {
                least = of_p.least;
                is_member = of_p.is_member;
                joined = joined-trans H s p of_p.least (joined-sym H p s a.joined) of_p.joined;
                below = of_p.below;
              })
        ]
      ]
      | inr n ↦ elim n [
        | inl a ↦ absurd (let u = a.now in let w = moved-within q mq in omega arith)
        | inr a ↦ (
            let u : moved s ≡ f s = a.now in
            let v = a.was in
            given.chosen s q ms mq (above s q mq v (omega arith)) (λ t mt r.
            let x = free t mt r in
            let y = has t mt (omega arith) in
            let z = y.1 in
            omega arith))
      ]
    ]

    pub given_next : AreGiven b H vH moved (suc k)
    given_next = record {
      joined = moved-joined;
      one_class = moved-one_class;
      within = moved-within;
      onto = moved-onto;
      available = moved-available;
      chosen = moved-chosen;
    }

    -- what has no rank now had none, and is not in the class of p
    pub unranked-before : (m : Member) → IsMember H m → moved m ≡ suc k → (f m ≡ k) × (AreJoined H p m → ⊥)
    unranked-before m mm e = elim (case m mm) [
      | inl a ↦ absurd (let u = a.now in omega arith)
      | inr n ↦ elim n [
        | inl a ↦ (a.was, a.apart)
        | inr a ↦ absurd (let u = a.now in let v = a.was in omega arith)
      ]
    ]
