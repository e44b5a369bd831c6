-- Faults by what reaches what are those of the order.
use Rattle.std.proofs.Common.{◌≡◌, ℕ, ◌<◌, Bool, true, false, List, length, true≢false, refl, sym, ◌∙◌, subst, arith, inl, inr}
use Rattle.std.specs.Prelude.{◌⊎◌}
use Rattle.std.proofs.lemmas.Bool.{cases_lt}
use Rattle.diagram_terms.specs.HeightClasses.{HeightShape, Member, IsMember, IsHeightShape, AreJoined, Reaches, IsLeastMember}
use Rattle.diagram_terms.specs.OrderFaults.{IsAcyclic, IsFirstCycle, AreApart, IsFirstApart}
use Rattle.height_order.specs.declared.reach.Edge.{Edge}
use Rattle.height_order.specs.Places.{at, place}
use Rattle.height_order.specs.Reaching.{LeadsTo, at_once, further, edge, StepsBy, reaches, IsReaching}
use Rattle.height_order.specs.Faults.{IsFirstLoop, HasNoLoop, AreAloof, IsFirstPair, HasNoPair}
use Rattle.height_order.specs.Ranking.{IsClass}
use Rattle.height_order.specs.Graph.{IsGraph}
use Rattle.height_order.proofs.Members.{place-within, at-place, at-member, place-before}
use Rattle.height_order.proofs.Steps.{class_of, class-is, class-below, class-of_at, class-same_joined, edges-between, leads-reach, reach-leads, leads-members, class-least, least-is_class}

not-true : (t : Bool) → (t ≡ true → ⊥) → t ≡ false
not-true false n = refl
not-true true n = absurd (n refl)

module _ (H : HeightShape) (vH : IsHeightShape H) (first : List ℕ) (members : List (ℕ × ℕ)) (cs : List ℕ) (edges : List Edge) (g : IsGraph H first members cs edges)
    (rows : List (List Bool)) (r : IsReaching (length members) edges rows) where
  -- what reaches what, by tests
  test-true : (c d : ℕ) → IsClass cs c → LeadsTo (StepsBy edges) c d → reaches rows c d ≡ true
  test-true c d h l = (r.leads c d (class-below H vH first members cs edges g c h)).1 l

  true-leads : (c d : ℕ) → c < length members → reaches rows c d ≡ true → LeadsTo (StepsBy edges) c d
  true-leads c d l t = (r.leads c d l).0 t

  leads-class : (c d : ℕ) → LeadsTo (StepsBy edges) c d → IsClass cs c
  leads-class c d (at_once e s) = (edges-between H vH first members cs edges g (edge c e) s).0
  leads-class c d (further e u l s) = leads-class c e l

  least-test : (p q : Member) → IsLeastMember H p → IsLeastMember H q → Reaches H p q → reaches rows (place first p) (place first q) ≡ true
  least-test p q hp hq s =
      let cp = least-is_class H vH first members cs edges g p hp in
      let cq = least-is_class H vH first members cs edges g q hq in
      test-true (place first p) (place first q) cp (subst (LeadsTo (StepsBy edges) (place first p)) cq.1
      (subst (λ (c : ℕ). LeadsTo (StepsBy edges) c (class_of H vH first members cs edges g q)) cp.1 (reach-leads H vH first members cs edges g p q s)))

  test-least : (p q : Member) → IsLeastMember H p → IsLeastMember H q → reaches rows (place first p) (place first q) ≡ true → Reaches H p q
  test-least p q hp hq t =
      let wp = place-within H first members g.placed p hp.is_member in
      let l = leads-reach H vH first members cs edges g (place first p) (place first q) (true-leads (place first p) (place first q) wp t) in
      subst (Reaches H p) (at-place H first members g.placed q hq.is_member)
      (subst (λ (s : Member). Reaches H s (at members (place first q))) (at-place H first members g.placed p hp.is_member) l)

  -- ---- cycles

  pub first-loop_cycle : (p : ℕ) → IsFirstLoop rows p → IsFirstCycle H (at members p)
  first-loop_cycle p f =
      let n = r.len in
      let w = f.within in
      let l : p < length members = omega arith in
      let s = true-leads p p l f.loops in
      let c = leads-class p p s in
      record {
        least = class-least H vH first members cs edges g p c;
        cycle = leads-reach H vH first members cs edges g p p s;
        first = λ q h t b.
            let before = place-before H first members g.placed q (at members p) h.is_member (at-member H first members g.placed p l) b in
            let e = g.placed.place_at p l in
            true≢false (sym (least-test q q h h t) ∙ f.first (place first q) (omega arith));
      }

  pub no-loop_acyclic : HasNoLoop rows → IsAcyclic H
  no-loop_acyclic none p m s =
      let c = class-is H vH first members cs edges g p m in
      let l = class-below H vH first members cs edges g (class_of H vH first members cs edges g p) c in
      let n = r.len in
      true≢false (sym (test-true (class_of H vH first members cs edges g p) (class_of H vH first members cs edges g p) c (reach-leads H vH first members cs edges g p p s))
      ∙ none (class_of H vH first members cs edges g p) (omega arith))

  -- ---- classes that do not reach each other

  apart-aloof : (p q : Member) → AreApart H p q → AreAloof cs rows (place first p) (place first q)
  apart-aloof p q a =
      let cp = least-is_class H vH first members cs edges g p a.one in
      let cq = least-is_class H vH first members cs edges g q a.other in
      record {
        smaller = place-before H first members g.placed p q a.one.is_member a.other.is_member a.smaller;
        within = cq.0;
        one = cp.1;
        other = cq.1;
        not_up = not-true (reaches rows (place first p) (place first q)) (λ t. a.not_up (test-least p q a.one a.other t));
        not_down = not-true (reaches rows (place first q) (place first p)) (λ t. a.not_down (test-least q p a.other a.one t));
      }

  place-test : (p q : ℕ) → IsClass cs p → IsClass cs q → Reaches H (at members p) (at members q) → reaches rows p q ≡ true
  place-test p q cp cq s = test-true p q cp
      (subst (LeadsTo (StepsBy edges) p) (class-of_at H vH first members cs edges g q cq)
      (subst (λ (c : ℕ). LeadsTo (StepsBy edges) c (class_of H vH first members cs edges g (at members q))) (class-of_at H vH first members cs edges g p cp)
      (reach-leads H vH first members cs edges g (at members p) (at members q) s)))

  aloof-apart : (p q : ℕ) → AreAloof cs rows p q → AreApart H (at members p) (at members q)
  aloof-apart p q a =
      let n = g.classes_len in
      let s = a.smaller in
      let w = a.within in
      let lq : q < length members = omega arith in
      let cp : IsClass cs p = (omega arith, a.one) in
      let cq : IsClass cs q = (w, a.other) in
      record {
        one = class-least H vH first members cs edges g p cp;
        other = class-least H vH first members cs edges g q cq;
        smaller = g.placed.ordered p q s lq;
        not_up = λ t. true≢false (sym (place-test p q cp cq t) ∙ a.not_up);
        not_down = λ t. true≢false (sym (place-test q p cq cp t) ∙ a.not_down);
      }

  pub first-pair_apart : (pair : ℕ × ℕ) → IsFirstPair cs rows pair → IsFirstApart H (at members pair.0) (at members pair.1)
  first-pair_apart pair f =
      let p : ℕ = pair.0 in
      let q : ℕ = pair.1 in
      let a = f.beside.aloof in
      let n = g.classes_len in
      let s = a.smaller in
      let w = a.within in
      let lp : p < length members = omega arith in
      let lq : q < length members = omega arith in
      let ep = g.placed.place_at p lp in
      let eq = g.placed.place_at q lq in
      record {
        apart = aloof-apart p q a;
        first = λ t u b before.
            let l = place-before H first members g.placed t (at members p) b.one.is_member (at-member H first members g.placed p lp) before in
            f.first (place first t) (place first u) (omega arith) (apart-aloof t u b);
        second = λ u b before.
            let l = place-before H first members g.placed u (at members q) b.other.is_member (at-member H first members g.placed q lq) before in
            f.beside.second (place first u) (omega arith) (subst (λ (x : ℕ). AreAloof cs rows x (place first u)) ep (apart-aloof (at members p) u b));
      }

  -- ---- no fault

  abbrev AllSettled : Type 0
  AllSettled = (p q : Member) → IsMember H p → IsMember H q → (AreJoined H p q → ⊥) → Reaches H p q ⊎ Reaches H q p

  module _ (none : HasNoPair cs rows) where
    classes-settled : (c d : ℕ) → IsClass cs c → IsClass cs d → c < d → LeadsTo (StepsBy edges) c d ⊎ LeadsTo (StepsBy edges) d c
    classes-settled c d hc hd l =
        let lc = class-below H vH first members cs edges g c hc in
        let ld = class-below H vH first members cs edges g d hd in
        go (reaches rows c d) (reaches rows d c) refl refl lc ld
      where
        go : (s t : Bool) → reaches rows c d ≡ s → reaches rows d c ≡ t → c < length members → d < length members
            → LeadsTo (StepsBy edges) c d ⊎ LeadsTo (StepsBy edges) d c
        go true t e f lc ld = inl (true-leads c d lc e)
        go false true e f lc ld = inr (true-leads d c ld f)
        go false false e f lc ld = absurd (none c d (record { smaller = l; within = hd.0; one = hc.1; other = hd.1; not_up = e; not_down = f }))

    pub no-pair_settled : AllSettled
    no-pair_settled p q mp mq n =
        let c : ℕ = class_of H vH first members cs edges g p in
        let d : ℕ = class_of H vH first members cs edges g q in
        let hc : IsClass cs c = class-is H vH first members cs edges g p mp in
        let hd : IsClass cs d = class-is H vH first members cs edges g q mq in
        elim (cases_lt c d) [
          | inl l ↦ elim (classes-settled c d hc hd l) [
            | inl s ↦ inl (leads-members H vH first members cs edges g p q mp mq s)
            | inr s ↦ inr (leads-members H vH first members cs edges g q p mq mp s)
          ]
          | inr l ↦ elim (cases_lt d c) [
            | inl k ↦ elim (classes-settled d c hd hc k) [
              | inl s ↦ inr (leads-members H vH first members cs edges g q p mq mp s)
              | inr s ↦ inl (leads-members H vH first members cs edges g p q mp mq s)
            ]
            | inr k ↦ absurd (n (class-same_joined H vH first members cs edges g p q mp mq (omega arith)))
          ]
        ]
