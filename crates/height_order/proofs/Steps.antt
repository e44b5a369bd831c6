-- The edges of a graph are the steps between classes, and the least members are those of the classes' places.
use Rattle.std.proofs.Common.{◌≡◌, ℕ, suc, ◌-◌, ◌<◌, List, length, get_or, sym, ap, ◌∙◌, subst, arith, inl, inr}
use Rattle.std.proofs.lemmas.Bool.{cases_lt}
use Rattle.diagram_terms.specs.HeightClasses.{HeightShape, Member, member, IsMember, IsBefore, IsHeightShape, AreJoined, itself, ComesBefore, Reaches, IsLeastMember}
use Rattle.diagram_terms.specs.HeightClasses as height_classes
use Rattle.colimit_laws.proofs.Order.{joined-trans, joined-sym, member-before, before-member}
use Rattle.colimit_laws.proofs.DecidedClasses.{reach-from, reach-to}
use Rattle.height_order.specs.declared.reach.Edge.{Edge}
use Rattle.height_order.specs.Places.{at, place}
use Rattle.height_order.specs.Reaching.{LeadsTo, at_once, further, edge, StepsBy, AreEdgesWithin}
use Rattle.height_order.specs.Ranking.{IsClass, AreClassed, AreEdgesBetween}
use Rattle.height_order.specs.Graph.{IsGraph}
use Rattle.height_order.proofs.Members.{place-within, at-place, at-member, place-before, place-next}

module _ (H : HeightShape) (vH : IsHeightShape H) (first : List ℕ) (members : List (ℕ × ℕ)) (cs : List ℕ) (edges : List Edge) (g : IsGraph H first members cs edges) where
  abbrev n : ℕ
  n = length members

  -- the class of a place, and of a member
  abbrev pub class_at : ℕ → ℕ
  class_at p = get_or cs p 0

  abbrev pub class_of : Member → ℕ
  class_of p = class_at (place first p)

  pub class-within : (p : ℕ) → p < n → class_at p < n
  class-within p l = let k = g.low p l in omega arith

  pub classed : AreClassed cs
  classed p l = let m = g.classes_len in let w = class-within p (omega arith) in (omega arith, g.class_same p (omega arith))

  pub class-is : (p : Member) → IsMember H p → IsClass cs (class_of p)
  class-is p m = let k = g.classes_len in let w = place-within H first members g.placed p m in classed (place first p) (omega arith)

  pub class-below : (c : ℕ) → IsClass cs c → c < n
  class-below c h = let k = g.classes_len in let l = h.0 in omega arith

  -- a class is joined to the members of its places
  pub class-joined : (p : ℕ) → p < n → AreJoined H (at members (class_at p)) (at members p)
  class-joined p l = (g.joined (class_at p) p (class-within p l) l).0 (g.class_same p l)

  pub member-joined : (p : Member) → IsMember H p → AreJoined H (at members (class_of p)) p
  member-joined p m = subst (AreJoined H (at members (class_of p))) (at-place H first members g.placed p m) (class-joined (place first p) (place-within H first members g.placed p m))

  pub joined-class : (p q : Member) → IsMember H p → IsMember H q → AreJoined H p q → class_of p ≡ class_of q
  joined-class p q mp mq j = (g.joined (place first p) (place first q) (place-within H first members g.placed p mp) (place-within H first members g.placed q mq)).1
      (subst (AreJoined H (at members (place first p))) (sym (at-place H first members g.placed q mq)) (subst (λ (s : Member). AreJoined H s q) (sym (at-place H first members g.placed p mp)) j))

  pub class-same_joined : (p q : Member) → IsMember H p → IsMember H q → class_of p ≡ class_of q → AreJoined H p q
  class-same_joined p q mp mq e = joined-trans H p (at members (class_of p)) q (joined-sym H (at members (class_of p)) p (member-joined p mp))
      (subst (λ (c : ℕ). AreJoined H (at members c) q) (sym e) (member-joined q mq))

  pub class-of_at : (c : ℕ) → IsClass cs c → class_of (at members c) ≡ c
  class-of_at c h = ap class_at (g.placed.place_at c (class-below c h)) ∙ h.1

  -- ---- edges

  pub edges-between : AreEdgesBetween cs edges
  edges-between e c =
      let s = g.steps.sound e c in
      let w = s.within in
      let k = g.classes_len in
      let l : s.place < length cs = omega arith in
      let m : suc s.place < length cs = omega arith in
      (subst (IsClass cs) (sym s.from) (classed s.place l), subst (IsClass cs) (sym s.to) (classed (suc s.place) m))

  pub edges-within : AreEdgesWithin n edges
  edges-within e c =
      let between = edges-between e c in
      (class-below e.from between.0, class-below e.to between.1)

  edge-step : (c d : ℕ) → StepsBy edges c d → ComesBefore H (at members c) (at members d)
  edge-step c d e =
      let s = g.steps.sound (edge c d) e in
      let between = edges-between (edge c d) e in
      let x : ℕ = (get_or members (suc s.place) (0, 0)).0 in
      let i : ℕ = (get_or members (suc s.place) (0, 0)).1 in
      let w : suc s.place < n = s.within in
      let mem : IsMember H (at members (suc s.place)) = at-member H first members g.placed (suc s.place) w in
      let up : i ≡ suc (i - 1) = (let f = s.follows in omega arith) in
      let here : IsMember H (member x (suc (i - 1))) = subst (λ (j : ℕ). IsMember H (member x j)) up mem in
      let before = member-before H x (i - 1) here in
      let next = place-next H first members g.placed x (i - 1) here in
      let at_suc : place first (member x (suc (i - 1))) ≡ suc s.place = sym (ap (λ (j : ℕ). place first (member x j)) up) ∙ g.placed.place_at (suc s.place) w in
      let at_low : place first (member x (i - 1)) ≡ s.place = (let q = next.1 in omega arith) in
      let is_low : member x (i - 1) ≡ at members s.place = sym (at-place H first members g.placed (member x (i - 1)) before) ∙ ap (at members) at_low in
      record {
        object = x;
        height = i - 1;
        within = here;
        first = subst (AreJoined H (at members c)) (sym is_low) (subst (λ (y : ℕ). AreJoined H (at members y) (at members s.place)) (sym s.from) (class-joined s.place (omega arith)));
        next = subst (λ (j : ℕ). AreJoined H (at members d) (member x j)) up (subst (λ (y : ℕ). AreJoined H (at members y) (at members (suc s.place))) (sym s.to) (class-joined (suc s.place) w));
        different = λ j. s.different (
            sym between.0.1 ∙ (g.joined c d (class-below c between.0) (class-below d between.1)).1 j ∙ between.1.1);
      }

  step-edge : (p q : Member) → ComesBefore H p q → StepsBy edges (class_of p) (class_of q)
  step-edge p q b =
      let mem = before-member H vH p q b in
      let low = member-before H b.object b.height b.within in
      let next = place-next H first members g.placed b.object b.height b.within in
      let x : Member = member b.object b.height in
      let y : Member = member b.object (suc b.height) in
      let one : class_of p ≡ class_at (place first x) = joined-class p x mem.0 low b.first in
      let other : class_of q ≡ class_at (suc (place first x)) = joined-class q y mem.1 b.within b.next ∙ ap class_at next.1 in
      g.steps.complete (edge (class_of p) (class_of q)) (record {
        place = place first x;
        within = (let w = place-within H first members g.placed y b.within in let e = next.1 in omega arith);
        follows = (
            let e : (get_or members (suc (place first x)) (0, 0)).1 ≡ suc b.height =
            ap (λ (k : ℕ). (get_or members k (0, 0)).1) (sym next.1) ∙ ap (λ (s : Member). s.height) (at-place H first members g.placed y b.within) in
            λ z. omega arith);
        from = one;
        to = other;
        different = λ e. b.different (class-same_joined p q mem.0 mem.1 e);
      })

  pub leads-reach : (c d : ℕ) → LeadsTo (StepsBy edges) c d → Reaches H (at members c) (at members d)
  leads-reach c d (at_once e s) = height_classes.at_once (at members e) (edge-step c e s)
  leads-reach c d (further e u l s) = height_classes.further (at members e) (at members u) (leads-reach c e l) (edge-step e u s)

  pub reach-leads : (p q : Member) → Reaches H p q → LeadsTo (StepsBy edges) (class_of p) (class_of q)
  reach-leads p q (height_classes.at_once t s) = at_once (class_of t) (step-edge p t s)
  reach-leads p q (height_classes.further t u r s) = further (class_of t) (class_of u) (reach-leads p t r) (step-edge t u s)

  -- a chain between the classes of two members
  pub leads-members : (p q : Member) → IsMember H p → IsMember H q → LeadsTo (StepsBy edges) (class_of p) (class_of q) → Reaches H p q
  leads-members p q mp mq l = reach-from H (at members (class_of p)) p q (member-joined p mp)
      (reach-to H (at members (class_of p)) (at members (class_of q)) q (member-joined q mq) (leads-reach (class_of p) (class_of q) l))

  -- ---- least members

  pub class-least : (c : ℕ) → IsClass cs c → IsLeastMember H (at members c)
  class-least c h =
      let l = class-below c h in
      let m = at-member H first members g.placed c l in
      record {
        is_member = m;
        least = λ q mq j b.
            let before = place-before H first members g.placed q (at members c) mq m b in
            let e = g.placed.place_at c l in
            let same : class_of q ≡ c = sym (joined-class (at members c) q m mq j) ∙ class-of_at c h in
            let low = g.low (place first q) (place-within H first members g.placed q mq) in
            omega arith;
      }

  pub least-class : (p : Member) → IsLeastMember H p → class_of p ≡ place first p
  least-class p h =
      let m = h.is_member in
      let w = place-within H first members g.placed p m in
      let low = g.low (place first p) w in
      elim (cases_lt (class_of p) (place first p)) [
        | inr l ↦ omega arith
        | inl l ↦ absurd (h.least (at members (class_of p)) (at-member H first members g.placed (class_of p) (class-within (place first p) w))
            (joined-sym H (at members (class_of p)) p (member-joined p m))
            (subst (IsBefore (at members (class_of p))) (at-place H first members g.placed p m) (g.placed.ordered (class_of p) (place first p) l w)))
      ]

  pub least-is_class : (p : Member) → IsLeastMember H p → IsClass cs (place first p)
  least-is_class p h = subst (IsClass cs) (least-class p h) (class-is p h.is_member)
