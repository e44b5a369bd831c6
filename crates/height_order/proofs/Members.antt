-- Members and their places.
use Rattle.std.proofs.Common.{◌≡◌, ℕ, suc, ◌<◌, List, length, sym, ap, ◌∙◌, subst, arith, inl, inr}
use Rattle.std.proofs.lemmas.Bool.{cases_lt}
use Rattle.diagram_terms.specs.HeightClasses.{HeightShape, Member, member, IsMember, IsBefore}
use Rattle.colimit_laws.proofs.Order.{before-asym, before-irrefl}
use Rattle.height_order.specs.Places.{at, place, AreMembers}

module _ (H : HeightShape) (first : List ℕ) (members : List (ℕ × ℕ)) (a : AreMembers H.lengths first members) where
  pub place-within : (p : Member) → IsMember H p → place first p < length members
  place-within p m = a.within p.object p.height m.object m.height

  pub at-place : (p : Member) → IsMember H p → at members (place first p) ≡ p
  at-place p m =
      let e = a.placed p.object p.height m.object m.height in
      λ i. record { object = (e i).0; height = (e i).1 }

  pub at-member : (p : ℕ) → p < length members → IsMember H (at members p)
  at-member p l = record { object = a.object p l; height = a.height p l }

  -- the order of members is that of their places
  pub place-before : (p q : Member) → IsMember H p → IsMember H q → IsBefore p q → place first p < place first q
  place-before p q mp mq b =
      let ep = at-place p mp in
      let eq = at-place q mq in
      elim (cases_lt (place first p) (place first q)) [
        | inl l ↦ l
        | inr l ↦ elim (cases_lt (place first q) (place first p)) [
          | inl k ↦ absurd (before-asym p q b (subst (IsBefore q) ep (subst (λ (s : Member). IsBefore s (at members (place first p))) eq
              (a.ordered (place first q) (place first p) k (place-within p mp)))))
          | inr k ↦ (
              let same : place first p ≡ place first q = omega arith in
              absurd (before-irrefl p (subst (IsBefore p) (sym eq ∙ ap (at members) (sym same) ∙ ep) b)))
        ]
      ]

  -- the height before a height stands at the place before
  pub place-next : (x i : ℕ) → IsMember H (member x (suc i)) → (place first (member x i) < length members) × (place first (member x (suc i)) ≡ suc (place first (member x i)))
  place-next x i m =
      let o = m.object in
      let h = m.height in
      (a.within x i o (omega arith), omega arith)
