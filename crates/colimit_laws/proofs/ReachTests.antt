-- The program that closes the steps between classes tells which class reaches which.
use Rattle.std.proofs.Common.{◌≡◌, suc, Bool, true, ◌&&◌, List, [], ◌∷◌, map, refl, sym, ap, ◌∙◌, subst, inl, inr}
use Rattle.std.specs.Prelude.{◌⊎◌}
use Rattle.std.specs.List.{Contains, filter, list_any}
use Rattle.std.proofs.lemmas.Bool.{cond_both}
use Rattle.diagram_terms.specs.HeightClasses.{HeightShape, Member, member, IsMember, IsHeightShape, AreJoined, ComesBefore, Reaches, at_once, further}
use Rattle.colimit_laws.proofs.Membership.{contains_none, contains_head, contains_tail, contains_cases, contains_map, contains_flat}
use Rattle.colimit_laws.proofs.Order.{member-before, before-member}
use Rattle.colimit_laws.proofs.DecidedClasses.{reaches-trans, reach-target, reach-source}
use Rattle.diagram_terms.specs.RankProgram.{members_of, is_member, Link, in_one_class, next_of, comes_before, all_links, held, over, chains}
use Rattle.diagram_terms.specs.RankProgram as program
use Rattle.colimit_laws.proofs.Tests.{Tells, or_yes, or_left, or_right, tells_and, tells_or, tells_not, tells_as, tells_any, tells_same, tells_member}
use Rattle.colimit_laws.proofs.ClassTests.{in_members_of}

-- ---- a relation held as the list of its pairs

abbrev link : Member → Member → Link
link p q = record { one = p; other = q }

all_links-has : (ms : List Member) (p q : Member) → Contains ms p → Contains ms q → Contains (all_links ms) (link p q)
unfolding all_links
all_links-has ms p q a b = contains_flat (λ p. map (link p) ms) ms p (link p q) a (contains_map (link p) ms q b)

module _ {X : Type 0} (kept found : X → Bool) where
  any_kept : (xs : List X) → list_any found (filter kept xs) ≡ true → (x : X) × Contains xs x × ((kept x ≡ true) × (found x ≡ true))
  any_kept [] e = absurd (cc)
  any_kept (x ∷ xs) e = cond_both (kept x) (x ∷ filter kept xs) (filter kept xs)
      (λ ys. list_any found ys ≡ true → (y : X) × Contains (x ∷ xs) y × ((kept y ≡ true) × (found y ≡ true)))
      (λ t h. elim (or_yes (found x) (list_any found (filter kept xs)) h) [
        | inl a ↦ (x, contains_head x xs, (t, a))
        | inr r ↦ later (any_kept xs r)
      ])
      (λ f h. later (any_kept xs h))
      e
    where
      later : (y : X) × Contains xs y × ((kept y ≡ true) × (found y ≡ true)) → (y : X) × Contains (x ∷ xs) y × ((kept y ≡ true) × (found y ≡ true))
      later r = (r.0, contains_tail x r.0 xs r.1, r.2)

  kept_any : (xs : List X) (y : X) → Contains xs y → kept y ≡ true → found y ≡ true → list_any found (filter kept xs) ≡ true
  kept_any [] y c k f = contains_none y c
  kept_any (x ∷ xs) y c k f = elim (contains_cases x y xs c) [
    | inl e ↦ cond_both (kept x) (x ∷ filter kept xs) (filter kept xs) (λ ys. list_any found ys ≡ true)
        (λ t. or_left (found x) (list_any found (filter kept xs)) (ap found e ∙ f))
        (λ n. absurd (let u = ap kept e in cc))
    | inr r ↦ cond_both (kept x) (x ∷ filter kept xs) (filter kept xs) (λ ys. list_any found ys ≡ true)
        (λ t. or_right (found x) (list_any found (filter kept xs)) (kept_any xs y r k f))
        (λ n. kept_any xs y r k f)
  ]

module _ (H : HeightShape) where
  abbrev pairs : List Link
  pairs = all_links (members_of H)

  -- a relation between members is told by its pairs
  tells_held : (related : Member → Member → Bool) (R : Member → Member → Type 0) → ((p q : Member) → Tells (related p q) (R p q))
      → ((p q : Member) → R p q → IsMember H p × IsMember H q) → (p q : Member) → Tells (held pairs related p q) (R p q)
  unfolding held
  tells_held related R t among p q =
      let same : (l : Link) → Tells (program.same_member l.one p && program.same_member l.other q) ((l.one ≡ p) × (l.other ≡ q)) =
      λ l. tells_and (tells_same l.one p) (tells_same l.other q) in
      record {
        yes = λ e.
            let r = any_kept (λ l. related l.one l.other) (λ l. program.same_member l.one p && program.same_member l.other q) pairs e in
            let s = (same r.0).yes r.2.1 in
            subst (λ (m : Member). R m q) s.0 (subst (R r.0.one) s.1 ((t r.0.one r.0.other).yes r.2.0));
        no = λ h.
            let m = among p q h in
            kept_any (λ l. related l.one l.other) (λ l. program.same_member l.one p && program.same_member l.other q) pairs (link p q)
            (all_links-has (members_of H) p q (in_members_of H p m.0) (in_members_of H q m.1)) ((t p q).no h) ((same (link p q)).no (refl, refl));
      }

  -- ---- one step

  module _ (class : Member → Member) (joined : (p q : Member) → Tells (in_one_class H class p q) (AreJoined H p q)) where
    abbrev IsStep : Member → Member → Member → Type 0
    IsStep p q m = IsMember H (member m.object (suc m.height)) × (AreJoined H p m × AreJoined H q (member m.object (suc m.height)))

    tells_step : (p q : Member) → Tells (comes_before H class p q) (ComesBefore H p q)
    unfolding comes_before
    tells_step p q = tells_as
        (tells_and (tells_not (joined p q)) (tells_any (IsStep p q)
        (λ m. is_member H (next_of H class m) && (in_one_class H class p m && in_one_class H class q (next_of H class m))) (members_of H)
        (λ m. tells_and (tells_member H (member m.object (suc m.height))) (tells_and (joined p m) (joined q (member m.object (suc m.height)))))))
        (λ h. record {
          object = h.1.0.object;
          height = h.1.0.height;
          within = h.1.2.0;
          first = h.1.2.1.0;
          next = h.1.2.1.1;
          different = h.0;
        })
        (λ c. (c.different, (member c.object c.height, in_members_of H (member c.object c.height) (member-before H c.object c.height c.within), (c.within, (c.first, c.next)))))

    -- ---- chains of steps, over the members of a list

    abbrev Chain : List Member → Member → Member → Type 0
    Chain [] p q = ComesBefore H p q
    Chain (m ∷ ms) p q = Chain ms p q ⊎ (Chain ms p m × Chain ms m q)

    one_step : (ms : List Member) (p q : Member) → ComesBefore H p q → Chain ms p q
    one_step [] p q c = c
    one_step (m ∷ ms) p q c = inl (one_step ms p q c)

    -- a chain to m, of the list, and then one from it
    module _ (x : Member) (ms : List Member)
        (ih : (p m q : Member) → Contains ms m → Chain ms p m → Chain ms m q → Chain ms p q) (p m q : Member) where
      to_head : x ≡ m → Chain ms p m ⊎ (Chain ms p x × Chain ms x m) → Chain ms p x
      to_head e (inl a) = subst (Chain ms p) (sym e) a
      to_head e (inr b) = b.0

      from_head : x ≡ m → Chain ms m q ⊎ (Chain ms m x × Chain ms x q) → Chain ms x q
      from_head e (inl a) = subst (λ (n : Member). Chain ms n q) (sym e) a
      from_head e (inr b) = b.1

      through_tail : Contains ms m → Chain ms p m ⊎ (Chain ms p x × Chain ms x m) → Chain ms m q ⊎ (Chain ms m x × Chain ms x q)
          → Chain ms p q ⊎ (Chain ms p x × Chain ms x q)
      through_tail t (inl a) (inl b) = inl (ih p m q t a b)
      through_tail t (inl a) (inr b) = inr (ih p m x t a b.0, b.1)
      through_tail t (inr a) (inl b) = inr (a.0, ih x m q t a.1 b)
      through_tail t (inr a) (inr b) = inr (a.0, b.1)

    chain-trans : (ms : List Member) (p m q : Member) → Contains ms m → Chain ms p m → Chain ms m q → Chain ms p q
    chain-trans [] p m q c a b = contains_none m c
    chain-trans (x ∷ ms) p m q c a b = elim (contains_cases x m ms c) [
      | inl e ↦ inr (to_head x ms (chain-trans ms) p m q e a, from_head x ms (chain-trans ms) p m q e b)
      | inr t ↦ through_tail x ms (chain-trans ms) p m q t a b
    ]

    chain_reaches : (ms : List Member) (p q : Member) → Chain ms p q → Reaches H p q
    chain_reaches [] p q c = at_once q c
    chain_reaches (m ∷ ms) p q v = elim v [
      | inl a ↦ chain_reaches ms p q a
      | inr b ↦ reaches-trans H p m q (chain_reaches ms p m b.0) (chain_reaches ms m q b.1)
    ]

    module _ (vH : IsHeightShape H) where
      chain_members : (ms : List Member) (p q : Member) → Chain ms p q → IsMember H p × IsMember H q
      chain_members ms p q c = (reach-source H vH p q (chain_reaches ms p q c), reach-target H vH p q (chain_reaches ms p q c))

      reaches_chain : (p q : Member) → Reaches H p q → Chain (members_of H) p q
      reaches_chain p q (at_once u c) = one_step (members_of H) p u c
      reaches_chain p q (further u v h c) =
          chain-trans (members_of H) p u v (in_members_of H u (reach-target H vH p u h)) (reaches_chain p u h) (one_step (members_of H) u v c)

      tells_chain : (ms : List Member) (p q : Member) → Tells (chains pairs (comes_before H class) ms p q) (Chain ms p q)
      unfolding chains
      tells_chain [] = tells_held (comes_before H class) (ComesBefore H) tells_step (before-member H vH)
      tells_chain (m ∷ ms) = tells_held (over m (chains pairs (comes_before H class) ms)) (Chain (m ∷ ms))
          (λ p q. tells_or (tells_chain ms p q) (tells_and (tells_chain ms p m) (tells_chain ms m q))) (chain_members (m ∷ ms))

      pub tells_reach : (p q : Member) → Tells (chains pairs (comes_before H class) (members_of H) p q) (Reaches H p q)
      tells_reach p q = tells_as (tells_chain (members_of H) p q) (chain_reaches (members_of H) p q) (reaches_chain p q)
