-- Ranks of the classes of a graph are those of the order.
use Rattle.std.proofs.Common.{◌≡◌, ℕ, ◌-◌, ◌<◌, List, [], length, get_or, take, drop, Option, sym, ap, ◌∙◌, subst, arith, inl, inr}
use Rattle.std.specs.Prelude.{◌⊎◌}
use Rattle.std.proofs.lemmas.Bool.{cases_lt}
use Rattle.std.proofs.lemmas.List.{get_or-map, length-map, get_or-take, get_or-drop, length-take, length-drop}
use Rattle.diagram_terms.specs.declared.place.Bias.{Bias}
use Rattle.diagram_terms.specs.declared.place.Bias.TheVariants.{Unbiased, Earlier, Later}
use Rattle.diagram_terms.proofs.Duals.{length-tab, get-tab}
use Rattle.diagram_terms.specs.HeightClasses.{HeightShape, Member, IsMember, IsBefore, IsHeightShape, AreJoined, Reaches}
use Rattle.diagram_terms.specs.OrderFaults.{IsAcyclic}
use Rattle.diagram_terms.specs.Ranks.{key, HasLesserKey, Ranks, ranks_of, rank_at, HasRank, IsRanked}
use Rattle.colimit_laws.proofs.Order.{same_member}
use Rattle.colimit_laws.proofs.DecidedClasses.{reach-to}
use Rattle.height_order.specs.declared.reach.Edge.{Edge}
use Rattle.height_order.specs.Places.{at, place}
use Rattle.height_order.specs.Ranking.{IsSooner, IsClass, HasSooner, rank_or, AreAllGiven}
use Rattle.height_order.specs.Graph.{IsGraph, row_of, by_object}
use Rattle.height_order.proofs.Members.{place-within, at-place, at-member}
use Rattle.height_order.proofs.Steps.{class_of, class-is, class-below, class-of_at, class-same_joined, member-joined, joined-class, leads-reach, reach-leads}

-- of two members one is sooner, or they are one
sooner-cases : (bias : Bias) (H : HeightShape) (p q : Member) → IsMember H p → IsMember H q
    → IsBefore (key bias H p) (key bias H q) ⊎ ((p ≡ q) ⊎ IsSooner bias (q.object, q.height) (p.object, p.height))
sooner-cases bias H p q mp mq = elim (cases_lt p.object q.object) [
  | inl l ↦ by_object bias l
  | inr l ↦ elim (cases_lt q.object p.object) [
    | inl k ↦ by_other bias k
    | inr k ↦ (
        let e : p.object ≡ q.object = omega arith in
        elim (cases_lt p.height q.height) [
          | inl u ↦ inl (by_height bias e u)
          | inr u ↦ elim (cases_lt q.height p.height) [
            | inl v ↦ inr (inr (by_lower bias e v))
            | inr v ↦ inr (inl (same_member p q e (omega arith)))
          ]
        ])
  ]
]
  where
    by_object : (bias : Bias) → p.object < q.object → IsBefore (key bias H p) (key bias H q) ⊎ ((p ≡ q) ⊎ IsSooner bias (q.object, q.height) (p.object, p.height))
    by_object Unbiased l = inl (inl l)
    by_object Earlier l = inl (inl l)
    by_object Later l = inr (inr (inl l))

    by_other : (bias : Bias) → q.object < p.object → IsBefore (key bias H p) (key bias H q) ⊎ ((p ≡ q) ⊎ IsSooner bias (q.object, q.height) (p.object, p.height))
    by_other Unbiased l = inr (inr (inl l))
    by_other Earlier l = inr (inr (inl l))
    by_other Later l = (let a = mp.object in let b = mq.object in inl (inl (omega arith)))

    by_height : (bias : Bias) → p.object ≡ q.object → p.height < q.height → IsBefore (key bias H p) (key bias H q)
    by_height Unbiased e l = inr (e, l)
    by_height Earlier e l = inr (e, l)
    by_height Later e l = inr (ap (λ (x : ℕ). length H.lengths - 1 - x) e, l)

    by_lower : (bias : Bias) → p.object ≡ q.object → q.height < p.height → IsSooner bias (q.object, q.height) (p.object, p.height)
    by_lower Unbiased e l = inr (sym e, l)
    by_lower Earlier e l = inr (sym e, l)
    by_lower Later e l = inr (sym e, l)

module _ (H : HeightShape) (vH : IsHeightShape H) (first : List ℕ) (members : List (ℕ × ℕ)) (cs : List ℕ) (edges : List Edge) (g : IsGraph H first members cs edges)
    (bias : Bias) (ranks : List (Option ℕ)) (k : ℕ) (a : AreAllGiven bias members cs edges ranks k) where
  abbrev f : ℕ → ℕ
  f = rank_or ranks k

  abbrev class : Member → ℕ
  class p = class_of H vH first members cs edges g p

  abbrev r : Ranks
  r = record { ranks = by_object H.lengths first cs f; count = k }

  row-is : (x : ℕ) → x < length H.lengths → ranks_of r x ≡ row_of H.lengths first cs f x
  row-is x l = get-tab (row_of H.lengths first cs f) (length H.lengths) x [] l

  column-len : (x : ℕ) → x < length H.lengths → length (ranks_of r x) ≡ get_or H.lengths x 0
  column-len x l =
      let n = g.classes_len in
      let w = g.placed.fits x l in
      let d = length-drop (get_or first x 0) cs in
      let t = length-take (get_or H.lengths x 0) (drop (get_or first x 0) cs) in
      ap length (row-is x l) ∙ length-map (take (get_or H.lengths x 0) (drop (get_or first x 0) cs)) f ∙ omega arith

  rank-is : (p : Member) → IsMember H p → rank_at r p ≡ f (class p)
  rank-is p m =
      let x : ℕ = p.object in
      let i : ℕ = p.height in
      let li : i < get_or H.lengths x 0 = m.height in
      let n = g.classes_len in
      let w = g.placed.fits x m.object in
      let d = length-drop (get_or first x 0) cs in
      let t = length-take (get_or H.lengths x 0) (drop (get_or first x 0) cs) in
      ap (λ (row : List ℕ). get_or row i 0) (row-is x m.object)
      ∙ get_or-map f (take (get_or H.lengths x 0) (drop (get_or first x 0) cs)) i 0 0 (omega arith)
      ∙ ap f (get_or-take (get_or H.lengths x 0) (drop (get_or first x 0) cs) i 0 li ∙ get_or-drop (get_or first x 0) cs i 0)

  class-rank : (c : ℕ) → IsClass cs c → rank_at r (at members c) ≡ f c
  class-rank c h = rank-is (at members c) (at-member H first members g.placed c (class-below H vH first members cs edges g c h)) ∙ ap f (class-of_at H vH first members cs edges g c h)

  has-rank : (j : ℕ) → j < k → HasRank r j
  has-rank j l =
      let o = a.given.onto j l in
      let c : ℕ = o.0 in
      let hc : IsClass cs c = o.1 in
      let m = at-member H first members g.placed c (class-below H vH first members cs edges g c hc) in
      record {
        object = (at members c).object;
        height = (at members c).height;
        within_objects = (let x = m.object in let t = length-tab (row_of H.lengths first cs f) (length H.lengths) in omega arith);
        within = (let x = m.height in let t = column-len (at members c).object m.object in omega arith);
        ranked = class-rank c hc ∙ o.2;
      }

  one-rank : (p q : Member) → IsMember H p → IsMember H q → AreJoined H p q → rank_at r p ≡ rank_at r q
  one-rank p q mp mq j = rank-is p mp ∙ ap f (joined-class H vH first members cs edges g p q mp mq j) ∙ sym (rank-is q mq)

  below-count : (p : Member) → IsMember H p → rank_at r p < k
  below-count p m = let e = rank-is p m in let l = a.below (class p) (class-is H vH first members cs edges g p m) in omega arith

  one-class : (p q : Member) → IsMember H p → IsMember H q → rank_at r p ≡ rank_at r q → AreJoined H p q
  one-class p q mp mq e =
      let hp = class-is H vH first members cs edges g p mp in
      let hq = class-is H vH first members cs edges g q mq in
      class-same_joined H vH first members cs edges g p q mp mq
      (a.given.one (class p) (class q) hp hq (sym (rank-is p mp) ∙ e ∙ rank-is q mq) (a.below (class p) hp))

  available : (p q : Member) → IsMember H p → IsMember H q → Reaches H p q → rank_at r p < rank_at r q
  available p q mp mq s =
      let hp = class-is H vH first members cs edges g p mp in
      let hq = class-is H vH first members cs edges g q mq in
      let ep = rank-is p mp in
      let eq = rank-is q mq in
      let l = a.given.available (class p) (class q) hp hq (reach-leads H vH first members cs edges g p q s) (a.below (class q) hq) in
      omega arith

  lesser-key : (p q : Member) → IsMember H p → IsMember H q → rank_at r p < rank_at r q → HasSooner bias members cs (class p) (class q) → HasLesserKey bias H p q
  lesser-key p q mp mq less s =
      let n = g.classes_len in
      let w = s.within in
      let l : s.place < length members = omega arith in
      let m = at-member H first members g.placed s.place l in
      let same : class (at members s.place) ≡ class p = ap (λ (x : ℕ). get_or cs x 0) (g.placed.place_at s.place l) ∙ s.class in
      record {
        least = at members s.place;
        is_member = m;
        joined = class-same_joined H vH first members cs edges g p (at members s.place) mp m (sym same);
        below = λ t mt j.
            let class_t : class t ≡ class q = sym (joined-class H vH first members cs edges g q t mq mt j) in
            let wt = place-within H first members g.placed t mt in
            elim (sooner-cases bias H (at members s.place) t m mt) [
              | inl b ↦ b
              | inr h ↦ elim h [
                | inl e ↦ absurd (
                    let ep = rank-is p mp in
                    let eq = rank-is q mq in
                    let c : class p ≡ class q = sym same ∙ ap class e ∙ class_t in
                    let d = ap f c in
                    omega arith)
                | inr b ↦ absurd (s.sooner (place first t) (omega arith) class_t
                    (subst (λ (u : Member). IsSooner bias (u.object, u.height) ((at members s.place).object, (at members s.place).height)) (sym (at-place H first members g.placed t mt)) b))
              ]
            ];
      }

  chosen : (p q : Member) → IsMember H p → IsMember H q → rank_at r p < rank_at r q → ((t : Member) → IsMember H t → Reaches H t q → rank_at r t < rank_at r p) → HasLesserKey bias H p q
  chosen p q mp mq less before =
      let hp = class-is H vH first members cs edges g p mp in
      let hq = class-is H vH first members cs edges g q mq in
      let ep = rank-is p mp in
      let eq = rank-is q mq in
      lesser-key p q mp mq less (a.given.chosen (class p) (class q) hp hq (omega arith) (λ t ht s.
      let mt = at-member H first members g.placed t (class-below H vH first members cs edges g t ht) in
      let reach : Reaches H (at members t) q = reach-to H (at members t) (at members (class q)) q (member-joined H vH first members cs edges g q mq) (leads-reach H vH first members cs edges g t (class q) s) in
      let b = before (at members t) mt reach in
      let e = class-rank t ht in
      omega arith))

  pub graph-ranked : IsAcyclic H → (bias ≡ Unbiased → (p q : Member) → IsMember H p → IsMember H q → (AreJoined H p q → ⊥) → Reaches H p q ⊎ Reaches H q p) → IsRanked bias H r
  graph-ranked acyclic settled = record {
    acyclic = acyclic;
    settled = settled;
    rows = length-tab (row_of H.lengths first cs f) (length H.lengths);
    columns = column-len;
    below = below-count;
    onto = has-rank;
    one_rank = one-rank;
    one_class = one-class;
    available = available;
    chosen = chosen;
  }
