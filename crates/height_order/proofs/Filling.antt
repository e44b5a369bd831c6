-- The members of a shape, one height after the other.
use Rattle.std.proofs.Common.{◌≡◌, ℕ, suc, ◌+◌, ◌<◌, ◌≤◌, List, [], ◌∷◌, ◌++◌, length, get_or, take, refl, sym, ap, ◌∙◌, subst, arith, inl, inr}
use Rattle.std.specs.Prelude.{◌⊎◌}
use Rattle.std.proofs.lemmas.Bool.{cases_lt}
use Rattle.std.proofs.lemmas.List.{get_or_append_left, get_or_push, length_push, length-take, take_more}
use Rattle.diagram_terms.specs.HeightClasses.{member, IsBefore}
use Rattle.height_order.specs.Places.{at, place, AreMembers}

pub members-none : AreMembers [] [] []
members-none = record {
  first_len = refl;
  within = λ x i l m. absurd (omega arith);
  placed = λ x i l m. absurd (omega arith);
  fits = λ x l. absurd (omega arith);
  object = λ p l. absurd (omega arith);
  height = λ p l. absurd (omega arith);
  place_at = λ p l. absurd (omega arith);
  ordered = λ p q l m. absurd (omega arith);
}

-- the members of the objects before one, and its first h ones
pub record IsFilling (before : List ℕ) (h : ℕ) (first : List ℕ) (members : List (ℕ × ℕ)) : Type 0 where
  pub so_far : AreMembers (before ++ h ∷ []) first members
  pub next : place first (member (length before) h) ≡ length members

-- an element of a list with one more: it was there, or is the last
push-cases : {X : Type 0} (xs : List X) (y d : X) (k : ℕ) → k < length xs + 1
    → ((k < length xs) × (get_or (xs ++ y ∷ []) k d ≡ get_or xs k d)) ⊎ ((k ≡ length xs) × (get_or (xs ++ y ∷ []) k d ≡ y))
push-cases xs y d k l = elim (cases_lt k (length xs)) [
  | inl m ↦ inl (m, get_or_append_left xs (y ∷ []) d k m)
  | inr m ↦ (let e : k ≡ length xs = omega arith in inr (e, get_or_push xs y d k (sym e)))
]

-- the next object has no member yet
pub filling-starts : (before first : List ℕ) (members : List (ℕ × ℕ)) → AreMembers before first members → IsFilling before 0 (first ++ length members ∷ []) members
filling-starts before first members a =
    let n = a.first_len in
    let longer = length_push before 0 in
    let first_of : (x : ℕ) → x < length before → get_or (first ++ length members ∷ []) x 0 ≡ get_or first x 0 =
    λ x l. get_or_append_left first (length members ∷ []) 0 x (omega arith) in
    let in_before : (x i : ℕ) → x < length (before ++ 0 ∷ []) → i < get_or (before ++ 0 ∷ []) x 0 → (x < length before) × (i < get_or before x 0) =
    λ x i l m. elim (push-cases before 0 0 x (omega arith)) [
      | inl c ↦ (let e = c.1 in (c.0, omega arith))
      | inr c ↦ absurd (let e = c.1 in omega arith)
    ] in
    record {
      so_far = record {
        first_len = omega (arith, length_push first (length members));
        within = λ x i l m. let c = in_before x i l m in let e = first_of x c.0 in let w = a.within x i c.0 c.1 in omega arith;
        placed = λ x i l m.
            let c = in_before x i l m in
            ap (λ (f : ℕ). get_or members (f + i) (0, 0)) (first_of x c.0) ∙ a.placed x i c.0 c.1;
        fits = λ x l. elim (push-cases before 0 0 x (omega arith)) [
          | inl c ↦ (let e = c.1 in let g = first_of x c.0 in let w = a.fits x c.0 in omega arith)
          | inr c ↦ (let e = c.1 in omega (arith, get_or_push first (length members) 0 x (n ∙ sym c.0)))
        ];
        object = λ p l. let o = a.object p l in omega arith;
        height = λ p l. let e = get_or_append_left before (0 ∷ []) 0 (at members p).object (a.object p l) in let h = a.height p l in omega arith;
        place_at = λ p l. let e = first_of (at members p).object (a.object p l) in let f = a.place_at p l in omega arith;
        ordered = a.ordered;
      };
      next = omega (arith, get_or_push first (length members) 0 (length before) n);
    }

-- the next height of the object
module _ (before first : List ℕ) (members : List (ℕ × ℕ)) (h : ℕ) (f : IsFilling before h first members) where
  abbrev old : List ℕ
  old = before ++ h ∷ []

  abbrev new : List ℕ
  new = before ++ suc h ∷ []

  abbrev more : List (ℕ × ℕ)
  more = members ++ (length before, h) ∷ []

  -- a height of an object is an earlier one, or the new one
  height-cases : (x i : ℕ) → x < length new → i < get_or new x 0
      → ((x < length old) × (i < get_or old x 0)) ⊎ ((x ≡ length before) × (i ≡ h))
  height-cases x i l m =
      let n = length_push before (suc h) in
      let o = length_push before h in
      elim (push-cases before (suc h) 0 x (omega arith)) [
        | inl c ↦ (let e = c.1 in let g = get_or_append_left before (h ∷ []) 0 x c.0 in inl (omega arith, omega arith))
        | inr c ↦ (
            let e = c.1 in
            let g = get_or_push before h 0 x (sym c.0) in
            elim (cases_lt i h) [
              | inl k ↦ inl (omega arith, omega arith)
              | inr k ↦ inr (c.0, omega arith)
            ])
      ]

  grows : (x : ℕ) → x < length old → get_or old x 0 ≤ get_or new x 0
  grows x l =
      let o = length_push before h in
      elim (push-cases before (suc h) 0 x (omega arith)) [
        | inl c ↦ (let e = c.1 in let g = get_or_append_left before (h ∷ []) 0 x c.0 in omega arith)
        | inr c ↦ (let e = c.1 in let g = get_or_push before h 0 x (sym c.0) in omega arith)
      ]

  -- the place of a height
  place-in : (x i : ℕ) → x < length new → i < get_or new x 0 → (place first (member x i) < length more) × (get_or more (place first (member x i)) (0, 0) ≡ (x, i))
  place-in x i l m =
      let n = length_push members (length before, h) in
      elim (height-cases x i l m) [
        | inl c ↦ (
            let w = f.so_far.within x i c.0 c.1 in
            (omega arith, get_or_append_left members ((length before, h) ∷ []) (0, 0) (place first (member x i)) w ∙ f.so_far.placed x i c.0 c.1))
        | inr c ↦ (
            let e : place first (member x i) ≡ length members = ap (λ (y : ℕ). get_or first y 0 + i) c.0 ∙ ap (λ (j : ℕ). get_or first (length before) 0 + j) c.1 ∙ f.next in
            (omega arith, get_or_push members (length before, h) (0, 0) (place first (member x i)) (sym e) ∙ (λ k. (sym c.0 k, sym c.1 k))))
      ]

  fits-in : (x : ℕ) → x < length new → get_or first x 0 + get_or new x 0 ≤ length more
  fits-in x l =
      let n = length_push members (length before, h) in
      let b = length_push before (suc h) in
      elim (push-cases before (suc h) 0 x (omega arith)) [
        | inl c ↦ (
            let o = length_push before h in
            let e = c.1 in
            let g = get_or_append_left before (h ∷ []) 0 x c.0 in
            let w = f.so_far.fits x (omega arith) in
            omega arith)
        | inr c ↦ (
            let e = c.1 in
            let same : get_or first x 0 ≡ get_or first (length before) 0 = ap (λ (y : ℕ). get_or first y 0) c.0 in
            let w = f.next in
            omega arith)
      ]

  -- the height at a place
  at-cases : (p : ℕ) → p < length more → ((p < length members) × (get_or more p (0, 0) ≡ get_or members p (0, 0))) ⊎ ((p ≡ length members) × (get_or more p (0, 0) ≡ (length before, h)))
  at-cases p l = let n = length_push members (length before, h) in push-cases members (length before, h) (0, 0) p (omega arith)

  object-in : (p : ℕ) → p < length more → (at more p).object < length new
  object-in p l =
      let n = length_push before (suc h) in
      let o = length_push before h in
      elim (at-cases p l) [
        | inl c ↦ (let e = ap (λ (m : ℕ × ℕ). m.0) c.1 in let b = f.so_far.object p c.0 in omega arith)
        | inr c ↦ (let e = ap (λ (m : ℕ × ℕ). m.0) c.1 in omega arith)
      ]

  height-in : (p : ℕ) → p < length more → (at more p).height < get_or new (at more p).object 0
  height-in p l =
      elim (at-cases p l) [
        | inl c ↦ (
            let b = f.so_far.height p c.0 in
            let g = grows (at members p).object (f.so_far.object p c.0) in
            subst (λ (m : ℕ × ℕ). m.1 < get_or new m.0 0) (sym c.1) (omega arith))
        | inr c ↦ subst (λ (m : ℕ × ℕ). m.1 < get_or new m.0 0) (sym c.1) (omega (arith, get_or_push before (suc h) 0 (length before) refl))
      ]

  place-at : (p : ℕ) → p < length more → place first (at more p) ≡ p
  place-at p l =
      elim (at-cases p l) [
        | inl c ↦ subst (λ (m : ℕ × ℕ). get_or first m.0 0 + m.1 ≡ p) (sym c.1) (f.so_far.place_at p c.0)
        | inr c ↦ subst (λ (m : ℕ × ℕ). get_or first m.0 0 + m.1 ≡ p) (sym c.1) (f.next ∙ sym c.0)
      ]

  -- the new one comes after all others
  last-after : (p : ℕ) → p < length members → IsBefore (at members p) (member (length before) h)
  last-after p l =
      let o = length_push before h in
      let b = f.so_far.object p l in
      let g = f.so_far.height p l in
      elim (cases_lt (at members p).object (length before)) [
        | inl k ↦ inl k
        | inr k ↦ (
            let e : (at members p).object ≡ length before = omega arith in
            inr (e, omega (arith, get_or_push before h 0 (at members p).object (sym e))))
      ]

  in-order : (p q : ℕ) → p < q → q < length more → IsBefore (at more p) (at more q)
  in-order p q l m =
      let n = length_push members (length before, h) in
      elim (at-cases q m) [
        | inl c ↦ (
            let lp : p < length members = omega (arith, c.0) in
            let e : get_or more p (0, 0) ≡ get_or members p (0, 0) = get_or_append_left members ((length before, h) ∷ []) (0, 0) p lp in
            subst (λ (u : ℕ × ℕ). IsBefore (member u.0 u.1) (at more q)) (sym e)
            (subst (λ (u : ℕ × ℕ). IsBefore (at members p) (member u.0 u.1)) (sym c.1) (f.so_far.ordered p q l c.0)))
        | inr c ↦ (
            let lp : p < length members = omega (arith, c.0) in
            let e : get_or more p (0, 0) ≡ get_or members p (0, 0) = get_or_append_left members ((length before, h) ∷ []) (0, 0) p lp in
            subst (λ (u : ℕ × ℕ). IsBefore (member u.0 u.1) (at more q)) (sym e)
            (subst (λ (u : ℕ × ℕ). IsBefore (at members p) (member u.0 u.1)) (sym c.1) (last-after p lp)))
      ]

  pub filling-more : IsFilling before (suc h) first more
  filling-more = record {
    so_far = record {
      first_len = (let n = length_push before (suc h) in let o = length_push before h in let e = f.so_far.first_len in omega arith);
      within = λ x i l m. (place-in x i l m).0;
      placed = λ x i l m. (place-in x i l m).1;
      fits = fits-in;
      object = object-in;
      height = height-in;
      place_at = place-at;
      ordered = in-order;
    };
    next = (let n = length_push members (length before, h) in let e = f.next in omega arith);
  }

-- ---- over a list of lengths

pub starts-at : (before first first' : List ℕ) (members : List (ℕ × ℕ)) (n : ℕ) → AreMembers before first members → n ≡ length members
    → first' ≡ first ++ n ∷ [] → IsFilling before 0 first' members
starts-at before first first' members n a e f =
    subst (λ (ns : List ℕ). IsFilling before 0 ns members) (sym (f ∙ ap (λ (k : ℕ). first ++ k ∷ []) e)) (filling-starts before first members a)

pub goes-on : (lengths first : List ℕ) (members members' : List (ℕ × ℕ)) (o h : ℕ) → o < length lengths → IsFilling (take o lengths) h first members
    → members' ≡ members ++ (o, h) ∷ [] → IsFilling (take o lengths) (h + 1) first members'
goes-on lengths first members members' o h l f e =
    let n : length (take o lengths) ≡ o = omega (arith, length-take o lengths) in
    let k : suc h ≡ h + 1 = omega arith in
    subst (λ (j : ℕ). IsFilling (take o lengths) j first members') k
    (subst (λ (ms : List (ℕ × ℕ)). IsFilling (take o lengths) (suc h) first ms) (sym (e ∙ ap (λ (x : ℕ). members ++ (x, h) ∷ []) (sym n)))
    (filling-more (take o lengths) first members h f))

pub ends-at : (lengths first : List ℕ) (members : List (ℕ × ℕ)) (o h : ℕ) → o < length lengths → IsFilling (take o lengths) h first members
    → h ≡ get_or lengths o 0 → AreMembers (take (o + 1) lengths) first members
ends-at lengths first members o h l f e =
    subst (λ (ns : List ℕ). AreMembers ns first members) (ap (λ (n : ℕ). take o lengths ++ n ∷ []) e ∙ sym (take_more lengths o 0 l)) f.so_far
