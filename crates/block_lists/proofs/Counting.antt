-- Lists of one length, since each element of one is an element of the other, and stands once in each.
use Rattle.std.proofs.Common.{◌≡◌, ◌≢◌, ℕ, zero, suc, ◌<◌, ◌≤◌, ◌+◌, List, [], ◌∷◌, ◌++◌, length, map, slice_get, Some, refl, sym, ap, ◌∙◌, arith}
use Rattle.std.proofs.lemmas.Option.{same_Some}
use Rattle.block_lists.specs.Blocks.{Among, StandOnce, nonempty}
use Rattle.block_lists.proofs.Distinct.{among-head, among-tail, slice-unmap}

module _ {X : Type 0} where
  -- the list without the element at a place
  abbrev without : List X → ℕ → List X
  without [] n = []
  without (y ∷ ys) zero = ys
  without (y ∷ ys) (suc n) = y ∷ without ys n

  length-without : (ys : List X) (n : ℕ) (x : X) → slice_get ys n ≡ Some x → length ys ≡ suc (length (without ys n))
  length-without [] n x e = cc
  length-without (y ∷ ys) zero x e = refl
  length-without (y ∷ ys) (suc n) x e = ap suc (length-without ys n x e)

  left-without : (ys : List X) (n k : ℕ) (x y : X) → slice_get ys n ≡ Some x → slice_get ys k ≡ Some y → x ≢ y
      → Among (without ys n) y
  left-without [] n k x y e f h = cc
  left-without (z ∷ ys) zero zero x y e f h = absurd (h (same_Some x y (sym e ∙ f)))
  left-without (z ∷ ys) zero (suc k) x y e f h = record { place = k; there = f }
  left-without (z ∷ ys) (suc n) zero x y e f h = record { place = 0; there = f }
  left-without (z ∷ ys) (suc n) (suc k) x y e f h = among-tail z (without ys n) y (left-without ys n k x y e f h)

  once-tail : (x : X) (xs : List X) → StandOnce (x ∷ xs) → StandOnce xs
  once-tail x xs o i j y e f = let k = o (suc i) (suc j) y e f in omega arith

  once-head : (x : X) (xs : List X) → StandOnce (x ∷ xs) → (i : ℕ) → slice_get xs i ≢ Some x
  once-head x xs o i e = let k = o zero (suc i) x refl e in omega arith

  once-cons : (x : X) (xs : List X) → StandOnce xs → ((i : ℕ) → slice_get xs i ≢ Some x) → StandOnce (x ∷ xs)
  once-cons x xs o h zero zero y e f = refl
  once-cons x xs o h zero (suc j) y e f = absurd (h j (f ∙ sym e))
  once-cons x xs o h (suc i) zero y e f = absurd (h i (e ∙ sym f))
  once-cons x xs o h (suc i) (suc j) y e f = ap suc (o i j y e f)

  fewer : (xs ys : List X) → StandOnce xs → ((x : X) → Among xs x → Among ys x) → length xs ≤ length ys
  fewer [] ys o h = omega arith
  fewer (x ∷ xs) ys o h =
      let a = h x (among-head x xs) in
      let rest : (y : X) → Among xs y → Among (without ys a.place) y =
      λ y b.
      let c = h y (among-tail x xs y b) in
      left-without ys a.place c.place x y a.there c.there
      (λ e. once-head x xs o b.place (b.there ∙ ap Some (sym e)))
      in
      let l = fewer xs (without ys a.place) (once-tail x xs o) rest in
      let m = length-without ys a.place x a.there in
      omega arith

  pub as_many : (xs ys : List X) → StandOnce xs → StandOnce ys → ((x : X) → Among xs x → Among ys x)
      → ((x : X) → Among ys x → Among xs x) → length xs ≡ length ys
  as_many xs ys o p h k = let l = fewer xs ys o h in let m = fewer ys xs p k in omega arith

-- ---- lists that have an entry

module _ {X : Type 0} where
  pub nonempty-from : (ls : List (List X)) (l : List X) → Among (nonempty ls) l → Among ls l × (0 < length l)
  nonempty-from [] l a = let e = a.there in cc
  nonempty-from ([] ∷ ls) l a = let r = nonempty-from ls l a in (among-tail [] ls l r.0, r.1)
  nonempty-from ((x ∷ xs) ∷ ls) l a = by a.place a.there (nonempty-from ls l)
    where
      by : (k : ℕ) → slice_get ((x ∷ xs) ∷ nonempty ls) k ≡ Some l → (Among (nonempty ls) l → Among ls l × (0 < length l))
          → Among ((x ∷ xs) ∷ ls) l × (0 < length l)
      by zero e rest =
          let f = same_Some (x ∷ xs) l e in
          let g = ap length f in
          (record { place = 0; there = e }, omega arith)
      by (suc k) e rest =
          let r = rest (record { place = k; there = e }) in
          (among-tail (x ∷ xs) ls l r.0, r.1)

  pub nonempty-has : (ls : List (List X)) (l : List X) → Among ls l → 0 < length l → Among (nonempty ls) l
  nonempty-has [] l a h = let e = a.there in cc
  nonempty-has ([] ∷ ls) l a h = by a.place a.there (nonempty-has ls l)
    where
      by : (k : ℕ) → slice_get ([] ∷ ls) k ≡ Some l → (Among ls l → 0 < length l → Among (nonempty ls) l) → Among (nonempty ls) l
      by zero e rest = let f = ap length (same_Some [] l e) in absurd (omega arith)
      by (suc k) e rest = rest (record { place = k; there = e }) h
  nonempty-has ((x ∷ xs) ∷ ls) l a h = by a.place a.there (nonempty-has ls l)
    where
      by : (k : ℕ) → slice_get ((x ∷ xs) ∷ ls) k ≡ Some l → (Among ls l → 0 < length l → Among (nonempty ls) l)
          → Among ((x ∷ xs) ∷ nonempty ls) l
      by zero e rest = record { place = 0; there = e }
      by (suc k) e rest = among-tail (x ∷ xs) (nonempty ls) l (rest (record { place = k; there = e }) h)

  pub nonempty-once : (ls : List (List X)) → StandOnce ls → StandOnce (nonempty ls)
  nonempty-once [] o = o
  nonempty-once ([] ∷ ls) o = nonempty-once ls (once-tail [] ls o)
  nonempty-once ((x ∷ xs) ∷ ls) o =
      once-cons (x ∷ xs) (nonempty ls) (nonempty-once ls (once-tail (x ∷ xs) ls o))
      (λ i e.
      let r = nonempty-from ls (x ∷ xs) (record { place = i; there = e }) in
      once-head (x ∷ xs) ls o r.0.place r.0.there)

  pub nonempty-append : (ls ms : List (List X)) → length (nonempty (ls ++ ms)) ≡ length (nonempty ls) + length (nonempty ms)
  nonempty-append [] ms = omega arith
  nonempty-append ([] ∷ ls) ms = nonempty-append ls ms
  nonempty-append ((x ∷ xs) ∷ ls) ms = let r = nonempty-append ls ms in omega arith

-- what is injective on the elements keeps them apart
pub once-map : {X Y : Type 0} → (f : X → Y) (xs : List X) → StandOnce xs
    → ((x y : X) → Among xs x → Among xs y → f x ≡ f y → x ≡ y) → StandOnce (map f xs)
once-map f xs o inj i j y e g =
    let p = slice-unmap f xs i y e in
    let q = slice-unmap f xs j y g in
    let same = inj p.item q.item (record { place = i; there = p.there }) (record { place = j; there = q.there }) (p.is ∙ sym q.is) in
    o i j p.item p.there (q.there ∙ ap Some (sym same))
