-- How many lists and blocks the nodes of a store have, counted by the trees of the nodes.
use Rattle.std.proofs.Common.{◌≡◌, ℕ, zero, suc, Bool, List, [], ◌∷◌, ◌++◌, length, map, slice_get, Some, refl, sym, ap, subst, ◌∙◌, arith, ◌⊎◌, inl, inr}
use Rattle.std.specs.List.{flat_map}
use Rattle.std.specs.Bool.{Decides}
use Rattle.std.proofs.lemmas.Option.{same_Some}
use Rattle.std.proofs.lemmas.List.{length-map}
use Rattle.block_lists.specs.Blocks.{blocks_of, distinct, distinct_blocks, nonempty, same_numbers, Among, StandOnce}
use Rattle.block_lists.proofs.Blocks.{numbers_decide}
use Rattle.block_lists.proofs.Counting.{as_many, nonempty-from, nonempty-has, nonempty-once, once-map}
use Rattle.block_lists.proofs.Cutting.{blocks_join, blocks_of-map}
use Rattle.block_lists.proofs.Distinct.{among-head, among-tail, among-left, among-right, slice-map, slice-unmap, distinct_once, distinct_has, distinct_from}

-- ---- the parts of each element

-- an element of one of the lists that g gives, and which
pub record PartOf {A B : Type 0} (g : A → List B) (xs : List A) (y : B) : Type 0 where
  pub whole : A
  pub among : Among xs whole
  pub part : Among (g whole) y

pub split : {B : Type 0} → (xs ys : List B) (y : B) → Among (xs ++ ys) y → Among xs y ⊎ Among ys y
split [] ys y a = inr a
split (x ∷ xs) ys y a = by a.place a.there (split xs ys y)
  where
    by : (k : ℕ) → slice_get (x ∷ xs ++ ys) k ≡ Some y → (Among (xs ++ ys) y → Among xs y ⊎ Among ys y)
        → Among (x ∷ xs) y ⊎ Among ys y
    by zero e rest = inl (record { place = 0; there = e })
    by (suc k) e rest = on (rest (record { place = k; there = e }))
      where
        on : Among xs y ⊎ Among ys y → Among (x ∷ xs) y ⊎ Among ys y
        on (inl b) = inl (among-tail x xs y b)
        on (inr b) = inr b

pub flat-from : {A B : Type 0} → (g : A → List B) (xs : List A) (y : B) → Among (flat_map g xs) y → PartOf g xs y
flat-from g [] y a = let e = a.there in cc
flat-from g (x ∷ xs) y a = by (split (g x) (flat_map g xs) y a) (flat-from g xs y)
  where
    by : Among (g x) y ⊎ Among (flat_map g xs) y → (Among (flat_map g xs) y → PartOf g xs y) → PartOf g (x ∷ xs) y
    by (inl b) rest = record { whole = x; among = among-head x xs; part = b }
    by (inr b) rest = let r = rest b in record { whole = r.whole; among = among-tail x xs r.whole r.among; part = r.part }

pub flat-has : {A B : Type 0} → (g : A → List B) (xs : List A) (x : A) (y : B) → Among xs x → Among (g x) y → Among (flat_map g xs) y
flat-has {A} g xs x y a b = by xs a.place a.there
  where
    by : (zs : List A) (k : ℕ) → slice_get zs k ≡ Some x → Among (flat_map g zs) y
    by [] k e = cc
    by (z ∷ zs) zero e = among-left (g z) (flat_map g zs) y (subst (λ w. Among (g w) y) (sym (same_Some z x e)) b)
    by (z ∷ zs) (suc k) e = among-right (g z) (flat_map g zs) y (by zs k e)

pub among-map : {A B : Type 0} → (g : A → B) (xs : List A) (x : A) → Among xs x → Among (map g xs) (g x)
among-map g xs x a = record { place = a.place; there = slice-map g xs a.place x a.there }

-- ---- counts of lists of places, and of what stands at the places

module _ {Y : Type 0} (same : List Y → List Y → Bool) (decides : (u w : List Y) → Decides (same u w) (u ≡ w)) (f : ℕ → Y)
    (In : ℕ → Type 0) (apart : (m n : ℕ) → In m → In n → f m ≡ f n → m ≡ n) where
  apart-lists : (p q : List ℕ) → ((n : ℕ) → Among p n → In n) → ((n : ℕ) → Among q n → In n) → map f p ≡ map f q → p ≡ q
  apart-lists [] [] b c e = refl
  apart-lists [] (n ∷ q) b c e = cc
  apart-lists (m ∷ p) [] b c e = cc
  apart-lists (m ∷ p) (n ∷ q) b c e =
      let h : f m ≡ f n = cc in
      let t : map f p ≡ map f q = cc in
      let i = apart m n (b m (among-head m p)) (c n (among-head n q)) h in
      let r = apart-lists p q (λ k a. b k (among-tail m p k a)) (λ k a. c k (among-tail n q k a)) t in
      cc

  module _ (ls : List (List ℕ)) (us : List (List Y)) (once : StandOnce ls)
      (within : (p : List ℕ) → Among ls p → (n : ℕ) → Among p n → In n)
      (to : (p : List ℕ) → Among ls p → Among us (map f p))
      (from : (u : List Y) → Among us u → PartOf (λ p. map f p ∷ []) ls u) where
    is_of : (u : List Y) (r : PartOf (λ p. map f p ∷ []) ls u) → map f r.whole ≡ u
    is_of u r = by r.part.place r.part.there
      where
        by : (k : ℕ) → slice_get (map f r.whole ∷ []) k ≡ Some u → map f r.whole ≡ u
        by zero e = same_Some (map f r.whole) u e
        by (suc k) e = cc

    pub lists_counted : length (nonempty ls) ≡ length (distinct same (nonempty us))
    lists_counted =
        sym (length-map (nonempty ls) (map f))
        ∙ as_many (map (map f) (nonempty ls)) (distinct same (nonempty us))
        (once-map (map f) (nonempty ls) (nonempty-once ls once)
        (λ p q a b. apart-lists p q (within p (nonempty-from ls p a).0) (within q (nonempty-from ls q b).0)))
        (distinct_once same decides (nonempty us)) there back
      where
        there : (u : List Y) → Among (map (map f) (nonempty ls)) u → Among (distinct same (nonempty us)) u
        there u a =
            let w = slice-unmap (map f) (nonempty ls) a.place u a.there in
            let p = nonempty-from ls w.item (record { place = a.place; there = w.there }) in
            let l = length-map w.item f in
            subst (Among (distinct same (nonempty us))) w.is
            (distinct_has same decides (nonempty us) (map f w.item)
            (nonempty-has us (map f w.item) (to w.item p.0) (omega (arith, p.1))))

        back : (u : List Y) → Among (distinct same (nonempty us)) u → Among (map (map f) (nonempty ls)) u
        back u a =
            let q = nonempty-from us u (distinct_from same decides (nonempty us) u a) in
            let r = from u q.0 in
            let e = is_of u r in
            let l = length-map r.whole f in
            let m = ap length e in
            subst (Among (map (map f) (nonempty ls))) e
            (among-map (map f) (nonempty ls) r.whole (nonempty-has ls r.whole r.among (omega (arith, q.1))))

    entries : (p b : List ℕ) → Among (blocks_of p) b → (n : ℕ) → Among b n → Among p n
    entries p b a n c = subst (λ q. Among q n) (blocks_join p) (flat-has (λ d. d) (blocks_of p) b n a c)

    pub blocks_counted : length (distinct_blocks ls) ≡ length (distinct same (flat_map blocks_of us))
    blocks_counted =
        sym (length-map (distinct_blocks ls) (map f))
        ∙ as_many (map (map f) (distinct_blocks ls)) (distinct same (flat_map blocks_of us))
        (once-map (map f) (distinct_blocks ls) (distinct_once same_numbers numbers_decide (flat_map blocks_of ls))
        (λ b d x y. apart-lists b d (all b x) (all d y)))
        (distinct_once same decides (flat_map blocks_of us)) there back
      where
        all : (b : List ℕ) → Among (distinct_blocks ls) b → (n : ℕ) → Among b n → In n
        all b x n c =
            let r = flat-from blocks_of ls b (distinct_from same_numbers numbers_decide (flat_map blocks_of ls) b x) in
            within r.whole r.among n (entries r.whole b r.part n c)

        there : (u : List Y) → Among (map (map f) (distinct_blocks ls)) u → Among (distinct same (flat_map blocks_of us)) u
        there u a =
            let w = slice-unmap (map f) (distinct_blocks ls) a.place u a.there in
            let r = flat-from blocks_of ls w.item (distinct_from same_numbers numbers_decide (flat_map blocks_of ls) w.item
            (record { place = a.place; there = w.there })) in
            subst (Among (distinct same (flat_map blocks_of us))) w.is
            (distinct_has same decides (flat_map blocks_of us) (map f w.item)
            (flat-has blocks_of us (map f r.whole) (map f w.item) (to r.whole r.among)
            (subst (λ bs. Among bs (map f w.item)) (sym (blocks_of-map f r.whole))
            (among-map (map f) (blocks_of r.whole) w.item r.part))))

        back : (u : List Y) → Among (distinct same (flat_map blocks_of us)) u → Among (map (map f) (distinct_blocks ls)) u
        back u a =
            let q = flat-from blocks_of us u (distinct_from same decides (flat_map blocks_of us) u a) in
            let r = from q.whole q.among in
            let e = is_of q.whole r in
            let b = subst (λ bs. Among bs u) (ap blocks_of (sym e) ∙ blocks_of-map f r.whole) q.part in
            let w = slice-unmap (map f) (blocks_of r.whole) b.place u b.there in
            subst (Among (map (map f) (distinct_blocks ls))) w.is
            (among-map (map f) (distinct_blocks ls) w.item
            (distinct_has same_numbers numbers_decide (flat_map blocks_of ls) w.item
            (flat-has blocks_of ls r.whole w.item r.among (record { place = b.place; there = w.there }))))
