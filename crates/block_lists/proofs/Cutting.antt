-- Blocks of lists: what they join to, which entries they have, and how many.
use Rattle.std.proofs.Common.{◌≡◌, ℕ, ◌<◌, ◌≤◌, ◌+◌, ◌*◌, ◌/◌, ◌%◌, List, [], ◌∷◌, ◌++◌, length, map, take, drop, get_or, slice_get, Some, refl, sym, ap, subst, ◌∙◌, arith, zero, suc, take-append-drop, length-drop, length-take, get_or-take, get_or-drop, ◌-◌, ◌⊎◌, inl, inr}
use Rattle.std.proofs.lemmas.Bool.{cases_lt}
use Rattle.std.specs.List.{flat_map}
use Rattle.std.proofs.lemmas.List.{take-map, drop-map, length-map}
use Rattle.block_lists.specs.Blocks.{cut, blocks_of}

module _ {X : Type 0} where
  -- room for more cuts changes nothing
  pub cut_enough : (n m : ℕ) (xs : List X) → length xs ≤ n → length xs ≤ m → cut n xs ≡ cut m xs
  cut_enough zero zero xs h k = refl
  cut_enough zero (suc m) [] h k = refl
  cut_enough zero (suc m) (x ∷ xs) h k = absurd (omega arith)
  cut_enough (suc n) zero [] h k = refl
  cut_enough (suc n) zero (x ∷ xs) h k = absurd (omega arith)
  cut_enough (suc n) (suc m) [] h k = refl
  cut_enough (suc n) (suc m) (x ∷ xs) h k =
      let l = length-drop 8 (x ∷ xs) in
      ap (λ bs. take 8 (x ∷ xs) ∷ bs) (cut_enough n m (drop 8 (x ∷ xs)) (omega arith) (omega arith))

  pub blocks_of-more : (x : X) (xs : List X) → blocks_of (x ∷ xs) ≡ take 8 (x ∷ xs) ∷ blocks_of (drop 8 (x ∷ xs))
  blocks_of-more x xs =
      let l = length-drop 8 (x ∷ xs) in
      ap (λ bs. take 8 (x ∷ xs) ∷ bs)
      (cut_enough (length xs) (length (drop 8 (x ∷ xs))) (drop 8 (x ∷ xs)) (omega arith) (omega arith))

  cut_joins : (n : ℕ) (xs : List X) → length xs ≤ n → flat_map (λ b. b) (cut n xs) ≡ xs
  cut_joins zero [] h = refl
  cut_joins zero (x ∷ xs) h = absurd (omega arith)
  cut_joins (suc n) [] h = refl
  cut_joins (suc n) (x ∷ xs) h =
      let l = length-drop 8 (x ∷ xs) in
      ap (λ ys. take 8 (x ∷ xs) ++ ys) (cut_joins n (drop 8 (x ∷ xs)) (omega arith)) ∙ take-append-drop 8 (x ∷ xs)

  pub blocks_join : (xs : List X) → flat_map (λ b. b) (blocks_of xs) ≡ xs
  blocks_join xs = cut_joins (length xs) xs (omega arith)

  cut_none : (n : ℕ) (xs : List X) → length xs ≤ n → length (cut n xs) ≡ 0 → length xs ≡ 0
  cut_none zero xs h l = omega arith
  cut_none (suc n) [] h l = refl
  cut_none (suc n) (x ∷ xs) h l = absurd (omega arith)

  -- the block of an entry, which stands there by its place
  pub record IsBlockOf (bs : List (List X)) (xs : List X) (at : ℕ) : Type 0 where
    pub block : List X
    pub there : slice_get bs (at / 8) ≡ Some block
    pub within : at % 8 < length block
    pub is : (d : X) → get_or block (at % 8) d ≡ get_or xs at d

  cut_has : (n : ℕ) (xs : List X) (at : ℕ) → length xs ≤ n → at < length xs → IsBlockOf (cut n xs) xs at
  cut_has zero xs at h k = absurd (omega arith)
  cut_has (suc n) [] at h k = absurd (omega arith)
  cut_has (suc n) (x ∷ xs) at h k = by (cases_lt at 8) (cut_has n (drop 8 (x ∷ xs)) (at - 8))
    where
      by : (at < 8) ⊎ (8 ≤ at)
          → (length (drop 8 (x ∷ xs)) ≤ n → at - 8 < length (drop 8 (x ∷ xs)) → IsBlockOf (cut n (drop 8 (x ∷ xs))) (drop 8 (x ∷ xs)) (at - 8))
          → IsBlockOf (cut (suc n) (x ∷ xs)) (x ∷ xs) at
      by (inl l) rest =
          let q : at / 8 ≡ 0 = omega arith in
          let r : at % 8 ≡ at = omega arith in
          let t = length-take 8 (x ∷ xs) in
          let w : at < length (take 8 (x ∷ xs)) = omega arith in
          record {
            block = take 8 (x ∷ xs);
            there = ap (slice_get (take 8 (x ∷ xs) ∷ cut n (drop 8 (x ∷ xs)))) q;
            within = subst (λ i. i < length (take 8 (x ∷ xs))) (sym r) w;
            is = λ d. ap (λ i. get_or (take 8 (x ∷ xs)) i d) r ∙ get_or-take 8 (x ∷ xs) at d l;
          }
      by (inr l) rest =
          let e : length (drop 8 (x ∷ xs)) ≡ length (x ∷ xs) - 8 = length-drop 8 (x ∷ xs) in
          let q : at / 8 ≡ suc ((at - 8) / 8) = omega arith in
          let r : at % 8 ≡ (at - 8) % 8 = omega arith in
          let back : 8 + (at - 8) ≡ at = omega arith in
          let f = rest (omega arith) (omega arith) in
          record {
            block = f.block;
            there = ap (slice_get (take 8 (x ∷ xs) ∷ cut n (drop 8 (x ∷ xs)))) q ∙ f.there;
            within = subst (λ i. i < length f.block) (sym r) f.within;
            is = λ d. ap (λ i. get_or f.block i d) r ∙ f.is d ∙ get_or-drop 8 (x ∷ xs) (at - 8) d
                ∙ ap (λ i. get_or (x ∷ xs) i d) back;
          }

  pub blocks_have : (xs : List X) (at : ℕ) → at < length xs → IsBlockOf (blocks_of xs) xs at
  blocks_have xs at l = cut_has (length xs) xs at (omega arith) l

  cut_some : (n : ℕ) (xs : List X) → 0 < length (cut n xs) → 0 < length xs
  cut_some zero xs h = absurd (omega arith)
  cut_some (suc n) [] h = absurd (omega arith)
  cut_some (suc n) (x ∷ xs) h = omega arith

  -- all blocks but the last are full
  cut_length : (n : ℕ) (xs : List X) (last : ℕ) (b : List X) → length xs ≤ n → slice_get (cut n xs) last ≡ Some b
      → length (cut n xs) ≡ suc last → length xs ≡ last * 8 + length b
  cut_length zero xs last b h e l = cc
  cut_length (suc n) [] last b h e l = cc
  cut_length (suc n) (x ∷ xs) zero b h e l =
      let k : length (cut n (drop 8 (x ∷ xs))) ≡ 0 = omega arith in
      let d = length-drop 8 (x ∷ xs) in
      let none = cut_none n (drop 8 (x ∷ xs)) (omega arith) k in
      let t = length-take 8 (x ∷ xs) in
      let f : take 8 (x ∷ xs) ≡ b = cc in
      let g = ap length f in
      omega arith
  cut_length (suc n) (x ∷ xs) (suc last) b h e l =
      let d = length-drop 8 (x ∷ xs) in
      let r = cut_length n (drop 8 (x ∷ xs)) last b (omega arith) e (omega arith) in
      let q : 0 < length (drop 8 (x ∷ xs)) = cut_some n (drop 8 (x ∷ xs)) (omega arith) in
      omega arith

  pub blocks_length : (xs : List X) (last : ℕ) (b : List X) → slice_get (blocks_of xs) last ≡ Some b
      → length (blocks_of xs) ≡ suc last → length xs ≡ last * 8 + length b
  blocks_length xs last b e l = cut_length (length xs) xs last b (omega arith) e l

  pub blocks_none : (xs : List X) → length (blocks_of xs) ≡ 0 → length xs ≡ 0
  blocks_none xs l = cut_none (length xs) xs (omega arith) l

-- blocks of a list that was mapped
pub blocks_of-map : {X Y : Type 0} → (f : X → Y) (xs : List X) → blocks_of (map f xs) ≡ map (map f) (blocks_of xs)
blocks_of-map f xs = ap (λ n. cut n (map f xs)) (length-map xs f) ∙ cut-map (length xs) xs
  where
    cut-map : (n : ℕ) (xs : List _) → cut n (map f xs) ≡ map (map f) (cut n xs)
    cut-map zero xs = refl
    cut-map (suc n) [] = refl
    cut-map (suc n) (x ∷ xs) =
        let t = take-map f 8 (x ∷ xs) in
        let d = ap (cut n) (drop-map f 8 (x ∷ xs)) ∙ cut-map n (drop 8 (x ∷ xs)) in
        cc
