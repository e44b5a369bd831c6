-- Tables of blocks and of lists: what putting a list does to them, and what is read from them.
use Rattle.std.proofs.Common.{◌≡◌, ◌≢◌, ℕ, ◌<◌, ◌≤◌, ◌+◌, ◌*◌, ◌^◌, ◌/◌, ◌%◌, Bool, true, List, [], ◌∷◌, ◌++◌, length, take, drop, get_or, slice_get, Some, refl, sym, ap, subst, ◌∙◌, arith, ◌⊎◌, inl, inr, zero, suc, append_assoc, append-nil, take_at, length-append, length-take, get_or-take, take_all, take-append-drop, ap₂, min}
use Rattle.std.specs.Prelude.{slice_index}
use Rattle.std.specs.List.{flat_map}
use Rattle.std.specs.Bool.{Decides}
use Rattle.std.proofs.lemmas.Bool.Decides.{Decides-eqb}
use Rattle.std.proofs.lemmas.Slice.Eq.{slice_eq-Decides}
use Rattle.std.proofs.lemmas.List.{map_push, length-map, get_or_append_left, take_min, take_more, drop_min, take-map, take-append-le}
use Rattle.block_lists.proofs.Below.{below_head, below_tail, AreBelow-more}
use Rattle.std.proofs.lemmas.Option.{same_Some}
use Rattle.smallvec.specs.SmallVec.{SmallVec}
use Rattle.indexmap.specs.IndexSet.{insert_key, insert_all}
use Rattle.diagram_terms.specs.Dual.{AreBelow}
use Rattle.block_lists.specs.Blocks.{blocks_of, nonempty, distinct_blocks, items_of, same_numbers, blocks_at, joined, lists_in, IsPut, Among, StandOnce, AreBlocksOf, AreInBlocks, PutsList}
use Rattle.block_lists.proofs.Cutting.{IsBlockOf, blocks_of-more, blocks_join, blocks_have, blocks_length, blocks_none}
use Rattle.block_lists.proofs.Counting.{nonempty-append}
use Rattle.block_lists.proofs.Distinct.{among-head, among-tail, among-left, among-right, slice-below, slice-from_get, get-from_slice, slice-map, slice-unmap, slice-push_cases, put_is, inserts, inserts_many, insert_all_present, distinct_once, distinct_has, insert_all-append, map-insert_key}

pub numbers_decide : (xs ys : List ℕ) → Decides (same_numbers xs ys) (xs ≡ ys)
numbers_decide xs ys = slice_eq-Decides Decides-eqb xs ys (same_numbers xs ys) refl

-- whether two vectors are equal
abbrev pub vectors_eq : SmallVec ℕ → SmallVec ℕ → Bool
vectors_eq v w = same_numbers v.items w.items

-- ---- the blocks of one list

-- some blocks of a list were put, and the rest is left
pub record PutsBlocks (old now : List (List ℕ)) (ns : List ℕ) (rest xs : List ℕ) : Type 0 where
  pub grows : take (length old) now ≡ old
  pub within : AreBelow ns (length now)
  pub are : blocks_at now ns ++ blocks_of rest ≡ blocks_of xs
  pub blocks : insert_all same_numbers now (blocks_of rest) ≡ insert_all same_numbers old (blocks_of xs)

pub puts_none : (old : List (List ℕ)) (xs : List ℕ) → PutsBlocks old old [] xs xs
puts_none old xs = record {
  grows = take_all (length old) old (omega arith);
  within = record { below = λ i h. absurd (omega arith) };
  are = refl;
  blocks = refl;
}

blocks_at-more : (now more : List (List ℕ)) (ns : List ℕ) → AreBelow ns (length now)
    → blocks_at (now ++ more) ns ≡ blocks_at now ns
blocks_at-more now more [] b = refl
blocks_at-more now more (n ∷ ns) b =
    let h = get_or_append_left now more [] n (below_head (length now) n ns b) in
    let r = blocks_at-more now more ns (below_tail (length now) n ns b) in
    cc

min_comm : (m n : ℕ) → min m n ≡ min n m
min_comm m n = omega arith

below_push : (k : ℕ) (ns : List ℕ) (n : ℕ) → AreBelow ns k → n < k → AreBelow (ns ++ n ∷ []) k
below_push k [] n b h = record { below = one }
  where
    one : (i : ℕ) → i < 1 → get_or (n ∷ []) i 0 < k
    one zero l = h
    one (suc i) l = absurd (omega arith)
below_push k (m ∷ ns) n b h = record { below = both (below_push k ns n (below_tail k m ns b) h) }
  where
    both : AreBelow (ns ++ n ∷ []) k → (i : ℕ) → i < length (m ∷ ns ++ n ∷ []) → get_or (m ∷ ns ++ n ∷ []) i 0 < k
    both rest zero l = below_head k m ns b
    both rest (suc i) l = rest.below i (omega arith)

-- one block more
pub puts_one : (old now new : List (List ℕ)) (ns rest xs block : List ℕ) (number : ℕ) → PutsBlocks old now ns rest xs
    → 0 < length rest → block ≡ take (min (length rest) 8) rest
    → new ≡ insert_key same_numbers now block → slice_get new number ≡ Some block
    → PutsBlocks old new (ns ++ number ∷ []) (drop (min (length rest) 8) rest) xs
puts_one old now new ns [] xs block number p h b keys at = absurd (omega arith)
puts_one old now new ns (x ∷ rest) xs block number p h b keys at =
    let one = inserts same_numbers numbers_decide now block in
    let grown : new ≡ now ++ one.more = keys ∙ one.extends in
    let long : length new ≡ length now + length one.more = ap length grown ∙ length-append now one.more in
    let l = slice-below new number block at in
    let from : length old ≤ length now = omega (arith, ap length p.grows, length-take (length old) now) in
    let first : block ≡ take 8 (x ∷ rest) = b ∙ ap (λ k. take k (x ∷ rest)) (min_comm (length (x ∷ rest)) 8) ∙ take_min 8 (x ∷ rest) in
    let left : drop (min (length (x ∷ rest)) 8) (x ∷ rest) ≡ drop 8 (x ∷ rest) =
    ap (λ k. drop k (x ∷ rest)) (min_comm (length (x ∷ rest)) 8) ∙ drop_min 8 (x ∷ rest)
    in
    let cuts : blocks_of (x ∷ rest) ≡ block ∷ blocks_of (drop 8 (x ∷ rest)) =
    blocks_of-more x rest ∙ ap (λ c. c ∷ blocks_of (drop 8 (x ∷ rest))) (sym first)
    in
    let same : blocks_at new ns ≡ blocks_at now ns = ap (λ bs. blocks_at bs ns) grown ∙ blocks_at-more now one.more ns p.within in
    subst (λ r. PutsBlocks old new (ns ++ number ∷ []) r xs) (sym left) (record {
      grows = ap (take (length old)) grown ∙ take-append-le (length old) now one.more from ∙ p.grows;
      within = below_push (length new) ns number (AreBelow-more (length now) (length new) (omega arith) ns p.within) l;
      are = ap (λ bs. bs ++ blocks_of (drop 8 (x ∷ rest)))
          (map_push (λ n. get_or new n []) ns number ∙ ap₂ (λ bs c. bs ++ c ∷ []) same (get-from_slice new number block [] at))
          ∙ append_assoc (blocks_at now ns) (block ∷ []) (blocks_of (drop 8 (x ∷ rest)))
          ∙ ap (λ bs. blocks_at now ns ++ bs) (sym cuts) ∙ p.are;
      blocks = ap (λ bs. insert_all same_numbers bs (blocks_of (drop 8 (x ∷ rest)))) keys
          ∙ ap (insert_all same_numbers now) (sym cuts) ∙ p.blocks;
    })

-- all were put
pub puts_all : (old now : List (List ℕ)) (ns rest xs : List ℕ) → PutsBlocks old now ns rest xs → length rest ≡ 0
    → length xs < 2 ^ 64 → AreBlocksOf now ns xs × (now ≡ insert_all same_numbers old (blocks_of xs))
puts_all old now ns [] xs p h f = (
  record { fits = f; within = p.within; are = sym (append-nil (blocks_at now ns)) ∙ p.are },
  p.blocks,
)
puts_all old now ns (r ∷ rest) xs p h f = absurd (omega arith)

-- ---- tables of vectors

pub vectors_keys : (old new : List (SmallVec ℕ)) (v : SmallVec ℕ) → new ≡ insert_key vectors_eq old v
    → items_of new ≡ insert_key same_numbers (items_of old) v.items
vectors_keys old new v e = ap items_of e ∙ map-insert_key vectors_eq same_numbers (λ w. w.items) (λ a b. refl) old v

pub vector_at : (new : List (SmallVec ℕ)) (v k : SmallVec ℕ) (i : ℕ) → slice_get new i ≡ Some k → vectors_eq v k ≡ true
    → slice_get (items_of new) i ≡ Some v.items
vector_at new v k i at same =
    slice-map (λ w. w.items) new i k at ∙ ap Some (sym ((numbers_decide v.items k.items).0 same))

pub vector_put : (old new : List (SmallVec ℕ)) (v k : SmallVec ℕ) (i : ℕ) → new ≡ insert_key vectors_eq old v
    → slice_get new i ≡ Some k → vectors_eq v k ≡ true → IsPut (items_of old) (items_of new) v.items i
vector_put old new v k i e at same =
    put_is same_numbers numbers_decide (items_of old) (items_of new) v.items i v.items (vectors_keys old new v e)
    (vector_at new v k i at same) ((numbers_decide v.items v.items).1 refl)

-- ---- one list more

-- the table of blocks after a list was put has those that it had, and no others than the list's
joined-blocks : (bs : List (List ℕ)) (ns : List ℕ) → joined bs ns ≡ flat_map (λ b. b) (blocks_at bs ns)
joined-blocks bs [] = refl
joined-blocks bs (n ∷ ns) = ap (λ xs. get_or bs n [] ++ xs) (joined-blocks bs ns)

-- blocks with these numbers join to the list
joins : (bs : List (List ℕ)) (ns xs : List ℕ) → AreBlocksOf bs ns xs → joined bs ns ≡ xs
joins bs ns xs a = joined-blocks bs ns ∙ ap (flat_map (λ b. b)) a.are ∙ blocks_join xs

-- more blocks change none of the lists
blocks-more : (bs more : List (List ℕ)) (ns xs : List ℕ) → AreBlocksOf bs ns xs → AreBlocksOf (bs ++ more) ns xs
blocks-more bs more ns xs a = record {
  fits = a.fits;
  within = AreBelow-more (length bs) (length (bs ++ more)) (omega (arith, length-append bs more)) ns a.within;
  are = blocks_at-more bs more ns a.within ∙ a.are;
}

-- the number of a block that stands in the table is its place
numbers-inj : (bs : List (List ℕ)) → StandOnce bs → (ns ms : List ℕ) → AreBelow ns (length bs) → AreBelow ms (length bs)
    → blocks_at bs ns ≡ blocks_at bs ms → ns ≡ ms
numbers-inj bs once [] [] b c e = refl
numbers-inj bs once [] (m ∷ ms) b c e = cc
numbers-inj bs once (n ∷ ns) [] b c e = cc
numbers-inj bs once (n ∷ ns) (m ∷ ms) b c e =
    let h : get_or bs n [] ≡ get_or bs m [] = cc in
    let t : blocks_at bs ns ≡ blocks_at bs ms = cc in
    let p = slice-from_get bs n [] (below_head (length bs) n ns b) in
    let q = slice-from_get bs m [] (below_head (length bs) m ms c) in
    let x = once n m (get_or bs n []) p (q ∙ ap Some (sym h)) in
    let r = numbers-inj bs once ns ms (below_tail (length bs) n ns b) (below_tail (length bs) m ms c) t in
    cc

-- lists by their numbers
lists-more : (bs more nss : List (List ℕ))
    → ((k : ℕ) (ns : List ℕ) → slice_get nss k ≡ Some ns → AreBlocksOf bs ns (joined bs ns))
    → lists_in (bs ++ more) nss ≡ lists_in bs nss
lists-more bs more [] h = refl
lists-more bs more (ns ∷ nss) h =
    let a = h 0 ns refl in
    let e = joins (bs ++ more) ns (joined bs ns) (blocks-more bs more ns (joined bs ns) a) in
    let r = lists-more bs more nss (λ k ms g. h (suc k) ms g) in
    cc

flat_map-push : (f : List ℕ → List (List ℕ)) (ls : List (List ℕ)) (xs : List ℕ)
    → flat_map f (ls ++ xs ∷ []) ≡ flat_map f ls ++ f xs
flat_map-push f [] xs = append-nil (f xs)
flat_map-push f (l ∷ ls) xs = ap (λ bs. f l ++ bs) (flat_map-push f ls xs) ∙ sym (append_assoc (f l) (flat_map f ls) (f xs))

among-flat : (f : List ℕ → List (List ℕ)) (ls : List (List ℕ)) (i : ℕ) (l : List ℕ) (b : List ℕ) → slice_get ls i ≡ Some l
    → Among (f l) b → Among (flat_map f ls) b
among-flat f [] i l b e a = cc
among-flat f (m ∷ ls) zero l b e a =
    let g : l ≡ m = cc in among-left (f m) (flat_map f ls) b (subst (λ k. Among (f k) b) g a)
among-flat f (m ∷ ls) (suc i) l b e a = among-right (f m) (flat_map f ls) b (among-flat f ls i l b e a)

-- what putting a list does to what the tables stand for
pub record PutsIn (bs0 bs1 nss0 nss1 : List (List ℕ)) (xs : List ℕ) (place : ℕ) : Type 0 where
  pub tables : AreInBlocks bs1 nss1
  pub put : IsPut (lists_in bs0 nss0) (lists_in bs1 nss1) xs place

module _ (bs0 bs1 nss0 nss1 : List (List ℕ)) (xs : List ℕ) (place : ℕ) (tables : AreInBlocks bs0 nss0)
    (p : PutsList bs0 bs1 nss0 nss1 xs place) where
  there : slice_get (lists_in bs1 nss1) place ≡ Some xs
  there =
      slice-map (joined bs1) nss1 place p.numbers p.put.there ∙ ap Some (joins bs1 p.numbers xs p.are)

  old_lists : lists_in bs1 nss0 ≡ lists_in bs0 nss0
  old_lists =
      let m = inserts_many same_numbers numbers_decide bs0 (blocks_of xs) in
      ap (λ bs. lists_in bs nss0) (p.blocks ∙ m.extends) ∙ lists-more bs0 m.more nss0 tables.lists

  old_numbers : (k : ℕ) (ns : List ℕ) → slice_get nss0 k ≡ Some ns → AreBlocksOf bs1 ns (joined bs1 ns)
  old_numbers k ns at =
      let m = inserts_many same_numbers numbers_decide bs0 (blocks_of xs) in
      let a = subst (λ bs. AreBlocksOf bs ns (joined bs0 ns)) (sym (p.blocks ∙ m.extends))
      (blocks-more bs0 m.more ns (joined bs0 ns) (tables.lists k ns at))
      in
      subst (AreBlocksOf bs1 ns) (sym (joins bs1 ns (joined bs0 ns) a)) a

  put_there : nss1 ≡ nss0 → PutsIn bs0 bs1 nss0 nss1 xs place
  put_there e =
      let same : lists_in bs1 nss1 ≡ lists_in bs0 nss0 = ap (lists_in bs1) e ∙ old_lists in
      let at : slice_get (lists_in bs0 nss0) place ≡ Some xs = ap (λ ls. slice_get ls place) (sym same) ∙ there in
      let held : (b : List ℕ) → Among (blocks_of xs) b → Among bs0 b =
      λ b a. subst (λ bs. Among bs b) (sym tables.blocks)
      (distinct_has same_numbers numbers_decide (flat_map blocks_of (lists_in bs0 nss0)) b
      (among-flat blocks_of (lists_in bs0 nss0) place xs b at a))
      in
      let none : bs1 ≡ bs0 = p.blocks ∙ insert_all_present same_numbers numbers_decide bs0 (blocks_of xs) held in
      record {
        tables = record {
          lists = λ k ns at. old_numbers k ns (ap (λ nss. slice_get nss k) (sym e) ∙ at);
          blocks = none ∙ tables.blocks ∙ ap distinct_blocks (sym same);
        };
        put = record { there = there; adds = inl same };
      }

  put_new : nss1 ≡ nss0 ++ p.numbers ∷ [] → ((i : ℕ) → slice_get nss0 i ≢ Some p.numbers) → PutsIn bs0 bs1 nss0 nss1 xs place
  put_new e absent =
      let pushed : lists_in bs1 nss1 ≡ lists_in bs0 nss0 ++ xs ∷ [] =
      ap (lists_in bs1) e ∙ map_push (joined bs1) nss0 p.numbers
      ∙ ap₂ (λ ls l. ls ++ l ∷ []) old_lists (joins bs1 p.numbers xs p.are)
      in
      record {
        tables = record {
          lists = λ k ns at. by k ns (slice-push_cases nss0 p.numbers ns k (ap (λ nss. slice_get nss k) (sym e) ∙ at));
          blocks = p.blocks ∙ ap (λ bs. insert_all same_numbers bs (blocks_of xs)) tables.blocks
              ∙ sym (insert_all-append same_numbers [] (flat_map blocks_of (lists_in bs0 nss0)) (blocks_of xs))
              ∙ ap (insert_all same_numbers []) (sym (flat_map-push blocks_of (lists_in bs0 nss0) xs))
              ∙ ap distinct_blocks (sym pushed);
        };
        put = record { there = there; adds = inr (pushed, fresh) };
      }
    where
      by : (k : ℕ) (ns : List ℕ) → (slice_get nss0 k ≡ Some ns) ⊎ ((k ≡ length nss0) × (p.numbers ≡ ns))
          → AreBlocksOf bs1 ns (joined bs1 ns)
      by k ns (inl q) = old_numbers k ns q
      by k ns (inr q) = subst (λ ms. AreBlocksOf bs1 ms (joined bs1 ms)) q.1
          (subst (AreBlocksOf bs1 p.numbers) (sym (joins bs1 p.numbers xs p.are)) p.are)

      once : StandOnce bs1
      once = subst StandOnce (sym p.blocks)
          ((inserts_many same_numbers numbers_decide bs0 (blocks_of xs)).once
          (subst StandOnce (sym tables.blocks) (distinct_once same_numbers numbers_decide
          (flat_map blocks_of (lists_in bs0 nss0)))))

      fresh : (i : ℕ) → slice_get (lists_in bs0 nss0) i ≢ Some xs
      fresh i h =
          let w = slice-unmap (joined bs1) nss0 i xs (ap (λ ls. slice_get ls i) old_lists ∙ h) in
          let a = old_numbers i w.item w.there in
          let same : blocks_at bs1 w.item ≡ blocks_at bs1 p.numbers = a.are ∙ ap blocks_of w.is ∙ sym p.are.are in
          let e = numbers-inj bs1 once w.item p.numbers a.within p.are.within same in
          absent i (w.there ∙ ap Some e)

  pub puts_in : PutsIn bs0 bs1 nss0 nss1 xs place
  puts_in = by p.put.adds
    where
      by : (nss1 ≡ nss0) ⊎ ((nss1 ≡ nss0 ++ p.numbers ∷ []) × ((i : ℕ) → slice_get nss0 i ≢ Some p.numbers))
          → PutsIn bs0 bs1 nss0 nss1 xs place
      by (inl e) = put_there e
      by (inr e) = put_new e.0 e.1

-- the empty list has no blocks
pub no_blocks : (bs : List (List ℕ)) → AreBlocksOf bs [] []
no_blocks bs = record {
  fits = omega arith;
  within = record { below = λ i l. absurd (omega arith) };
  are = refl;
}

-- ---- the first lists alone

slice-take : {X : Type 0} → (xs : List X) (n i : ℕ) (x : X) → slice_get (take n xs) i ≡ Some x → slice_get xs i ≡ Some x
slice-take [] zero i x e = cc
slice-take [] (suc n) i x e = cc
slice-take (y ∷ xs) zero i x e = cc
slice-take (y ∷ xs) (suc n) zero x e = e
slice-take (y ∷ xs) (suc n) (suc i) x e = slice-take xs n i x e

pub among-below : (k : ℕ) (ns : List ℕ) (n : ℕ) → AreBelow ns k → Among ns n → n < k
among-below k ns n b a =
    let l = slice-below ns a.place n a.there in
    subst (λ m. m < k) (get-from_slice ns a.place n 0 a.there) (b.below a.place l)

all-below : (k : ℕ) (ns : List ℕ) → ((n : ℕ) → Among ns n → n < k) → AreBelow ns k
all-below k ns h = record {
  below = λ i l. h (get_or ns i 0) (record { place = i; there = slice-from_get ns i 0 l });
}

module _ (bs nss : List (List ℕ)) (lists blocks : ℕ) (tables : AreInBlocks bs nss)
    (count : blocks ≡ length (distinct_blocks (take lists (lists_in bs nss)))) where
  kept : take blocks bs ≡ distinct_blocks (take lists (lists_in bs nss))
  kept =
      let ls = lists_in bs nss in
      let first = take lists ls in
      let m = inserts_many same_numbers numbers_decide (distinct_blocks first) (flat_map blocks_of (drop lists ls)) in
      let whole : bs ≡ distinct_blocks first ++ m.more =
      tables.blocks ∙ ap distinct_blocks (sym (take-append-drop lists ls))
      ∙ ap (insert_all same_numbers []) (flat_map-append first (drop lists ls))
      ∙ insert_all-append same_numbers [] (flat_map blocks_of first) (flat_map blocks_of (drop lists ls)) ∙ m.extends
      in
      ap (take blocks) whole ∙ take_at (distinct_blocks first) m.more blocks (sym count)
    where
      flat_map-append : (ls ms : List (List ℕ)) → flat_map blocks_of (ls ++ ms) ≡ flat_map blocks_of ls ++ flat_map blocks_of ms
      flat_map-append [] ms = refl
      flat_map-append (l ∷ ls) ms =
          ap (λ bs. blocks_of l ++ bs) (flat_map-append ls ms)
          ∙ sym (append_assoc (blocks_of l) (flat_map blocks_of ls) (flat_map blocks_of ms))

  kept_block : (k : ℕ) (ns : List ℕ) → slice_get (take lists nss) k ≡ Some ns → (n : ℕ) → Among ns n → n < length (take blocks bs)
  kept_block k ns at n a =
      let at' = slice-take nss lists k ns at in
      let are = tables.lists k ns at' in
      let below : n < length bs = among-below (length bs) ns n are.within a in
      let b = get_or bs n [] in
      let held : Among (blocks_of (joined bs ns)) b =
      subst (λ cs. Among cs b) are.are (record { place = a.place; there = slice-map (λ m. get_or bs m []) ns a.place n a.there })
      in
      let list_at : slice_get (take lists (lists_in bs nss)) k ≡ Some (joined bs ns) =
      ap (λ ls. slice_get ls k) (take-map (joined bs) lists nss) ∙ slice-map (joined bs) (take lists nss) k ns at
      in
      let stands : Among (take blocks bs) b =
      subst (λ cs. Among cs b) (sym kept)
      (distinct_has same_numbers numbers_decide (flat_map blocks_of (take lists (lists_in bs nss))) b
      (among-flat blocks_of (take lists (lists_in bs nss)) k (joined bs ns) b list_at held))
      in
      let once = subst StandOnce (sym tables.blocks)
      (distinct_once same_numbers numbers_decide (flat_map blocks_of (lists_in bs nss))) in
      let same = once n stands.place b (slice-from_get bs n [] below) (slice-take bs blocks stands.place b stands.there) in
      let l = slice-below (take blocks bs) stands.place b stands.there in
      omega arith

  kept_list : (k : ℕ) (ns : List ℕ) → slice_get (take lists nss) k ≡ Some ns
      → AreBlocksOf (take blocks bs) ns (joined bs ns)
  kept_list k ns at =
      let are = tables.lists k ns (slice-take nss lists k ns at) in
      record {
        fits = are.fits;
        within = all-below (length (take blocks bs)) ns (kept_block k ns at);
        are = kept_blocks ns (kept_block k ns at) ∙ are.are;
      }
    where
      kept_blocks : (ns : List ℕ) → ((n : ℕ) → Among ns n → n < length (take blocks bs))
          → blocks_at (take blocks bs) ns ≡ blocks_at bs ns
      kept_blocks [] h = refl
      kept_blocks (n ∷ ns) h =
          let l = h n (among-head n ns) in
          let t = length-take blocks bs in
          let e = get_or-take blocks bs n [] (omega arith) in
          let r = kept_blocks ns (λ m a. h m (among-tail n ns m a)) in
          cc

  kept_lists : lists_in (take blocks bs) (take lists nss) ≡ take lists (lists_in bs nss)
  kept_lists = same (take lists nss) (λ k ns at. kept_list k ns at) ∙ sym (take-map (joined bs) lists nss)
    where
      same : (mss : List (List ℕ))
          → ((k : ℕ) (ns : List ℕ) → slice_get mss k ≡ Some ns → AreBlocksOf (take blocks bs) ns (joined bs ns))
          → lists_in (take blocks bs) mss ≡ lists_in bs mss
      same [] h = refl
      same (ns ∷ mss) h =
          let e = joins (take blocks bs) ns (joined bs ns) (h 0 ns refl) in
          let r = same mss (λ k ms at. h (suc k) ms at) in
          cc

  pub kept_tables : AreInBlocks (take blocks bs) (take lists nss)
  kept_tables = record {
    lists = λ k ns at.
        let a = kept_list k ns at in
        subst (AreBlocksOf (take blocks bs) ns) (sym (joins (take blocks bs) ns (joined bs ns) a)) a;
    blocks = kept ∙ ap distinct_blocks (sym kept_lists);
  }

  pub kept_is : lists_in (take blocks bs) (take lists nss) ≡ take lists (lists_in bs nss)
  kept_is = kept_lists

-- ---- what is read

-- the numbers of a list, and its blocks
pub record ReadsList (bs : List (List ℕ)) (ns xs : List ℕ) : Type 0 where
  pub are : AreBlocksOf bs ns xs
  pub count : length ns ≡ length (blocks_of xs)

pub reads_list : (bs nss : List (List ℕ)) → AreInBlocks bs nss → (list : ℕ) (ns : List ℕ) → slice_get nss list ≡ Some ns
    → ReadsList bs ns (get_or (lists_in bs nss) list [])
reads_list bs nss tables list ns at =
    let a = tables.lists list ns at in
    let e = get-from_slice (lists_in bs nss) list (joined bs ns) [] (slice-map (joined bs) nss list ns at) in
    let b = subst (AreBlocksOf bs ns) (sym e) a in
    record { are = b; count = sym (length-map ns (λ n. get_or bs n [])) ∙ ap length b.are }

-- the block of an entry
pub record ReadsEntry (bs : List (List ℕ)) (ns xs : List ℕ) (at : ℕ) : Type 0 where
  pub number : at / 8 < length ns
  pub block : (n : ℕ) → slice_get ns (at / 8) ≡ Some n → n < length bs
  pub within : (n : ℕ) (b : List ℕ) → slice_get ns (at / 8) ≡ Some n → slice_get bs n ≡ Some b → at % 8 < length b
  pub is : (n : ℕ) (b : List ℕ) (d : ℕ) → slice_get ns (at / 8) ≡ Some n → slice_get bs n ≡ Some b
      → get_or b (at % 8) d ≡ get_or xs at d

pub reads_entry : (bs : List (List ℕ)) (ns xs : List ℕ) (at : ℕ) → AreBlocksOf bs ns xs → at < length xs
    → ReadsEntry bs ns xs at
reads_entry bs ns xs at a l =
    let f = blocks_have xs at l in
    let i = slice-below (blocks_of xs) (at / 8) f.block f.there in
    let c = length-map ns (λ n. get_or bs n []) in
    let d = ap length a.are in
    record {
      number = omega arith;
      block = λ n e. among-below (length bs) ns n a.within (record { place = at / 8; there = e });
      within = λ n b e g. subst (λ c. at % 8 < length c) (same f n b e g) f.within;
      is = λ n b d e g. ap (λ c. get_or c (at % 8) d) (sym (same f n b e g)) ∙ f.is d;
    }
  where
    same : (f : IsBlockOf (blocks_of xs) xs at) (n : ℕ) (b : List ℕ) → slice_get ns (at / 8) ≡ Some n
        → slice_get bs n ≡ Some b → f.block ≡ b
    same f n b e g =
        let p = slice-map (λ m. get_or bs m []) ns (at / 8) n e in
        let q = ap (λ cs. slice_get cs (at / 8)) a.are ∙ f.there in
        let r = get-from_slice bs n b [] g in
        same_Some f.block b (sym q ∙ p ∙ ap Some r)

-- the last block
pub reads_length : (bs : List (List ℕ)) (ns xs : List ℕ) (last n : ℕ) (b : List ℕ) → AreBlocksOf bs ns xs
    → length ns ≡ suc last → slice_get ns last ≡ Some n → slice_get bs n ≡ Some b → length xs ≡ last * 8 + length b
reads_length bs ns xs last n b a c e g =
    let p = slice-map (λ m. get_or bs m []) ns last n e in
    let r = get-from_slice bs n b [] g in
    blocks_length xs last b (ap (λ cs. slice_get cs last) (sym a.are) ∙ p ∙ ap Some r)
    (ap length (sym a.are) ∙ length-map ns (λ n. get_or bs n []) ∙ c)

pub reads_empty : (bs : List (List ℕ)) (ns xs : List ℕ) → AreBlocksOf bs ns xs → length ns ≡ 0 → length xs ≡ 0
reads_empty bs ns xs a c =
    blocks_none xs (ap length (sym a.are) ∙ length-map ns (λ n. get_or bs n []) ∙ c)

-- the same of tables of vectors
module _ (bks nks : List (SmallVec ℕ)) (tables : AreInBlocks (items_of bks) (items_of nks)) (list : ℕ) (k : SmallVec ℕ)
    (held : slice_get nks list ≡ Some k) where
  list_read : ReadsList (items_of bks) k.items (get_or (lists_in (items_of bks) (items_of nks)) list [])
  list_read = reads_list (items_of bks) (items_of nks) tables list k.items (slice-map (λ v. v.items) nks list k held)

  pub list_fits : length (get_or (lists_in (items_of bks) (items_of nks)) list []) < 2 ^ 64
  list_fits = list_read.are.fits

  pub empty_list : length k.items ≡ 0 → 0 ≡ length (get_or (lists_in (items_of bks) (items_of nks)) list [])
  empty_list e = sym (reads_empty (items_of bks) k.items (get_or (lists_in (items_of bks) (items_of nks)) list []) list_read.are e)

  -- the number of a block of the list
  pub number_below : (i : ℕ) → i < length k.items → get_or k.items i 0 < length bks
  number_below i l = subst (λ m. get_or k.items i 0 < m) (length-map bks (λ v. v.items)) (list_read.are.within.below i l)

  pub list_length : (last : ℕ) (b : SmallVec ℕ) → length k.items ≡ suc last → slice_get bks (get_or k.items last 0) ≡ Some b
      → length (get_or (lists_in (items_of bks) (items_of nks)) list []) ≡ last * 8 + length b.items
  list_length last b e g =
      reads_length (items_of bks) k.items (get_or (lists_in (items_of bks) (items_of nks)) list []) last
      (get_or k.items last 0) b.items list_read.are e (slice-from_get k.items last 0 (omega arith))
      (slice-map (λ v. v.items) bks (get_or k.items last 0) b g)

  pub last_fits : (last : ℕ) → length k.items ≡ suc last → last * 8 < 2 ^ 64
  last_fits last e =
      let n = get_or k.items last 0 in
      let i = slice-from_get k.items last 0 (omega arith) in
      let b = list_read.are.within.below last (omega arith) in
      let l = reads_length (items_of bks) k.items (get_or (lists_in (items_of bks) (items_of nks)) list []) last n
      (get_or (items_of bks) n []) list_read.are e i (slice-from_get (items_of bks) n [] b) in
      let f = list_read.are.fits in
      omega arith

  module _ (at : ℕ) (within : at < length (get_or (lists_in (items_of bks) (items_of nks)) list [])) where
    entry : ReadsEntry (items_of bks) k.items (get_or (lists_in (items_of bks) (items_of nks)) list []) at
    entry = reads_entry (items_of bks) k.items (get_or (lists_in (items_of bks) (items_of nks)) list []) at list_read.are within

    pub entry_number : at / 8 < length k.items
    entry_number = entry.number

    pub entry_within : (b : SmallVec ℕ) → slice_get bks (get_or k.items (at / 8) 0) ≡ Some b → at % 8 < length b.items
    entry_within b g =
        entry.within (get_or k.items (at / 8) 0) b.items (slice-from_get k.items (at / 8) 0 entry.number)
        (slice-map (λ v. v.items) bks (get_or k.items (at / 8) 0) b g)

    pub entry_is : (b : SmallVec ℕ) → slice_get bks (get_or k.items (at / 8) 0) ≡ Some b
        → get_or b.items (at % 8) 0 ≡ slice_index (get_or (lists_in (items_of bks) (items_of nks)) list []) at
    entry_is b g =
        entry.is (get_or k.items (at / 8) 0) b.items 0 (slice-from_get k.items (at / 8) 0 entry.number)
        (slice-map (λ v. v.items) bks (get_or k.items (at / 8) 0) b g)

-- ---- the lists that have an entry

pub filled-more : (ks : List (SmallVec ℕ)) (i : ℕ) (k : SmallVec ℕ) → slice_get ks i ≡ Some k
    → length (nonempty (items_of (take (i + 1) ks))) ≡ length (nonempty (items_of (take i ks))) + length (nonempty (k.items ∷ []))
filled-more ks i k e =
    let l = slice-below ks i k e in
    let t = take_more ks i k l in
    let g = get-from_slice ks i k k e in
    ap (λ vs. length (nonempty (items_of vs))) (t ∙ ap (λ v. take i ks ++ v ∷ []) g)
    ∙ ap (λ vs. length (nonempty vs)) (map_push (λ v. v.items) (take i ks) k)
    ∙ nonempty-append (items_of (take i ks)) (k.items ∷ [])

filled-same : (bs nss : List (List ℕ))
    → ((k : ℕ) (ns : List ℕ) → slice_get nss k ≡ Some ns → AreBlocksOf bs ns (joined bs ns))
    → length (nonempty nss) ≡ length (nonempty (lists_in bs nss))
filled-same bs [] h = refl
filled-same bs (ns ∷ nss) h = by ns (h 0 ns refl) (filled-same bs nss (λ k ms e. h (suc k) ms e))
  where
    by : (ns : List ℕ) → AreBlocksOf bs ns (joined bs ns) → length (nonempty nss) ≡ length (nonempty (lists_in bs nss))
        → length (nonempty (ns ∷ nss)) ≡ length (nonempty (joined bs ns ∷ lists_in bs nss))
    by [] a rest = rest
    by (n ∷ ms) a rest = some (joined bs (n ∷ ms)) refl
      where
        some : (xs : List ℕ) → joined bs (n ∷ ms) ≡ xs
            → length (nonempty ((n ∷ ms) ∷ nss)) ≡ length (nonempty (joined bs (n ∷ ms) ∷ lists_in bs nss))
        some [] e =
            let c = ap length a.are ∙ ap (λ xs. length (blocks_of xs)) e in
            absurd (omega arith)
        some (x ∷ xs) e = ap suc rest ∙ sym (ap (λ ls. length (nonempty (ls ∷ lists_in bs nss))) e)

pub filled-all : (bks nks : List (SmallVec ℕ)) → AreInBlocks (items_of bks) (items_of nks)
    → length (nonempty (items_of nks)) ≡ length (nonempty (lists_in (items_of bks) (items_of nks)))
filled-all bks nks tables = filled-same (items_of bks) (items_of nks) tables.lists
