-- Lists cut into blocks, and lists of which each stands once.
use Rattle.std.specs.Prelude.{◌≡◌, ◌≢◌, ℕ, zero, suc, ◌<◌, ◌^◌, ◌⊎◌, List, [], ◌∷◌, ◌++◌, Bool, eqb, length, map, take, drop, get_or, slice_get, Some}
use Rattle.std.specs.List.{flat_map}
use Rattle.std.specs.Cmp.Lexicographic.{pointwise}
use Rattle.smallvec.specs.SmallVec.{SmallVec}
use Rattle.indexmap.specs.IndexSet.{insert_all}
use Rattle.diagram_terms.specs.Dual.{AreBelow}

module _ {X : Type 0} where
  -- A list is cut from its front into blocks of eight entries, the last of which has one to eight.
  abbrev pub cut : ℕ → List X → List (List X)
  cut zero xs = []
  cut (suc n) [] = []
  cut (suc n) (x ∷ xs) = take 8 (x ∷ xs) ∷ cut n (drop 8 (x ∷ xs))

  abbrev pub blocks_of : List X → List (List X)
  blocks_of xs = cut (length xs) xs

  -- the lists that have an entry
  abbrev pub nonempty : List (List X) → List (List X)
  nonempty [] = []
  nonempty ([] ∷ ls) = nonempty ls
  nonempty ((x ∷ xs) ∷ ls) = (x ∷ xs) ∷ nonempty ls

  -- x stands in the list
  pub record Among (xs : List X) (x : X) : Type 0 where
    pub place : ℕ
    pub there : slice_get xs place ≡ Some x

  -- each element of the list stands at one place
  abbrev pub StandOnce : List X → Type 0
  StandOnce xs = (i j : ℕ) (x : X) → slice_get xs i ≡ Some x → slice_get xs j ≡ Some x → i ≡ j

  -- each of some things once, where it first stands
  abbrev pub distinct : (X → X → Bool) → List X → List X
  distinct same xs = insert_all same [] xs

  -- x stands at a place of the new list, which is the old one, or, where x stood nowhere in that, has x more
  pub record IsPut (old new : List X) (x : X) (place : ℕ) : Type 0 where
    pub there : slice_get new place ≡ Some x
    pub adds : (new ≡ old) ⊎ ((new ≡ old ++ x ∷ []) × ((i : ℕ) → slice_get old i ≢ Some x))

-- whether two lists of numbers are equal
abbrev pub same_numbers : List ℕ → List ℕ → Bool
same_numbers xs ys = pointwise eqb xs ys

-- the distinct blocks of some lists
abbrev pub distinct_blocks : List (List ℕ) → List (List ℕ)
distinct_blocks ls = distinct same_numbers (flat_map blocks_of ls)

-- the items of each vector
abbrev pub items_of : List (SmallVec ℕ) → List (List ℕ)
items_of vs = map (λ v. v.items) vs

-- the blocks with these numbers, and the list that they make
abbrev pub blocks_at : List (List ℕ) → List ℕ → List (List ℕ)
blocks_at bs ns = map (λ n. get_or bs n []) ns

abbrev pub joined : List (List ℕ) → List ℕ → List ℕ
joined bs ns = flat_map (λ n. get_or bs n []) ns

abbrev pub lists_in : List (List ℕ) → List (List ℕ) → List (List ℕ)
lists_in bs nss = map (joined bs) nss

-- these are the numbers of the blocks of a list, which is no longer than a list can be
pub record AreBlocksOf (bs : List (List ℕ)) (ns : List ℕ) (xs : List ℕ) : Type 0 where
  pub fits : length xs < 2 ^ 64
  pub within : AreBelow ns (length bs)
  pub are : blocks_at bs ns ≡ blocks_of xs

-- each list is kept by the numbers of its blocks, and each block of a list is kept once, with no others
pub record AreInBlocks (bs nss : List (List ℕ)) : Type 0 where
  pub lists : (k : ℕ) (ns : List ℕ) → slice_get nss k ≡ Some ns → AreBlocksOf bs ns (joined bs ns)
  pub blocks : bs ≡ distinct_blocks (lists_in bs nss)

-- the tables of blocks and of lists after a list was put
pub record PutsList (bs0 bs1 nss0 nss1 : List (List ℕ)) (xs : List ℕ) (place : ℕ) : Type 0 where
  pub numbers : List ℕ
  pub are : AreBlocksOf bs1 numbers xs
  pub put : IsPut nss0 nss1 numbers place
  pub blocks : bs1 ≡ insert_all same_numbers bs0 (blocks_of xs)
