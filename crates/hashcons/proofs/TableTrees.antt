-- What a table of nodes stands for: its trees by place, and what a new node adds.
use Rattle.std.proofs.Common.{◌≡◌, ◌≢◌, ℕ, ◌<◌, ◌≤◌, ◌+◌, List, [], ◌∷◌, ◌++◌, length, get_or, slice_get, Some, refl, sym, ap, subst, ◌∙◌, arith, ◌⊎◌, inl, inr, zero, suc}
use Rattle.std.proofs.lemmas.List.{length_push, get_or_append_left, get_or_at, get_or-map, length-map}
use Rattle.diagram_terms.specs.Tree.{Tree, nil}
use Rattle.diagram_terms.specs.Dual.{AreBelow}
use Rattle.diagram_terms.specs.Nodes.{picked}
use Rattle.block_lists.proofs.Below.{below_head, below_tail}
use Rattle.hashcons.specs.Contents.{IsOnce}
use Rattle.hashcons.specs.Tables.{trees_from, AreGrounded}

-- ---- lists of places

-- the trees below k are the same
abbrev pub AgreeBelow : ℕ → List Tree → List Tree → Type 0
AgreeBelow k ts us = (j : ℕ) → j < k → get_or ts j nil ≡ get_or us j nil

pub picked-agree : (k : ℕ) (ts us : List Tree) (is : List ℕ) → AreBelow is k → AgreeBelow k ts us
    → picked ts is ≡ picked us is
picked-agree k ts us [] b h = refl
picked-agree k ts us (i ∷ is) b h =
    let e = h i (below_head k i is b) in
    let r = picked-agree k ts us is (below_tail k i is b) h in
    cc

pub picked-inj : (ts : List Tree) → IsOnce ts → (is js : List ℕ) → AreBelow is (length ts) → AreBelow js (length ts)
    → picked ts is ≡ picked ts js → is ≡ js
picked-inj ts once [] [] b c e = refl
picked-inj ts once [] (j ∷ js) b c e = cc
picked-inj ts once (i ∷ is) [] b c e = cc
picked-inj ts once (i ∷ is) (j ∷ js) b c e =
    let h : get_or ts i nil ≡ get_or ts j nil = cc in
    let t : picked ts is ≡ picked ts js = cc in
    let x = once i j (below_head (length ts) i is b) (below_head (length ts) j js c) h in
    let r = picked-inj ts once is js (below_tail (length ts) i is b) (below_tail (length ts) j js c) t in
    cc

pub length-picked : (ts : List Tree) (is : List ℕ) → length (picked ts is) ≡ length is
length-picked ts is = length-map is (λ i. get_or ts i nil)

pub get_or-picked : (ts : List Tree) (is : List ℕ) (j d : ℕ) → j < length is
    → get_or (picked ts is) j nil ≡ get_or ts (get_or is j d) nil
get_or-picked ts is j d l = get_or-map (λ i. get_or ts i nil) is j d nil l

-- ---- one more tree

pub at-push : (ts : List Tree) (t : Tree) (j : ℕ) → j < length ts → get_or (ts ++ t ∷ []) j nil ≡ get_or ts j nil
at-push ts t j h = get_or_append_left ts (t ∷ []) nil j h

pub at-last : (ts : List Tree) (t : Tree) → get_or (ts ++ t ∷ []) (length ts) nil ≡ t
at-last ts t = get_or_at ts t [] nil (length ts) refl

pub push_cases : (ts : List Tree) (t : Tree) (k : ℕ) → k < length (ts ++ t ∷ []) → (k < length ts) ⊎ (k ≡ length ts)
push_cases ts t k h = let l = length_push ts t in grind arith

pub IsOnce-push : (ts : List Tree) (t : Tree) → IsOnce ts → ((i : ℕ) → i < length ts → get_or ts i nil ≢ t)
    → IsOnce (ts ++ t ∷ [])
IsOnce-push ts t once new i j a b e = by (push_cases ts t i a) (push_cases ts t j b)
  where
    by : (i < length ts) ⊎ (i ≡ length ts) → (j < length ts) ⊎ (j ≡ length ts) → i ≡ j
    by (inl p) (inl q) = once i j p q (sym (at-push ts t i p) ∙ e ∙ at-push ts t j q)
    by (inl p) (inr q) = absurd (new i p (sym (at-push ts t i p) ∙ e ∙ ap (λ k. get_or (ts ++ t ∷ []) k nil) q ∙ at-last
        ts t))
    by (inr p) (inl q) = absurd (new j q (sym (at-push ts t j q) ∙ sym e ∙ ap (λ k. get_or (ts ++ t ∷ []) k nil) p
        ∙ at-last ts t))
    by (inr p) (inr q) = p ∙ sym q

-- ---- tables

module _ {N : Type 0} where
  -- the element at a place of a list
  pub element : (ns : List N) (i : ℕ) → i < length ns → (n : N) × (slice_get ns i ≡ Some n)
  element [] i h = absurd (omega arith)
  element (n ∷ ns) zero h = (n, refl)
  element (n ∷ ns) (suc i) h = element ns i (omega arith)

  pub slice_get-below : (ns : List N) (i : ℕ) (n : N) → slice_get ns i ≡ Some n → i < length ns
  slice_get-below [] i n e = cc
  slice_get-below (m ∷ ns) zero n e = omega arith
  slice_get-below (m ∷ ns) (suc i) n e = let h = slice_get-below ns i n e in omega arith

  module _ (B : ℕ → N → Type 0) where
    pub AreGrounded-push : (k : ℕ) (ns : List N) (n : N) → AreGrounded B k ns → B (k + length ns) n
        → AreGrounded B k (ns ++ n ∷ [])
    AreGrounded-push k [] n g b = let e : k + 0 ≡ k = omega arith in (subst (λ l. B l n) e b, tt)
    AreGrounded-push k (m ∷ ns) n g b =
        let e : k + suc (length ns) ≡ k + 1 + length ns = omega arith in
        (g.0, AreGrounded-push (k + 1) ns n g.1 (subst (λ l. B l n) e b))

    pub AreGrounded-at : (k : ℕ) (ns : List N) (i : ℕ) (n : N) → AreGrounded B k ns → slice_get ns i ≡ Some n → B (k + i) n
    AreGrounded-at k [] i n g e = cc
    AreGrounded-at k (m ∷ ns) zero n g e =
        let f : m ≡ n = cc in
        let z : k ≡ k + 0 = omega arith in
        subst (λ l. B l n) z (subst (B k) f g.0)
    AreGrounded-at k (m ∷ ns) (suc i) n g e =
        let z : k + 1 + i ≡ k + suc i = omega arith in
        subst (λ l. B l n) z (AreGrounded-at (k + 1) ns i n g.1 e)

  pub AreGrounded-wider : (A B : ℕ → N → Type 0) → ((k : ℕ) (n : N) → A k n → B k n) → (k : ℕ) (ns : List N)
      → AreGrounded A k ns → AreGrounded B k ns
  AreGrounded-wider A B h k [] g = tt
  AreGrounded-wider A B h k (n ∷ ns) g = (h k n g.0, AreGrounded-wider A B h (k + 1) ns g.1)

  -- two readings that agree on each node give the same trees
  pub trees_from-same : (f g : List Tree → N → Tree) (B : ℕ → N → Type 0)
      → ((k : ℕ) (ts : List Tree) (n : N) → B k n → f ts n ≡ g ts n) → (k : ℕ) (ts : List Tree) (ns : List N)
      → AreGrounded B k ns → trees_from f ts ns ≡ trees_from g ts ns
  trees_from-same f g B h k ts [] b = refl
  trees_from-same f g B h k ts (n ∷ ns) b =
      ap (λ t. trees_from f (ts ++ t ∷ []) ns) (h k ts n b.0) ∙ trees_from-same f g B h (k + 1) (ts ++ g ts n ∷ []) ns b.1

  module _ (f : List Tree → N → Tree) where
    pub length-trees_from : (ts : List Tree) (ns : List N) → length (trees_from f ts ns) ≡ length ts + length ns
    length-trees_from ts [] = omega arith
    length-trees_from ts (n ∷ ns) =
        let h = length-trees_from (ts ++ f ts n ∷ []) ns in
        let l = length_push ts (f ts n) in
        omega arith

    -- the trees that stood before keep their places
    trees_from-keeps : (ts : List Tree) (ns : List N) (j : ℕ) → j < length ts
        → get_or (trees_from f ts ns) j nil ≡ get_or ts j nil
    trees_from-keeps ts [] j h = refl
    trees_from-keeps ts (n ∷ ns) j h =
        let l = length_push ts (f ts n) in
        let k : j < length (ts ++ f ts n ∷ []) = omega arith in
        trees_from-keeps (ts ++ f ts n ∷ []) ns j k ∙ at-push ts (f ts n) j h

    pub trees_from-push : (ts : List Tree) (ns : List N) (n : N)
        → trees_from f ts (ns ++ n ∷ []) ≡ trees_from f ts ns ++ f (trees_from f ts ns) n ∷ []
    trees_from-push ts [] n = refl
    trees_from-push ts (m ∷ ns) n = trees_from-push (ts ++ f ts m ∷ []) ns n

    -- f looks only at the trees below
    module _ (B : ℕ → N → Type 0) (local : (k : ℕ) (ts us : List Tree) (n : N) → B k n → AgreeBelow k ts us → f ts n ≡ f
        us n) where
      -- each place has the tree of its node
      trees_from-reads : (ts : List Tree) (ns : List N) (i : ℕ) (n : N) → AreGrounded B (length ts) ns
          → slice_get ns i ≡ Some n → get_or (trees_from f ts ns) (length ts + i) nil ≡ f (trees_from f ts ns) n
      trees_from-reads ts [] i n g e = cc
      trees_from-reads ts (m ∷ ns) zero n g e =
          let us = ts ++ f ts m ∷ [] in
          let l = length_push ts (f ts m) in
          let z : length ts + 0 ≡ length ts = omega arith in
          let k : length ts < length us = omega arith in
          let is : m ≡ n = cc in
          let agree : AgreeBelow (length ts) ts (trees_from f us ns) =
          λ j h. sym (trees_from-keeps us ns j (omega (arith, h, l)) ∙ at-push ts (f ts m) j h)
          in
          ap (λ p. get_or (trees_from f us ns) p nil) z ∙ trees_from-keeps us ns (length ts) k ∙ at-last ts (f ts m)
          ∙ local (length ts) ts (trees_from f us ns) m g.0 agree ∙ ap (f (trees_from f us ns)) is
      trees_from-reads ts (m ∷ ns) (suc i) n g e =
          let us = ts ++ f ts m ∷ [] in
          let l = length_push ts (f ts m) in
          let z : length ts + suc i ≡ length us + i = omega arith in
          let r = trees_from-reads us ns i n (subst (λ k. AreGrounded B k ns) (sym l) g.1) e in
          ap (λ p. get_or (trees_from f us ns) p nil) z ∙ r

      -- the node at a place has the tree of the place
      pub tree-reads : (ns : List N) (i : ℕ) (n : N) → AreGrounded B 0 ns → slice_get ns i ≡ Some n
          → get_or (trees_from f [] ns) i nil ≡ f (trees_from f [] ns) n
      tree-reads ns i n g e =
          let z : 0 + i ≡ i = omega arith in
          sym (ap (λ p. get_or (trees_from f [] ns) p nil) z) ∙ trees_from-reads [] ns i n g e

      -- a node that stands nowhere has a tree of its own
      pub tree-new : (ns : List N) (n : N)
          → ((m : N) → B (length (trees_from f [] ns)) m → f (trees_from f [] ns) m ≡ f (trees_from f [] ns) n → n ≡ m)
          → ((k l : ℕ) (m : N) → k ≤ l → B k m → B l m)
          → AreGrounded B 0 ns → ((i : ℕ) → slice_get ns i ≢ Some n)
          → (i : ℕ) → i < length (trees_from f [] ns) → get_or (trees_from f [] ns) i nil ≢ f (trees_from f [] ns) n
      tree-new ns n told wider g absent i h e =
          let l = length-trees_from [] ns in
          let there : i < length ns = omega arith in
          let p = element ns i there in
          let r = tree-reads ns i p.0 g p.1 in
          let b = AreGrounded-at B 0 ns i p.0 g p.1 in
          let w : 0 + i ≤ length (trees_from f [] ns) = omega arith in
          let same = told p.0 (wider (0 + i) (length (trees_from f [] ns)) p.0 w b) (sym r ∙ e) in
          absent i (p.1 ∙ ap Some (sym same))
