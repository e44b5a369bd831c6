-- The edges that a program holds, and what comparing them says of the squares.
use Rattle.std.proofs.Common.{◌≡◌, ℕ, suc, ◌+◌, ◌-◌, ◌<◌, ◌≤◌, ◌↔◌, List, length, get_or, Bool, true, false, ◌&&◌, nat_lt, Some, None, sym, ap, ap₂, ◌∙◌, subst, arith, inl, inr}
use Rattle.std.specs.List.{list_all, range_with_len}
use Rattle.std.proofs.lemmas.Bool.{cases_Bool, cases_lt, cond-true, cond-false, lt-ltb, le-ltb}
use Rattle.std.proofs.lemmas.List.{get_or-map}
use Rattle.diagram_terms.specs.declared.tree.Arrow.{Arrow}
use Rattle.diagram_terms.specs.declared.place.End.TheVariants as at_end
use Rattle.diagram_terms.specs.Tree.{nil}
use Rattle.diagram_terms.specs.Family.{Dia, Arr, no_arr}
use Rattle.diagram_terms.specs.Dual.{tab, dual, IsMonotone}
use Rattle.diagram_terms.specs.Decoded.{arr_tree, arr}
use Rattle.diagram_terms.specs.Places.{here, same_arrow, square_commutes, first_failure, edges_meet}
use Rattle.diagram_terms.specs.Edges.{AreEdges, HoldsEdges, HoldsPairs}
use Rattle.diagram_terms.specs.Valid.{left_edge, right_edge, enter_edge, leave_edge}
use Rattle.diagram_terms.specs.Levels.{square_place, square_tests}
use Rattle.diagram_terms.specs.Values.{tree_of_arrow}
use Rattle.diagram_terms.proofs.Decisions.{same_arrow_decides, list_all_to, list_all_from}
use Rattle.diagram_terms.proofs.Duals.{length-tab, get-tab, dual-le-length, dual-zero}
use Rattle.diagram_terms.proofs.Glue.{arr-arr_tree}
use Rattle.diagram_terms.proofs.HeldArrows.{held_arrow, held_length}
use Rattle.diagram_terms.proofs.Visiting.{each_passes, each_fails, here_passes, here_fails}

-- ---- one comparison

pub same_Bool : (b c : Bool) → (b ≡ true → c ≡ true) → (c ≡ true → b ≡ true) → b ≡ c
same_Bool b c to from = elim (cases_Bool b) [
  | inl p ↦ p ∙ sym (to p)
  | inr p ↦ elim (cases_Bool c) [
    | inl q ↦ from q ∙ sym q
    | inr q ↦ p ∙ sym q
  ]
]

pub compared : (d : ℕ) (p q : Arr d) (x y : Arrow) (r : Bool) → tree_of_arrow x ≡ arr_tree d p → tree_of_arrow y ≡ arr_tree d q
    → ((r ≡ true) ↔ (tree_of_arrow x ≡ tree_of_arrow y)) → r ≡ same_arrow d p q
compared d p q x y r e h same = same_Bool r (same_arrow d p q)
    (λ t. (same_arrow_decides d p q).1 (sym (arr-arr_tree d p) ∙ ap (arr d) (sym e ∙ same.0 t ∙ h) ∙ arr-arr_tree d q))
    (λ t. same.1 (e ∙ ap (arr_tree d) ((same_arrow_decides d p q).0 t) ∙ sym h))

-- ---- one edge

pub edges_length : (d : ℕ) (edge : ℕ → Arr d) (n : ℕ) (held : List Arrow) → AreEdges d edge n held → length held ≡ n
edges_length d edge n held e = held_length d held (tab edge n) e ∙ length-tab edge n

pub edge_at : (d : ℕ) (edge : ℕ → Arr d) (n : ℕ) (held : List Arrow) → AreEdges d edge n held
    → (k : ℕ) (a : Arrow) → k < n → a ≡ get_or held k a → tree_of_arrow a ≡ arr_tree d (edge k)
edge_at d edge n held e k a l is =
    let long = edges_length d edge n held e in
    held_arrow d held (tab edge n) e k a (omega arith) is ∙ ap (arr_tree d) (get-tab edge n k (no_arr d) l)

pub next_edge_at : (d : ℕ) (edge : ℕ → Arr d) (n : ℕ) (held : List Arrow) → AreEdges d edge n held
    → (k : ℕ) (a : Arrow) → k + 1 < n → a ≡ get_or held (k + 1) a → tree_of_arrow a ≡ arr_tree d (edge (suc k))
next_edge_at d edge n held e k a l is =
    let next : k + 1 ≡ suc k = omega arith in
    edge_at d edge n held e (k + 1) a l is ∙ ap (λ (m : ℕ). arr_tree d (edge m)) next

-- ---- composites one by one

module _ (d : ℕ) (g f : ℕ → Arr d) (second first : List Arrow) (r : HoldsPairs d g f second first) (k : ℕ) (x y : Arrow) (l : k < length second) where
  pub pair_second : x ≡ get_or second k x → tree_of_arrow x ≡ arr_tree d (g k)
  pair_second is = ap tree_of_arrow is ∙ sym (get_or-map tree_of_arrow second k x nil l) ∙ r.second_is k l

  pub pair_first : y ≡ get_or first k y → tree_of_arrow y ≡ arr_tree d (f k)
  pair_first is =
      let n = r.inside in
      ap tree_of_arrow is ∙ sym (get_or-map tree_of_arrow first k y nil (omega arith)) ∙ r.first_is k l

pub composites_done : (d : ℕ) (edge : ℕ → Arr d) (k n : ℕ) (held : List Arrow) → k ≡ n → AreEdges d edge k held → AreEdges d edge n held
composites_done d edge k n held e h = subst (λ (m : ℕ). AreEdges d edge m held) e h

-- ---- inner pairs

module _ (d : ℕ) (enter leave : ℕ → Arr d) where
  abbrev pub inner_test : ℕ → Bool
  inner_test i = same_arrow d (leave i) (enter (suc i))

  pub inner_passed : (a b i : ℕ) → a ≤ i → b - 1 ≤ i → ((j : ℕ) → a ≤ j → j < i → inner_test j ≡ true) → true ≡ list_all inner_test (range_with_len a (b - 1 - a))
  inner_passed a b i low high h = sym (list_all_from inner_test a (b - 1 - a) (λ j l m. h j l (omega arith)))

  pub inner_failed : (a b i : ℕ) → a ≤ i → i < b - 1 → inner_test i ≡ false → false ≡ list_all inner_test (range_with_len a (b - 1 - a))
  inner_failed a b i low high e = elim (cases_Bool (list_all inner_test (range_with_len a (b - 1 - a)))) [
    | inl t ↦ sym e ∙ list_all_to inner_test a (b - 1 - a) t i low (omega arith) ∙ sym t
    | inr t ↦ sym t
  ]

  pub inner_more : (a i : ℕ) → ((j : ℕ) → a ≤ j → j < i → inner_test j ≡ true) → inner_test i ≡ true → (j : ℕ) → a ≤ j → j < i + 1 → inner_test j ≡ true
  inner_more a i h e j low high = elim (cases_lt j i) [
    | inl l ↦ h j low l
    | inr l ↦ (let same : i ≡ j = omega arith in subst (λ (m : ℕ). inner_test m ≡ true) same e)
  ]

  -- ---- a square

  module _ (p q : Arr d) (a b : ℕ) where
    abbrev inner_all : Bool
    inner_all = list_all inner_test (range_with_len a (b - 1 - a))

    abbrev full_square : Bool
    full_square = same_arrow d p (enter a) && same_arrow d q (leave (b - 1)) && inner_all

    pub empty_square : b ≤ a → same_arrow d p q ≡ edges_meet d p q enter leave a b
    empty_square l = sym (cond-false (nat_lt a b) full_square (same_arrow d p q) (le-ltb a b l))

    full_is : a < b → full_square ≡ edges_meet d p q enter leave a b
    full_is l = sym (cond-true (nat_lt a b) full_square (same_arrow d p q) (lt-ltb a b l))

    pub first_differs : a < b → same_arrow d p (enter a) ≡ false → false ≡ edges_meet d p q enter leave a b
    first_differs l e = ap (λ t. t && same_arrow d q (leave (b - 1)) && inner_all) (sym e) ∙ full_is l

    pub last_differs : a < b → same_arrow d p (enter a) ≡ true → same_arrow d q (leave (b - 1)) ≡ false → false ≡ edges_meet d p q enter leave a b
    last_differs l e h = (λ i. sym e i && sym h i && inner_all) ∙ full_is l

    pub inner_decides : a < b → same_arrow d p (enter a) ≡ true → same_arrow d q (leave (b - 1)) ≡ true → inner_all ≡ edges_meet d p q enter leave a b
    inner_decides l e h = (λ i. sym e i && sym h i && inner_all) ∙ full_is l

-- ---- all squares

module _ (d : ℕ) (X Y : Dia (suc d)) (f : Arr (suc d)) (heights : List ℕ) (lefts rights enters leaves : List Arrow) (r : HoldsEdges d X Y f heights lefts rights enters leaves) where
  pub heights_monotone : IsMonotone heights
  heights_monotone = subst IsMonotone (sym r.heights_are) r.monotone

  pub held_dual : (k : ℕ) → dual heights k ≤ length X.sings
  held_dual k =
      let long : dual heights k ≤ length heights = dual-le-length heights k in
      let e = ap length r.heights_are in
      let n = r.heights_len in
      omega arith

  pub lefts_len : length lefts ≡ length Y.sings
  lefts_len = edges_length d (left_edge d Y f) (length Y.sings) lefts r.lefts_are

  pub rights_len : length rights ≡ length Y.sings
  rights_len = edges_length d (right_edge d Y f) (length Y.sings) rights r.rights_are

  pub dual_start : 0 ≡ dual heights 0
  dual_start = sym (dual-zero heights heights_monotone)

  module _ (k a b : ℕ) (x y : Arrow) (result : Bool) (l : k < length Y.sings) (a_is : a ≡ dual heights k) (b_is : b ≡ dual heights (k + 1))
      (x_is : x ≡ get_or lefts k x) (y_is : y ≡ get_or rights k y)
      (answer : (d : ℕ) (p q : Arr d) (enter leave : ℕ → Arr d) (n : ℕ) → b ≤ n → tree_of_arrow x ≡ arr_tree d p → tree_of_arrow y ≡ arr_tree d q
      → AreEdges d enter n enters → AreEdges d leave n leaves → result ≡ edges_meet d p q enter leave a b) where
    pub square_answer : result ≡ square_commutes d X Y f k
    square_answer =
        let next : k + 1 ≡ suc k = omega arith in
        let high : dual heights (k + 1) ≤ length X.sings = held_dual (k + 1) in
        let in_range : b ≤ length X.sings = omega arith in
        let p = edge_at d (left_edge d Y f) (length Y.sings) lefts r.lefts_are k x l x_is in
        let q = edge_at d (right_edge d Y f) (length Y.sings) rights r.rights_are k y l y_is in
        let e = a_is ∙ ap (λ hs. dual hs k) r.heights_are in
        let h = b_is ∙ ap₂ dual r.heights_are next in
        answer d (left_edge d Y f k) (right_edge d Y f k) (enter_edge d X f) (leave_edge d X f) (length X.sings) in_range p q r.enters_are r.leaves_are
        ∙ (λ i. edges_meet d (left_edge d Y f k) (right_edge d Y f k) (enter_edge d X f) (leave_edge d X f) (e i) (h i))

  -- the squares before k all commute
  abbrev pub CommuteBefore : ℕ → Type 0
  CommuteBefore k = (i : ℕ) → i < k → square_commutes d X Y f i ≡ true

  pub all_commute : (k : ℕ) → length Y.sings ≤ k → CommuteBefore k → None ≡ first_failure (square_tests d X Y f)
  all_commute k l h = sym (each_passes (λ i. here (at_end.Square i) (square_commutes d X Y f i)) (length Y.sings)
      (λ i m. here_passes (at_end.Square i) (square_commutes d X Y f i) (h i (omega arith))))

  pub one_does_not : (k : ℕ) → k < length Y.sings → CommuteBefore k → square_commutes d X Y f k ≡ false → Some (square_place k) ≡ first_failure (square_tests d X Y f)
  one_does_not k l h e = sym (each_fails (λ i. here (at_end.Square i) (square_commutes d X Y f i)) (length Y.sings) k (square_place k) l
      (λ i m. here_passes (at_end.Square i) (square_commutes d X Y f i) (h i m))
      (here_fails (at_end.Square k) (square_commutes d X Y f k) e))

  pub one_more_commutes : (k : ℕ) → CommuteBefore k → square_commutes d X Y f k ≡ true → CommuteBefore (k + 1)
  one_more_commutes k h e i l = elim (cases_lt i k) [
    | inl m ↦ h i m
    | inr m ↦ (let same : k ≡ i = omega arith in subst (λ (j : ℕ). square_commutes d X Y f j ≡ true) same e)
  ]
