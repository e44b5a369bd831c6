-- The tests decide what they test.
use Rattle.std.proofs.Common.{◌≡◌, ℕ, zero, suc, ◌+◌, ◌-◌, ◌<◌, ◌≤◌, List, [], ◌∷◌, ◌++◌, length, map, Bool, true, ◌&&◌, nat_eq, nat_lt, ◌↔◌, All, flat_map, refl, sym, ap, ◌∙◌, subst, inl, inr, arith, eqb-true, eq-eqb, get_or-append-add}
use Rattle.std.specs.List.{list_all, range_with_len}
use Rattle.std.specs.Cmp.Lexicographic.{pointwise}
use Rattle.std.proofs.lemmas.Bool.{and_parts, and_from, lt-ltb, le-ltb, cases_lt, cond-true, cond-false}
use Rattle.std.proofs.lemmas.Bool.Decides.{Decides-eqb, Decides-ltb, Decides-or}
use Rattle.std.proofs.lemmas.Grind.{common_steps}
use Rattle.std.proofs.lemmas.List.{get_or_append_left, get_or-map, length-append, length-map}
use Rattle.std.proofs.lemmas.List.Elements.{All-append, All-cons, All-head, All-nil, All-map}
use lib.Pointwise.{pointwise_decides}
use Rattle.diagram_terms.specs.declared.label.Label.{Label}
use Rattle.diagram_terms.specs.declared.place.Step.{Step}
use Rattle.diagram_terms.specs.declared.place.End.{End}
use Rattle.diagram_terms.specs.Labels.{IsAtMost, same_label, at_most}
use Rattle.diagram_terms.specs.Family.{Ends, Dia, Arr}
use Rattle.diagram_terms.specs.Dual.{dual}
use Rattle.diagram_terms.specs.Valid.{Commutes, CommutesOver, left_edge, right_edge, enter_edge, leave_edge}
use Rattle.diagram_terms.specs.Places.{Test, Passes, same_arrow, here, one_step_in, under, at_each, edges_meet, square_commutes}

-- ---- labels and arrows

pub same_label_decides : (x y : Label) → (same_label x y ≡ true) ↔ (x ≡ y)
same_label_decides x y = (
  λ h. (let p = and_parts (nat_eq x.number y.number) (nat_eq x.dim y.dim) h in
      let n = eqb-true x.number y.number p.0 in
      let k = eqb-true x.dim y.dim p.1 in
      λ i. record { number = n i; dim = k i }),
  λ e. and_from (nat_eq x.number y.number) (nat_eq x.dim y.dim)
      (eq-eqb x.number y.number (ap (λ (z : Label). z.number) e)) (eq-eqb x.dim y.dim (ap (λ (z : Label). z.dim) e)),
)

pub at_most_decides : (x y : Label) → (at_most x y ≡ true) ↔ IsAtMost x y
at_most_decides x y = Decides-or (same_label x y) (nat_lt x.dim y.dim) (same_label_decides x y) (Decides-ltb x.dim y.dim)

-- the test of arrows decides at one dimension
abbrev ArrowsDecided : ℕ → Type 0
ArrowsDecided d = (f g : Arr d) → (same_arrow d f g ≡ true) ↔ (f ≡ g)

ends_decided : ArrowsDecided zero
ends_decided f g = (
  λ h. (let p = and_parts (same_label f.from g.from) (same_label f.to g.to) h in
      let a = (same_label_decides f.from g.from).0 p.0 in
      let b = (same_label_decides f.to g.to).0 p.1 in
      λ i. record { from = a i; to = b i }),
  λ e. and_from (same_label f.from g.from) (same_label f.to g.to)
      ((same_label_decides f.from g.from).1 (ap (λ (z : Ends). z.from) e))
      ((same_label_decides f.to g.to).1 (ap (λ (z : Ends). z.to) e)),
)

arrows_decided_step : (d : ℕ) → ArrowsDecided d → ArrowsDecided (suc d)
arrows_decided_step d decided f g =
    let hs = pointwise_decides Decides-eqb f.heights g.heights in
    let rs = pointwise_decides decided f.regs g.regs in
    let ss = pointwise_decides decided f.sings g.sings in
    let test_hs : Bool = pointwise nat_eq f.heights g.heights in
    let test_rs : Bool = pointwise (same_arrow d) f.regs g.regs in
    let test_ss : Bool = pointwise (same_arrow d) f.sings g.sings in (
      λ h. (let p = and_parts (test_hs && test_rs) test_ss h in
          let q = and_parts test_hs test_rs p.0 in
          let a = hs.0 q.0 in
          let b = rs.0 q.1 in
          let c = ss.0 p.1 in
          λ i. record { heights = a i; regs = b i; sings = c i }),
      λ e. and_from (test_hs && test_rs) test_ss
          (and_from test_hs test_rs (hs.1 (ap (λ (z : Arr (suc d)). z.heights) e)) (rs.1 (ap (λ (z : Arr (suc d)). z.regs) e)))
          (ss.1 (ap (λ (z : Arr (suc d)). z.sings) e)),
    )

pub same_arrow_decides : (d : ℕ) (f g : Arr d) → (same_arrow d f g ≡ true) ↔ (f ≡ g)
same_arrow_decides zero = ends_decided
same_arrow_decides (suc d) = arrows_decided_step d (same_arrow_decides d)

-- ---- lists

module _ (test : ℕ → Bool) where
  pub list_all_to : (a n : ℕ) → list_all test (range_with_len a n) ≡ true → (i : ℕ) → a ≤ i → i < a + n → test i ≡ true
  list_all_to a zero h i l k = absurd (omega arith)
  list_all_to a (suc n) h i l k =
      let p = and_parts (test a) (list_all test (range_with_len (a + 1) n)) h in
      elim (cases_lt a i) [
        | inl q ↦ list_all_to (a + 1) n p.1 i (omega arith) (omega arith)
        | inr q ↦ (let e : a ≡ i = omega arith in subst (λ j. test j ≡ true) e p.0)
      ]

  pub list_all_from : (a n : ℕ) → ((i : ℕ) → a ≤ i → i < a + n → test i ≡ true) → list_all test (range_with_len a n) ≡ true
  list_all_from a zero h = refl
  list_all_from a (suc n) h = and_from (test a) (list_all test (range_with_len (a + 1) n))
      (h a (omega arith) (omega arith))
      (list_all_from (a + 1) n (λ i l k. h i (omega arith) (omega arith)))

  pub list_all_decides : (a n : ℕ) → (list_all test (range_with_len a n) ≡ true) ↔ ((i : ℕ) → a ≤ i → i < a + n → test i ≡ true)
  list_all_decides a n = (list_all_to a n, list_all_from a n)

module _ {X : Type 0} (P : X → Type 0) where
  pub All-left : (xs ys : List X) → All P (xs ++ ys) → All P xs
  All-left xs ys h = λ k d l. subst P (get_or_append_left xs ys d k l) (h k d (rw length-append (omega arith)))

  pub All-right : (xs ys : List X) → All P (xs ++ ys) → All P ys
  All-right xs ys h = λ k d l. subst P (get_or-append-add xs ys k d) (h (length xs + k) d (rw length-append (omega arith)))

  pub All-unmap : {Y : Type 0} (f : Y → X) (ys : List Y) → All P (map f ys) → All (λ y. P (f y)) ys
  All-unmap f ys h = λ k d l. subst P (get_or-map f ys k d (f d) l) (h k (f d) (rw length-map l))

  flat_map_to : (f : ℕ → List X) (a n : ℕ) → All P (flat_map f (range_with_len a n)) → (i : ℕ) → a ≤ i → i < a + n → All P (f i)
  flat_map_to f a zero h i l k = absurd (omega arith)
  flat_map_to f a (suc n) h i l k = elim (cases_lt a i) [
    | inl q ↦ flat_map_to f (a + 1) n (All-right (f a) (flat_map f (range_with_len (a + 1) n)) h) i (omega arith) (omega arith)
    | inr q ↦ (let e : a ≡ i = omega arith in
        subst (λ j. All P (f j)) e (All-left (f a) (flat_map f (range_with_len (a + 1) n)) h))
  ]

  flat_map_from : (f : ℕ → List X) (a n : ℕ) → ((i : ℕ) → a ≤ i → i < a + n → All P (f i)) → All P (flat_map f (range_with_len a n))
  flat_map_from f a zero h = All-nil P
  flat_map_from f a (suc n) h = All-append P (f a) (flat_map f (range_with_len (a + 1) n))
      (h a (omega arith) (omega arith))
      (flat_map_from f (a + 1) n (λ i l k. h i (omega arith) (omega arith)))

-- ---- lists of tests

pub passes_here : (e : End) (holds : Bool) → All Passes (here e holds) ↔ (holds ≡ true)
passes_here e holds = (λ h. All-head Passes _ [] h, λ h. All-cons Passes _ [] h (All-nil Passes))

pub passes_under : (s : Step) (ts : List Test) → All Passes (under s ts) ↔ All Passes ts
passes_under s ts = (All-unmap Passes (one_step_in s) ts, All-map Passes (one_step_in s) ts)

pub passes_each : (n : ℕ) (tests : ℕ → List Test) → All Passes (at_each n tests) ↔ ((k : ℕ) → k < n → All Passes (tests k))
passes_each n tests = (
  λ h k l. flat_map_to Passes tests 0 n h k (omega arith) (omega arith),
  λ h. flat_map_from Passes tests 0 n (λ k low l. h k (omega arith)),
)

-- ---- squares

module _ (d : ℕ) (X Y : Dia (suc d)) (f : Arr (suc d)) (k a b : ℕ) where
  abbrev decides : (g h : Arr d) → (same_arrow d g h ≡ true) ↔ (g ≡ h)
  decides = same_arrow_decides d

  abbrev inner_test : ℕ → Bool
  inner_test i = same_arrow d (leave_edge d X f i) (enter_edge d X f (suc i))

  abbrev all_inner : Bool
  all_inner = list_all inner_test (range_with_len a (b - 1 - a))

  abbrev first_test : Bool
  first_test = same_arrow d (left_edge d Y f k) (enter_edge d X f a)

  abbrev last_test : Bool
  last_test = same_arrow d (right_edge d Y f k) (leave_edge d X f (b - 1))

  abbrev empty_test : Bool
  empty_test = same_arrow d (left_edge d Y f k) (right_edge d Y f k)

  abbrev full_test : Bool
  full_test = first_test && last_test && all_inner

  abbrev meet : Bool
  meet = edges_meet d (left_edge d Y f k) (right_edge d Y f k) (enter_edge d X f) (leave_edge d X f) a b

  full_to : a < b → full_test ≡ true → CommutesOver d X Y f k a b
  full_to l h =
      let p = and_parts (first_test && last_test) all_inner h in
      let q = and_parts first_test last_test p.0 in
      record {
        empty = λ e. absurd (omega arith);
        first = λ m. (decides _ _).0 q.0;
        last = λ m. (decides _ _).0 q.1;
        inner = λ i low high. (decides _ _).0 (list_all_to inner_test a (b - 1 - a) p.1 i low (omega arith));
      }

  full_from : a < b → CommutesOver d X Y f k a b → full_test ≡ true
  full_from l m = and_from (first_test && last_test) all_inner
      (and_from first_test last_test ((decides _ _).1 (m.first l)) ((decides _ _).1 (m.last l)))
      (list_all_from inner_test a (b - 1 - a) (λ i low high. (decides _ _).1 (m.inner i low (omega arith))))

  meet_to : a ≤ b → meet ≡ true → CommutesOver d X Y f k a b
  meet_to low h = elim (cases_lt a b) [
    | inl l ↦ full_to l (sym (cond-true (nat_lt a b) full_test empty_test (lt-ltb a b l)) ∙ h)
    | inr l ↦ (let e = (decides _ _).0 (sym (cond-false (nat_lt a b) full_test empty_test (le-ltb a b l)) ∙ h) in record {
      empty = λ p. e;
      first = λ m. absurd (omega arith);
      last = λ m. absurd (omega arith);
      inner = λ i p q. absurd (omega arith);
    })
  ]

  meet_from : a ≤ b → CommutesOver d X Y f k a b → meet ≡ true
  meet_from low m = elim (cases_lt a b) [
    | inl l ↦ cond-true (nat_lt a b) full_test empty_test (lt-ltb a b l) ∙ full_from l m
    | inr l ↦ cond-false (nat_lt a b) full_test empty_test (le-ltb a b l) ∙ (decides _ _).1 (m.empty (omega arith))
  ]

pub square_decides : (d : ℕ) (X Y : Dia (suc d)) (f : Arr (suc d)) (k : ℕ) → dual f.heights k ≤ dual f.heights (suc k)
    → (square_commutes d X Y f k ≡ true) ↔ Commutes d X Y f k
square_decides d X Y f k low = (meet_to d X Y f k _ _ low, meet_from d X Y f k _ _ low)

-- ---- duals

dual-nil : (j : ℕ) → dual [] j ≡ 0
unfolding dual
dual-nil j = refl

dual_yes : (h j : ℕ) (hs : List ℕ) → h < j → dual (h ∷ hs) j ≡ suc (dual hs j)
unfolding dual
dual_yes h j hs l = grind (arith, common_steps)

dual_no : (h j : ℕ) (hs : List ℕ) → j ≤ h → dual (h ∷ hs) j ≡ dual hs j
unfolding dual
dual_no h j hs l = grind (arith, common_steps)

-- the dual of any list rises
pub dual_next : (hs : List ℕ) (j : ℕ) → dual hs j ≤ dual hs (suc j)
dual_next [] j = rw (dual-nil j, dual-nil (suc j)) (omega arith)
dual_next (h ∷ hs) j =
    let ih : dual hs j ≤ dual hs (suc j) = dual_next hs j in
    elim (cases_lt h j) [
      | inl l ↦ rw (dual_yes h j hs l, dual_yes h (suc j) hs (omega arith)) (omega arith)
      | inr l ↦ elim (cases_lt h (suc j)) [
        | inl k ↦ rw (dual_no h j hs l, dual_yes h (suc j) hs k) (omega arith)
        | inr k ↦ rw (dual_no h j hs l, dual_no h (suc j) hs k) ih
      ]
    ]
