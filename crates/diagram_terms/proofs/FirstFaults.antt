-- The first bad place: where there is none, and that there is one otherwise.
use Rattle.std.proofs.Common.{◌≡◌, ℕ, zero, suc, ◌<◌, ◌≤◌, List, [], ◌∷◌, ◌++◌, length, get_or, Bool, true, false, not, nat_eq, ◌&&◌, ◌↔◌, ◌⊎◌, All, find, option_map, None, Some, refl, sym, ap, ◌∙◌, subst, inl, inr, arith}
use Rattle.std.proofs.lemmas.Bool.{and_parts, and_from, eqb-true, eq-eqb, cases_Bool, cond-true, cond-false, not_from_true, not_from_false}
use Rattle.std.proofs.lemmas.List.{get_or-map, length-map}
use Rattle.std.proofs.lemmas.List.Elements.{All-append, All-cons, All-head, All-tail, All-nil}
use Rattle.std.proofs.lemmas.Option.{none-some, same_Some}
use Rattle.diagram_terms.specs.declared.place.Place.{Place}
use Rattle.diagram_terms.specs.declared.place.Step.TheVariants as step
use Rattle.diagram_terms.specs.declared.place.End.TheVariants as at_end
use Rattle.diagram_terms.specs.Labels.{same_label, at_most}
use Rattle.diagram_terms.specs.Tree.{Tree, regs, sings, fwds, bwds, nil}
use Rattle.diagram_terms.specs.Family.{Dia, Arr, no_dia, no_arr, reg, sing, fwd, bwd, height, arrow_reg, arrow_sing}
use Rattle.diagram_terms.specs.Decoded.{dia, arr}
use Rattle.diagram_terms.specs.Shape.{IsArrow, IsDiagram, reg_at, sing_at, fwd_at, bwd_at}
use Rattle.diagram_terms.specs.Dual.{IsMonotone, dual}
use Rattle.diagram_terms.specs.Valid.{Valid, ValidArrow, ValidZag, ValidZig}
use Rattle.diagram_terms.specs.Places.{Test, Passes, here, under, at_each, lengths_fit, square_commutes, arrow_tests, leg_tests, tests_of, IsFirstFailure, first_failure, first_bad_place, first_bad_place_between}
use Rattle.diagram_terms.specs.Laws.{HasOneFirstFault}
use Rattle.diagram_terms.proofs.Decisions.{same_label_decides, at_most_decides, square_decides, dual_next, All-left, All-right, passes_here, passes_under, passes_each}

-- ---- the first failure of a list of tests

abbrev fails : Test → Bool
fails t = not t.holds

pub first_failed : (t : Test) (ts : List Test) → t.holds ≡ false → first_failure (t ∷ ts) ≡ Some t.place
first_failed t ts h = ap (option_map (λ (u : Test). u.place)) (cond-true (fails t) (Some t) (find fails ts) (not_from_false t.holds h))

pub first_passed : (t : Test) (ts : List Test) → t.holds ≡ true → first_failure (t ∷ ts) ≡ first_failure ts
first_passed t ts h = ap (option_map (λ (u : Test). u.place)) (cond-false (fails t) (Some t) (find fails ts) (not_from_true t.holds h))

-- a list of tests all passes, or has a first failure
cases_of : (ts : List Test) → All Passes ts ⊎ ((p : Place) × IsFirstFailure ts p)
cases_of [] = inl (All-nil Passes)
cases_of (t ∷ ts) = elim (cases_Bool t.holds) [
  | inl h ↦ elim (cases_of ts) [
    | inl all ↦ inl (All-cons Passes t ts h all)
    | inr f ↦ inr (
      f.0,
      record {
        passed = t ∷ f.1.passed;
        failed = f.1.failed;
        rest = f.1.rest;
        visited = ap (λ (us : List Test). t ∷ us) f.1.visited;
        before = All-cons Passes t f.1.passed h f.1.before;
        fails = f.1.fails;
        place = f.1.place;
      },
    )
  ]
  | inr h ↦ inr (
    t.place,
    record {
      passed = [];
      failed = t;
      rest = ts;
      visited = refl;
      before = All-nil Passes;
      fails = h;
      place = refl;
    },
  )
]

none_from_all : (ts : List Test) → All Passes ts → first_failure ts ≡ None
none_from_all [] all = refl
none_from_all (t ∷ ts) all = first_passed t ts (All-head Passes t ts all) ∙ none_from_all ts (All-tail Passes t ts all)

found_behind : (passed : List Test) (failed : Test) (rest : List Test) → All Passes passed → failed.holds ≡ false
    → first_failure (passed ++ failed ∷ rest) ≡ Some failed.place
found_behind [] failed rest all h = first_failed failed rest h
found_behind (t ∷ ts) failed rest all h =
    first_passed t (ts ++ failed ∷ rest) (All-head Passes t ts all) ∙ found_behind ts failed rest (All-tail Passes t ts all) h

found_first : (ts : List Test) (p : Place) → IsFirstFailure ts p → first_failure ts ≡ Some p
found_first ts p f = ap first_failure f.visited ∙ found_behind f.passed f.failed f.rest f.before f.fails ∙ ap Some f.place

pub none_iff_all_pass : (ts : List Test) → (first_failure ts ≡ None) ↔ All Passes ts
none_iff_all_pass ts = (
  λ e. elim (cases_of ts) [
    | inl all ↦ all
    | inr f ↦ absurd (none-some f.0 (sym e ∙ found_first ts f.0 f.1))
  ],
  none_from_all ts,
)

pub only_first_failure : (ts : List Test) (p q : Place) → IsFirstFailure ts p → IsFirstFailure ts q → p ≡ q
only_first_failure ts p q f g = same_Some p q (sym (found_first ts p f) ∙ found_first ts q g)

pub some_iff_first_failure : (ts : List Test) (p : Place) → (first_failure ts ≡ Some p) ↔ IsFirstFailure ts p
some_iff_first_failure ts p = (
  λ e. elim (cases_of ts) [
    | inl all ↦ absurd (none-some p (sym (none_from_all ts all) ∙ e))
    | inr f ↦ subst (IsFirstFailure ts) (same_Some f.0 p (sym (found_first ts f.0 f.1) ∙ e)) f.1
  ],
  found_first ts p,
)

pub first_failure_unless : (ts : List Test) → ¬ (All Passes ts) → (p : Place) × IsFirstFailure ts p
first_failure_unless ts n = elim (cases_of ts) [
  | inl all ↦ absurd (n all)
  | inr f ↦ f
]

-- ---- arrows

-- the tests of an arrow decide whether it is valid
abbrev ArrowTested : (d : ℕ) → Arr d → Type 0
ArrowTested d f = (X Y : Dia d) → All Passes (arrow_tests d X Y f) ↔ ValidArrow d X Y f

-- what the shape of an arrow says, where its slices are tested
record IsTestedZag (d : ℕ) (f : Arr (suc d)) : Type 0 where
  sings_len : length f.sings ≡ length f.heights
  monotone : IsMonotone f.heights
  below : (i : ℕ) → i < length f.heights → suc (get_or f.heights i 0) < length f.regs
  regs_are : (j : ℕ) → j < length f.regs → ArrowTested d (arrow_reg d f j)
  sings_are : (i : ℕ) → i < length f.sings → ArrowTested d (arrow_sing d f i)

module _ (d : ℕ) (X Y : Dia (suc d)) (f : Arr (suc d)) (z : IsTestedZag d f) where
  abbrev reg_tests : ℕ → List Test
  reg_tests j = under (step.R j) (arrow_tests d (reg d X (dual f.heights j)) (reg d Y j) (arrow_reg d f j))

  abbrev sing_tests : ℕ → List Test
  sing_tests i = under (step.S i) (arrow_tests d (sing d X i) (sing d Y (height d f i)) (arrow_sing d f i))

  abbrev square_tests : ℕ → List Test
  square_tests k = here (at_end.Square k) (square_commutes d X Y f k)

  abbrev ends_test : List Test
  ends_test = here at_end.Ends (lengths_fit d X Y f)

  abbrev all_regs : List Test
  all_regs = at_each (suc (length Y.sings)) reg_tests

  abbrev all_sings : List Test
  all_sings = at_each (length X.sings) sing_tests

  abbrev all_squares : List Test
  all_squares = at_each (length Y.sings) square_tests

  lengths_to : lengths_fit d X Y f ≡ true → (length f.heights ≡ length X.sings) × (length f.regs ≡ suc (length Y.sings))
  lengths_to h =
      let p = and_parts (nat_eq (length f.heights) (length X.sings)) (nat_eq (length f.regs) (suc (length Y.sings))) h in
      (eqb-true (length f.heights) (length X.sings) p.0, eqb-true (length f.regs) (suc (length Y.sings)) p.1)

  zag_to : All Passes (arrow_tests (suc d) X Y f) → ValidZag d (ValidArrow d) X Y f
  zag_to h =
      let h3 = All-left Passes (ends_test ++ all_regs ++ all_sings) all_squares h in
      let h2 = All-left Passes (ends_test ++ all_regs) all_sings h3 in
      let lengths = lengths_to ((passes_here at_end.Ends (lengths_fit d X Y f)).0 (All-left Passes ends_test all_regs h2)) in
      let heights_len : length f.heights ≡ length X.sings = lengths.0 in
      let regs_len : length f.regs ≡ suc (length Y.sings) = lengths.1 in
      let same_len = z.sings_len in
      let each_reg = (passes_each (suc (length Y.sings)) reg_tests).0 (All-right Passes ends_test all_regs h2) in
      let each_sing = (passes_each (length X.sings) sing_tests).0 (All-right Passes (ends_test ++ all_regs) all_sings h3) in
      let each_square = (passes_each (length Y.sings) square_tests).0 (All-right Passes (ends_test ++ all_regs ++ all_sings) all_squares h) in
      record {
        heights_len = heights_len;
        regs_len = regs_len;
        sings_len = omega arith;
        monotone = z.monotone;
        below = record { below = λ i l. (let b = z.below i l in omega arith) };
        regs = λ j l. (z.regs_are j (omega arith) _ _).0 ((passes_under (step.R j) _).0 (each_reg j (omega arith)));
        sings = λ i l. (z.sings_are i (omega arith) _ _).0 ((passes_under (step.S i) _).0 (each_sing i l));
        squares = λ k l. (square_decides d X Y f k (dual_next f.heights k)).0 ((passes_here (at_end.Square k) (square_commutes d X Y f k)).0 (each_square k l));
      }

  zag_from : ValidZag d (ValidArrow d) X Y f → All Passes (arrow_tests (suc d) X Y f)
  zag_from v =
      let heights_len = v.heights_len in
      let regs_len = v.regs_len in
      let sings_len = v.sings_len in
      let fit : lengths_fit d X Y f ≡ true = and_from (nat_eq (length f.heights) (length X.sings)) (nat_eq (length f.regs) (suc (length Y.sings)))
      (eq-eqb (length f.heights) (length X.sings) heights_len) (eq-eqb (length f.regs) (suc (length Y.sings)) regs_len) in
      let ends_pass = (passes_here at_end.Ends (lengths_fit d X Y f)).1 fit in
      let regs_pass = (passes_each (suc (length Y.sings)) reg_tests).1
      (λ j l. (passes_under (step.R j) _).1 ((z.regs_are j (omega arith) _ _).1 (v.regs j (omega arith)))) in
      let sings_pass = (passes_each (length X.sings) sing_tests).1
      (λ i l. (passes_under (step.S i) _).1 ((z.sings_are i (omega arith) _ _).1 (v.sings i l))) in
      let squares_pass = (passes_each (length Y.sings) square_tests).1
      (λ k l. (passes_here (at_end.Square k) (square_commutes d X Y f k)).1 ((square_decides d X Y f k (dual_next f.heights k)).1 (v.squares k l))) in
      All-append Passes (ends_test ++ all_regs ++ all_sings) all_squares
      (All-append Passes (ends_test ++ all_regs) all_sings (All-append Passes ends_test all_regs ends_pass regs_pass) sings_pass)
      squares_pass

tested_zag : (d : ℕ) (f : Arr (suc d)) → IsTestedZag d f → ArrowTested (suc d) f
tested_zag d f z = λ X Y. (zag_to d X Y f z, zag_from d X Y f z)

-- ---- the parts of what a tree stands for

module _ (d : ℕ) (t : Tree) where
  arr-reg : (j : ℕ) → j < length (regs t) → arrow_reg d (arr (suc d) t) j ≡ arr d (reg_at t j)
  arr-reg j l = get_or-map (arr d) (regs t) j nil (no_arr d) l

  arr-sing : (i : ℕ) → i < length (sings t) → arrow_sing d (arr (suc d) t) i ≡ arr d (sing_at t i)
  arr-sing i l = get_or-map (arr d) (sings t) i nil (no_arr d) l

  dia-reg : (j : ℕ) → j < length (regs t) → reg d (dia (suc d) t) j ≡ dia d (reg_at t j)
  dia-reg j l = get_or-map (dia d) (regs t) j nil (no_dia d) l

  dia-sing : (i : ℕ) → i < length (sings t) → sing d (dia (suc d) t) i ≡ dia d (sing_at t i)
  dia-sing i l = get_or-map (dia d) (sings t) i nil (no_dia d) l

  dia-fwd : (k : ℕ) → k < length (fwds t) → fwd d (dia (suc d) t) k ≡ arr d (fwd_at t k)
  dia-fwd k l = get_or-map (arr d) (fwds t) k nil (no_arr d) l

  dia-bwd : (k : ℕ) → k < length (bwds t) → bwd d (dia (suc d) t) k ≡ arr d (bwd_at t k)
  dia-bwd k l = get_or-map (arr d) (bwds t) k nil (no_arr d) l

-- the tests of the arrows of one dimension
abbrev ArrowsTested : ℕ → Type 0
ArrowsTested d = (t : Tree) → IsArrow d t → ArrowTested d (arr d t)

ends_tested : ArrowsTested zero
ends_tested t h x y =
    let f : Arr zero = arr zero t in
    let test_from : Bool = same_label f.from x in
    let test_to : Bool = same_label f.to y in (
      λ all. (let p = and_parts (test_from && test_to) (at_most x y) ((passes_here at_end.Ends _).0 all) in
          let q = and_parts test_from test_to p.0 in
          record {
            from = (same_label_decides f.from x).0 q.0;
            to = (same_label_decides f.to y).0 q.1;
            order = (at_most_decides x y).0 p.1;
          }),
      λ v. (passes_here at_end.Ends _).1 (and_from (test_from && test_to) (at_most x y)
          (and_from test_from test_to ((same_label_decides f.from x).1 v.from) ((same_label_decides f.to y).1 v.to))
          ((at_most_decides x y).1 v.order)),
    )

arrows_tested_step : (d : ℕ) → ArrowsTested d → ArrowsTested (suc d)
arrows_tested_step d tested t h =
    let f : Arr (suc d) = arr (suc d) t in
    let rs : length f.regs ≡ length (regs t) = length-map (regs t) (arr d) in
    let ss : length f.sings ≡ length (sings t) = length-map (sings t) (arr d) in
    let same_len = h.sings_len in
    tested_zag d f (record {
      sings_len = omega arith;
      monotone = h.monotone;
      below = λ i l. (let b = h.below i l in omega arith);
      regs_are = λ j l. (let k : j < length (regs t) = omega arith in
          subst (ArrowTested d) (sym (arr-reg d t j k)) (tested (reg_at t j) (h.regs_are j k)));
      sings_are = λ i l. (let k : i < length (sings t) = omega arith in
          subst (ArrowTested d) (sym (arr-sing d t i k)) (tested (sing_at t i) (h.sings_are i k)));
    })

arrows_tested : (d : ℕ) → ArrowsTested d
arrows_tested zero = ends_tested
arrows_tested (suc d) = arrows_tested_step d (arrows_tested d)

pub arrow_passes : (d : ℕ) (t : Tree) (X Y : Dia d) → IsArrow d t → All Passes (arrow_tests d X Y (arr d t)) ↔ ValidArrow d X Y (arr d t)
arrow_passes d t X Y h = arrows_tested d t h X Y

-- ---- diagrams

-- the tests of a diagram decide whether it is valid
abbrev Tested : (d : ℕ) → Dia d → Type 0
Tested d X = All Passes (tests_of d X) ↔ Valid d X

-- what the shape of a diagram says, where its slices and legs are tested
record IsTestedZig (d : ℕ) (X : Dia (suc d)) : Type 0 where
  regs_len : length X.regs ≡ suc (length X.sings)
  fwds_len : length X.fwds ≡ length X.sings
  bwds_len : length X.bwds ≡ length X.sings
  regs_are : (j : ℕ) → j ≤ length X.sings → Tested d (reg d X j)
  sings_are : (i : ℕ) → i < length X.sings → Tested d (sing d X i)
  fwds_are : (k : ℕ) → k < length X.sings → ArrowTested d (fwd d X k)
  bwds_are : (k : ℕ) → k < length X.sings → ArrowTested d (bwd d X k)

module _ (d : ℕ) (X : Dia (suc d)) (z : IsTestedZig d X) where
  abbrev reg_slices : ℕ → List Test
  reg_slices j = under (step.R j) (tests_of d (reg d X j))

  abbrev sing_slices : ℕ → List Test
  sing_slices i = under (step.S i) (tests_of d (sing d X i))

  abbrev fwd_legs : ℕ → List Test
  fwd_legs k = under (step.F k) (arrow_tests d (reg d X k) (sing d X k) (fwd d X k))

  abbrev bwd_legs : ℕ → List Test
  bwd_legs k = under (step.B k) (arrow_tests d (reg d X (suc k)) (sing d X k) (bwd d X k))

  abbrev all_reg_slices : List Test
  all_reg_slices = at_each (suc (length X.sings)) reg_slices

  abbrev all_sing_slices : List Test
  all_sing_slices = at_each (length X.sings) sing_slices

  abbrev all_legs : List Test
  all_legs = at_each (length X.sings) (leg_tests d X)

  zig_to : All Passes (tests_of (suc d) X) → ValidZig d (Valid d) X
  zig_to h =
      let h2 = All-left Passes (all_reg_slices ++ all_sing_slices) all_legs h in
      let each_reg = (passes_each (suc (length X.sings)) reg_slices).0 (All-left Passes all_reg_slices all_sing_slices h2) in
      let each_sing = (passes_each (length X.sings) sing_slices).0 (All-right Passes all_reg_slices all_sing_slices h2) in
      let each_leg = (passes_each (length X.sings) (leg_tests d X)).0 (All-right Passes (all_reg_slices ++ all_sing_slices) all_legs h) in
      record {
        regs_len = z.regs_len;
        fwds_len = z.fwds_len;
        bwds_len = z.bwds_len;
        regs = λ j l. (z.regs_are j l).0 ((passes_under (step.R j) _).0 (each_reg j (omega arith)));
        sings = λ i l. (z.sings_are i l).0 ((passes_under (step.S i) _).0 (each_sing i l));
        fwds = λ k l. (z.fwds_are k l _ _).0 ((passes_under (step.F k) _).0 (All-left Passes (fwd_legs k) (bwd_legs k) (each_leg k l)));
        bwds = λ k l. (z.bwds_are k l _ _).0 ((passes_under (step.B k) _).0 (All-right Passes (fwd_legs k) (bwd_legs k) (each_leg k l)));
      }

  zig_from : ValidZig d (Valid d) X → All Passes (tests_of (suc d) X)
  zig_from v =
      let regs_pass = (passes_each (suc (length X.sings)) reg_slices).1
      (λ j l. (passes_under (step.R j) _).1 ((z.regs_are j (omega arith)).1 (v.regs j (omega arith)))) in
      let sings_pass = (passes_each (length X.sings) sing_slices).1
      (λ i l. (passes_under (step.S i) _).1 ((z.sings_are i l).1 (v.sings i l))) in
      let legs_pass = (passes_each (length X.sings) (leg_tests d X)).1
      (λ k l. All-append Passes (fwd_legs k) (bwd_legs k)
      ((passes_under (step.F k) _).1 ((z.fwds_are k l _ _).1 (v.fwds k l)))
      ((passes_under (step.B k) _).1 ((z.bwds_are k l _ _).1 (v.bwds k l)))) in
      All-append Passes (all_reg_slices ++ all_sing_slices) all_legs
      (All-append Passes all_reg_slices all_sing_slices regs_pass sings_pass)
      legs_pass

-- the tests of the diagrams of one dimension
abbrev DiagramsTested : ℕ → Type 0
DiagramsTested d = (t : Tree) → IsDiagram d t → Tested d (dia d t)

diagrams_tested_step : (d : ℕ) → DiagramsTested d → DiagramsTested (suc d)
diagrams_tested_step d tested t h =
    let X : Dia (suc d) = dia (suc d) t in
    let rs : length X.regs ≡ length (regs t) = length-map (regs t) (dia d) in
    let ss : length X.sings ≡ length (sings t) = length-map (sings t) (dia d) in
    let fs : length X.fwds ≡ length (fwds t) = length-map (fwds t) (arr d) in
    let bs : length X.bwds ≡ length (bwds t) = length-map (bwds t) (arr d) in
    let regs_len = h.regs_len in
    let fwds_len = h.fwds_len in
    let bwds_len = h.bwds_len in
    let z : IsTestedZig d X = record {
      regs_len = omega arith;
      fwds_len = omega arith;
      bwds_len = omega arith;
      regs_are = λ j l. subst (Tested d) (sym (dia-reg d t j (omega arith))) (tested (reg_at t j) (h.regs_are j (omega arith)));
      sings_are = λ i l. subst (Tested d) (sym (dia-sing d t i (omega arith))) (tested (sing_at t i) (h.sings_are i (omega arith)));
      fwds_are = λ k l. subst (ArrowTested d) (sym (dia-fwd d t k (omega arith))) (arrows_tested d (fwd_at t k) (h.fwds_are k (omega arith)));
      bwds_are = λ k l. subst (ArrowTested d) (sym (dia-bwd d t k (omega arith))) (arrows_tested d (bwd_at t k) (h.bwds_are k (omega arith)));
    } in
    (zig_to d X z, zig_from d X z)

-- the tests of a tree of the shape of a diagram all pass exactly when it is a valid one
pub diagram_passes : (d : ℕ) (t : Tree) → IsDiagram d t → All Passes (tests_of d (dia d t)) ↔ Valid d (dia d t)
diagram_passes zero = λ t h. (λ all. tt, λ v. All-nil Passes)
diagram_passes (suc d) = diagrams_tested_step d (diagram_passes d)

-- ---- the laws

pub no_bad_place : (d : ℕ) (t : Tree) → IsDiagram d t → (first_bad_place d (dia d t) ≡ None) ↔ Valid d (dia d t)
no_bad_place d t h =
    let none = none_iff_all_pass (tests_of d (dia d t)) in
    let passes = diagram_passes d t h in
    (λ e. passes.0 (none.0 e), λ v. none.1 (passes.1 v))

pub no_bad_place_between : (d : ℕ) (t : Tree) (X Y : Dia d) → IsArrow d t
    → (first_bad_place_between d X Y (arr d t) ≡ None) ↔ ValidArrow d X Y (arr d t)
no_bad_place_between d t X Y h =
    let none = none_iff_all_pass (arrow_tests d X Y (arr d t)) in
    let passes = arrow_passes d t X Y h in
    (λ e. passes.0 (none.0 e), λ v. none.1 (passes.1 v))

pub one_first_fault : (d : ℕ) (t : Tree) → IsDiagram d t → ¬ (Valid d (dia d t)) → HasOneFirstFault d (dia d t)
one_first_fault d t h n =
    let tests = tests_of d (dia d t) in
    let f = first_failure_unless tests (λ all. n ((diagram_passes d t h).0 all)) in
    record {
      place = f.0;
      is_first = f.1;
      only = λ p g. only_first_failure tests p f.0 g f.1;
      found = (some_iff_first_failure tests f.0).1 f.1;
    }
