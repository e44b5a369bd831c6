-- The tests of an arrow between trees, by its slices and its squares.
use Rattle.std.proofs.Common.{◌≡◌, ℕ, zero, suc, ◌-◌, ◌<◌, ◌≤◌, List, [], ◌++◌, length, get_or, true, false, ◌&&◌, nat_eq, None, Some, refl, sym, ap, subst, ◌∙◌, arith}
use Rattle.std.proofs.lemmas.Bool.{and_parts, and_from, eqb-true, eq-eqb}
use Rattle.diagram_terms.specs.declared.label.Label.{Label}
use Rattle.diagram_terms.specs.declared.place.Place.{Place}
use Rattle.diagram_terms.specs.declared.place.Step.TheVariants as step
use Rattle.diagram_terms.specs.declared.place.End.TheVariants as at_end
use Rattle.diagram_terms.specs.FaultsOnTrees.{tests_between}
use Rattle.diagram_terms.specs.Tree.{Tree, point, ends, heights, regs, sings}
use Rattle.diagram_terms.specs.Dimension.{dimension_of}
use Rattle.diagram_terms.specs.Dual.{dual}
use Rattle.diagram_terms.specs.Family.{Dia, Arr, reg, sing, arrow_reg, arrow_sing, height}
use Rattle.diagram_terms.specs.Decoded.{dia, arr}
use Rattle.diagram_terms.specs.Shape.{IsDiagram, IsArrow, reg_at, sing_at}
use Rattle.diagram_terms.specs.Places.{Test, here, under, at_each, lengths_fit, ends_hold, square_commutes, arrow_tests, first_failure}
use Rattle.diagram_terms.proofs.Dimensions.{arrow_dimension}
use Rattle.diagram_terms.proofs.Duals.{dual-le-length}
use Rattle.diagram_terms.proofs.FirstFaults.{none_iff_all_pass, arrow_passes}
use Rattle.diagram_terms.proofs.Glue.{dia-sings_len, dia-reg, dia-sing, arr-regs_len, arr-reg, arr-sing}
use Rattle.diagram_terms.proofs.Shapes.{dia-point, arr-ends, IsArrow-ends}
use Rattle.diagram_terms.proofs.Visiting.{append_fails, append_passes, here_passes}
use Rattle.zigzag_maps.proofs.Visiting.{passed_under, passed_each, same_each}
use Rattle.diagram_terms.specs.ValidTrees.{IsArrowBetweenAt}
use Rattle.zigzag_maps.specs.Visits.{reg_tests, sing_tests, square_holds, square_tests, lengths_are, FitsEnds, HasValidSlices}

abbrev pub ends_place : Place
ends_place = record { steps = []; end = at_end.Ends }

-- ---- at the dimension of the arrow

pub tests_between_at : (d : ℕ) (s t f : Tree) → IsArrow d f → tests_between s t f ≡ arrow_tests d (dia d s) (dia d t) (arr d f)
unfolding tests_between
tests_between_at d s t f h = ap (λ n. arrow_tests n (dia n s) (dia n t) (arr n f)) (arrow_dimension d f h)

pub square_holds_at : (d : ℕ) (s t f : Tree) (k : ℕ) → IsArrow (suc d) f → square_holds s t f k ≡ square_commutes d (dia (suc d) s) (dia (suc d) t) (arr (suc d) f) k
unfolding square_holds
square_holds_at d s t f k h =
    let e : dimension_of f - 1 ≡ d = omega (arith, arrow_dimension (suc d) f h) in
    ap (λ n. square_commutes n (dia (suc n) s) (dia (suc n) t) (arr (suc n) f) k) e

-- the tests decide whether the arrow is valid
pub between_from : (d : ℕ) (s t f : Tree) → IsDiagram d s → IsDiagram d t → IsArrow d f → first_failure (tests_between s t f) ≡ None → IsArrowBetweenAt d s t f
between_from d s t f hs ht hf e = record {
  source = hs;
  target = ht;
  shape = hf;
  valid = (arrow_passes d f (dia d s) (dia d t) hf).0 ((none_iff_all_pass _).0 (ap first_failure (sym (tests_between_at d s t f hf)) ∙ e));
}

pub between_passes : (d : ℕ) (s t f : Tree) → IsArrowBetweenAt d s t f → first_failure (tests_between s t f) ≡ None
between_passes d s t f h =
    ap first_failure (tests_between_at d s t f h.shape)
    ∙ (none_iff_all_pass _).1 ((arrow_passes d f (dia d s) (dia d t) h.shape).1 h.valid)

-- ---- dimension 0

pub tests_between-ends : (x y u v : Label) → tests_between (point x) (point y) (ends u v) ≡ here at_end.Ends (ends_hold x y (record { from = u; to = v }))
tests_between-ends x y u v =
    let p = dia-point x in
    let q = dia-point y in
    let r = arr-ends u v in
    tests_between_at zero (point x) (point y) (ends u v) (IsArrow-ends u v) ∙ (λ i. here at_end.Ends (ends_hold (p i) (q i) (r i)))

-- ---- above

pub lengths_true : (s t f : Tree) → length (heights f) ≡ length (sings s) → length (regs f) ≡ suc (length (sings t)) → lengths_are s t f ≡ true
lengths_true s t f a b =
    and_from (nat_eq (length (heights f)) (length (sings s))) (nat_eq (length (regs f)) (suc (length (sings t)))) (eq-eqb _ _ a) (eq-eqb _ _ b)

module _ (d : ℕ) (s t f : Tree) (hs : IsDiagram (suc d) s) (ht : IsDiagram (suc d) t) (hf : IsArrow (suc d) f) where
  abbrev X : Dia (suc d)
  X = dia (suc d) s

  abbrev Y : Dia (suc d)
  Y = dia (suc d) t

  abbrev F : Arr (suc d)
  F = arr (suc d) f

  abbrev ends_tests : List Test
  ends_tests = here at_end.Ends (lengths_fit d X Y F)

  abbrev family_regs : List Test
  family_regs = at_each (suc (length Y.sings)) (λ j. under (step.R j) (arrow_tests d (reg d X (dual F.heights j)) (reg d Y j) (arrow_reg d F j)))

  abbrev family_sings : List Test
  family_sings = at_each (length X.sings) (λ i. under (step.S i) (arrow_tests d (sing d X i) (sing d Y (height d F i)) (arrow_sing d F i)))

  abbrev family_squares : List Test
  family_squares = at_each (length Y.sings) (λ k. here (at_end.Square k) (square_commutes d X Y F k))

  family_is : tests_between s t f ≡ ends_tests ++ family_regs ++ family_sings ++ family_squares
  family_is = tests_between_at (suc d) s t f hf

  fit_is : lengths_fit d X Y F ≡ lengths_are s t f
  fit_is =
      let a = dia-sings_len d s in
      let b = dia-sings_len d t in
      let c = arr-regs_len d f in
      λ i. nat_eq (length (heights f)) (a i) && nat_eq (c i) (suc (b i))

  not_fit_at : lengths_are s t f ≡ false → first_failure (tests_between s t f) ≡ Some ends_place
  not_fit_at e =
      ap first_failure family_is
      ∙ append_fails (ends_tests ++ family_regs ++ family_sings) family_squares ends_place
      (append_fails (ends_tests ++ family_regs) family_sings ends_place
      (append_fails ends_tests family_regs ends_place (ap (λ b. first_failure (here at_end.Ends b)) (fit_is ∙ e))))

  module _ (a : length (heights f) ≡ length (sings s)) (b : length (regs f) ≡ suc (length (sings t))) where
    reg_is : (j : ℕ) → j < suc (length (sings t))
        → under (step.R j) (arrow_tests d (reg d X (dual F.heights j)) (reg d Y j) (arrow_reg d F j)) ≡ reg_tests s t f j
    reg_is j l =
        let m : dual (heights f) j ≤ length (sings s) = omega (arith, dual-le-length (heights f) j) in
        let n : j < length (regs f) = omega arith in
        let p = dia-reg d s hs (dual (heights f) j) m in
        let q = dia-reg d t ht j (omega arith) in
        let r = arr-reg d f j n in
        ap (under (step.R j)) ((λ i. arrow_tests d (p i) (q i) (r i)) ∙ sym (tests_between_at d (reg_at s (dual (heights f) j)) (reg_at t j) (reg_at f j) (hf.regs_are j n)))

    sing_is : (i : ℕ) → i < length (sings s)
        → under (step.S i) (arrow_tests d (sing d X i) (sing d Y (height d F i)) (arrow_sing d F i)) ≡ sing_tests s t f i
    sing_is i l =
        let m : get_or (heights f) i 0 < length (sings t) = omega (arith, hf.below i (omega arith)) in
        let n : i < length (sings f) = omega (arith, hf.sings_len) in
        let p = dia-sing d s hs i l in
        let q = dia-sing d t ht (get_or (heights f) i 0) m in
        let r = arr-sing d f i n in
        ap (under (step.S i)) ((λ i. arrow_tests d (p i) (q i) (r i)) ∙ sym (tests_between_at d (sing_at s i) (sing_at t (get_or (heights f) i 0)) (sing_at f i) (hf.sings_are i n)))

    square_is : (k : ℕ) → k < length (sings t) → here (at_end.Square k) (square_commutes d X Y F k) ≡ square_tests s t f k
    square_is k l = ap (here (at_end.Square k)) (sym (square_holds_at d s t f k hf))

    abbrev all_regs : List Test
    all_regs = at_each (suc (length (sings t))) (reg_tests s t f)

    abbrev all_sings : List Test
    all_sings = at_each (length (sings s)) (sing_tests s t f)

    abbrev all_squares : List Test
    all_squares = at_each (length (sings t)) (square_tests s t f)

    fit_at : tests_between s t f ≡ here at_end.Ends true ++ all_regs ++ all_sings ++ all_squares
    fit_at =
        let x = dia-sings_len d s in
        let y = dia-sings_len d t in
        let e : lengths_fit d X Y F ≡ true = fit_is ∙ lengths_true s t f a b in
        let p : family_regs ≡ all_regs = ap (λ n. at_each (suc n) (λ j. under (step.R j) (arrow_tests d (reg d X (dual F.heights j)) (reg d Y j) (arrow_reg d F j)))) y
        ∙ same_each _ (reg_tests s t f) (suc (length (sings t))) reg_is in
        let q : family_sings ≡ all_sings = ap (λ n. at_each n (λ i. under (step.S i) (arrow_tests d (sing d X i) (sing d Y (height d F i)) (arrow_sing d F i)))) x
        ∙ same_each _ (sing_tests s t f) (length (sings s)) sing_is in
        let r : family_squares ≡ all_squares = ap (λ n. at_each n (λ k. here (at_end.Square k) (square_commutes d X Y F k))) y
        ∙ same_each _ (square_tests s t f) (length (sings t)) square_is in
        family_is ∙ (λ i. here at_end.Ends (e i) ++ p i ++ q i ++ r i)

    reg_fails_at : (p : Place) → first_failure all_regs ≡ Some p → first_failure (tests_between s t f) ≡ Some p
    reg_fails_at p e =
        ap first_failure fit_at
        ∙ append_fails (here at_end.Ends true ++ all_regs ++ all_sings) all_squares p
        (append_fails (here at_end.Ends true ++ all_regs) all_sings p (append_passes (here at_end.Ends true) all_regs (here_passes at_end.Ends true refl) ∙ e))

    module _ (regs_pass : first_failure all_regs ≡ None) where
      front : first_failure (here at_end.Ends true ++ all_regs) ≡ None
      front = append_passes (here at_end.Ends true) all_regs (here_passes at_end.Ends true refl) ∙ regs_pass

      sing_fails_at : (p : Place) → first_failure all_sings ≡ Some p → first_failure (tests_between s t f) ≡ Some p
      sing_fails_at p e =
          ap first_failure fit_at
          ∙ append_fails (here at_end.Ends true ++ all_regs ++ all_sings) all_squares p (append_passes (here at_end.Ends true ++ all_regs) all_sings front ∙ e)

      module _ (sings_pass : first_failure all_sings ≡ None) where
        squares_decide_at : first_failure (tests_between s t f) ≡ first_failure all_squares
        squares_decide_at =
            ap first_failure fit_at
            ∙ append_passes (here at_end.Ends true ++ all_regs ++ all_sings) all_squares (append_passes (here at_end.Ends true ++ all_regs) all_sings front ∙ sings_pass)

        slices_valid_at : HasValidSlices d s t f
        slices_valid_at = record {
          fits = record { heights_len = a; regs_len = b };
          regs = λ j l. between_from d _ _ _
              (hs.regs_are (dual (heights f) j) (omega (arith, dual-le-length (heights f) j))) (ht.regs_are j (omega arith)) (hf.regs_are j l)
              (passed_under (step.R j) (tests_between (reg_at s (dual (heights f) j)) (reg_at t j) (reg_at f j)) (passed_each (reg_tests s t f) (suc (length (sings t))) regs_pass j (omega arith)));
          sings = λ i l. between_from d _ _ _
              (hs.sings_are i (omega arith)) (ht.sings_are (get_or (heights f) i 0) (omega (arith, hf.below i l))) (hf.sings_are i (omega (arith, hf.sings_len)))
              (passed_under (step.S i) (tests_between (sing_at s i) (sing_at t (get_or (heights f) i 0)) (sing_at f i)) (passed_each (sing_tests s t f) (length (sings s)) sings_pass i (omega arith)));
        }

-- ---- at a dimension that is a number of the program

pub not_fit : (n : ℕ) (s t f : Tree) → 0 < n → IsDiagram n s → IsDiagram n t → IsArrow n f
    → lengths_are s t f ≡ false → first_failure (tests_between s t f) ≡ Some ends_place
not_fit zero s t f l hs ht hf e = absurd (omega arith)
not_fit (suc d) s t f l hs ht hf e = not_fit_at d s t f hs ht hf e

pub fits_from : (s t f : Tree) → lengths_are s t f ≡ true → FitsEnds s t f
fits_from s t f h =
    let p = and_parts (nat_eq (length (heights f)) (length (sings s))) (nat_eq (length (regs f)) (suc (length (sings t)))) h in
    record { heights_len = eqb-true _ _ p.0; regs_len = eqb-true _ _ p.1 }

module _ (s t f : Tree) (fits : FitsEnds s t f) where
  pub reg_fails : (n : ℕ) → 0 < n → IsDiagram n s → IsDiagram n t → IsArrow n f → (p : Place)
      → first_failure (at_each (suc (length (sings t))) (reg_tests s t f)) ≡ Some p → first_failure (tests_between s t f) ≡ Some p
  reg_fails zero l hs ht hf p e = absurd (omega arith)
  reg_fails (suc d) l hs ht hf p e = reg_fails_at d s t f hs ht hf fits.heights_len fits.regs_len p e

  module _ (regs_pass : first_failure (at_each (suc (length (sings t))) (reg_tests s t f)) ≡ None) where
    pub sing_fails : (n : ℕ) → 0 < n → IsDiagram n s → IsDiagram n t → IsArrow n f → (p : Place)
        → first_failure (at_each (length (sings s)) (sing_tests s t f)) ≡ Some p → first_failure (tests_between s t f) ≡ Some p
    sing_fails zero l hs ht hf p e = absurd (omega arith)
    sing_fails (suc d) l hs ht hf p e = sing_fails_at d s t f hs ht hf fits.heights_len fits.regs_len regs_pass p e

    module _ (sings_pass : first_failure (at_each (length (sings s)) (sing_tests s t f)) ≡ None) where
      pub squares_decide : (n : ℕ) → 0 < n → IsDiagram n s → IsDiagram n t → IsArrow n f
          → first_failure (tests_between s t f) ≡ first_failure (at_each (length (sings t)) (square_tests s t f))
      squares_decide zero l hs ht hf = absurd (omega arith)
      squares_decide (suc d) l hs ht hf = squares_decide_at d s t f hs ht hf fits.heights_len fits.regs_len regs_pass sings_pass

      pub slices_valid : (n : ℕ) → 0 < n → IsDiagram n s → IsDiagram n t → IsArrow n f → HasValidSlices (n - 1) s t f
      slices_valid zero l hs ht hf = absurd (omega arith)
      slices_valid (suc d) l hs ht hf =
          let e : d ≡ suc d - 1 = omega arith in
          subst (λ n. HasValidSlices n s t f) e (slices_valid_at d s t f hs ht hf fits.heights_len fits.regs_len regs_pass sings_pass)
