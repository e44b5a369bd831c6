-- The tests of a diagram, by its slices and its legs.
use Rattle.std.proofs.Common.{◌≡◌, ℕ, zero, suc, ◌-◌, ◌<◌, ◌≤◌, List, ◌++◌, length, None, refl, sym, ap, subst, ◌∙◌, arith}
use Rattle.diagram_terms.specs.declared.place.Step.TheVariants as step
use Rattle.diagram_terms.specs.FaultsOnTrees.{diagram_fault}
use Rattle.diagram_terms.specs.Tree.{Tree, sings, fwds, bwds}
use Rattle.diagram_terms.specs.Family.{Dia, reg, sing, fwd, bwd}
use Rattle.diagram_terms.specs.Decoded.{dia}
use Rattle.diagram_terms.specs.Shape.{IsDiagram, reg_at, sing_at, fwd_at, bwd_at}
use Rattle.diagram_terms.specs.Places.{Test, under, at_each, arrow_tests, tests_of, first_failure}
use Rattle.diagram_terms.specs.Places as family
use Rattle.diagram_terms.proofs.Dimensions.{diagram_dimension}
use Rattle.diagram_terms.proofs.FirstFaults.{no_bad_place}
use Rattle.diagram_terms.proofs.Glue.{dia-sings_len, dia-reg, dia-sing, dia-fwd, dia-bwd}
use Rattle.zigzag_maps.proofs.Visiting.{same_each}
use Rattle.diagram_terms.specs.ValidTrees.{IsValidTreeAt}
use Rattle.zigzag_maps.specs.DiagramTests.{tests_in, reg_slice_tests, sing_slice_tests, fwd_tests, bwd_tests, leg_tests, legs_of, HasValidParts}
use Rattle.diagram_terms.specs.Order.{steps, in_order, PassedBefore}
use Rattle.zigzag_maps.specs.Walks.{IsWalk, tests_in_part, tests_to_part}
use Rattle.diagram_terms.proofs.NotionsOnTrees.{above}
use Rattle.diagram_terms.proofs.NextSteps.{by_steps}
use Rattle.zigzag_maps.proofs.TestsOfArrows.{tests_between_at}

pub tests_in_at : (d : ℕ) (t : Tree) → IsDiagram d t → tests_in t ≡ tests_of d (dia d t)
unfolding tests_in
tests_in_at d t h = ap (λ n. tests_of n (dia n t)) (diagram_dimension d t h)

pub first_in : (t : Tree) → first_failure (tests_in t) ≡ diagram_fault t
unfolding tests_in
first_in t = refl

-- the tests decide whether the diagram is valid
pub valid_from : (d : ℕ) (t : Tree) → IsDiagram d t → first_failure (tests_in t) ≡ None → IsValidTreeAt d t
valid_from d t h e = record { shape = h; valid = (no_bad_place d t h).0 (ap first_failure (sym (tests_in_at d t h)) ∙ e) }

pub valid_passes : (d : ℕ) (t : Tree) → IsValidTreeAt d t → first_failure (tests_in t) ≡ None
valid_passes d t h = ap first_failure (tests_in_at d t h.shape) ∙ (no_bad_place d t h.shape).1 h.valid

-- a diagram of dimension 0 has no tests
pub none_in_zero : (t : Tree) → IsDiagram zero t → first_failure (tests_in t) ≡ None
none_in_zero t h = ap first_failure (tests_in_at zero t h)

-- ---- above

module _ (d : ℕ) (t : Tree) (h : IsDiagram (suc d) t) where
  abbrev X : Dia (suc d)
  X = dia (suc d) t

  reg_is : (j : ℕ) → j < suc (length (sings t)) → under (step.R j) (tests_of d (reg d X j)) ≡ reg_slice_tests t j
  reg_is j l =
      let m : j ≤ length (sings t) = omega arith in
      ap (under (step.R j)) (ap (tests_of d) (dia-reg d t h j m) ∙ sym (tests_in_at d (reg_at t j) (h.regs_are j m)))

  sing_is : (i : ℕ) → i < length (sings t) → under (step.S i) (tests_of d (sing d X i)) ≡ sing_slice_tests t i
  sing_is i l = ap (under (step.S i)) (ap (tests_of d) (dia-sing d t h i l) ∙ sym (tests_in_at d (sing_at t i) (h.sings_are i l)))

  fwd_is : (k : ℕ) → k < length (sings t) → under (step.F k) (arrow_tests d (reg d X k) (sing d X k) (fwd d X k)) ≡ fwd_tests t k
  fwd_is k l =
      let p = dia-reg d t h k (omega arith) in
      let q = dia-sing d t h k l in
      let r = dia-fwd d t h k l in
      ap (under (step.F k)) ((λ i. arrow_tests d (p i) (q i) (r i)) ∙ sym (tests_between_at d (reg_at t k) (sing_at t k) (fwd_at t k) (h.fwds_are k l)))

  bwd_is : (k : ℕ) → k < length (sings t) → under (step.B k) (arrow_tests d (reg d X (suc k)) (sing d X k) (bwd d X k)) ≡ bwd_tests t k
  bwd_is k l =
      let p = dia-reg d t h (suc k) (omega arith) in
      let q = dia-sing d t h k l in
      let r = dia-bwd d t h k l in
      ap (under (step.B k)) ((λ i. arrow_tests d (p i) (q i) (r i)) ∙ sym (tests_between_at d (reg_at t (suc k)) (sing_at t k) (bwd_at t k) (h.bwds_are k l)))

  leg_is : (k : ℕ) → k < length (sings t) → family.leg_tests d X k ≡ leg_tests t k
  leg_is k l = let p = fwd_is k l in let q = bwd_is k l in λ i. p i ++ q i

  abbrev all_regs : List Test
  all_regs = at_each (suc (length (sings t))) (reg_slice_tests t)

  abbrev all_sings : List Test
  all_sings = at_each (length (sings t)) (sing_slice_tests t)

  abbrev all_legs : List Test
  all_legs = at_each (length (sings t)) (leg_tests t)

  parts_are : tests_in t ≡ all_regs ++ all_sings ++ all_legs
  parts_are =
      let x = dia-sings_len d t in
      let p : at_each (suc (length X.sings)) (λ j. under (step.R j) (tests_of d (reg d X j))) ≡ all_regs =
      ap (λ n. at_each (suc n) (λ j. under (step.R j) (tests_of d (reg d X j)))) x ∙ same_each _ (reg_slice_tests t) (suc (length (sings t))) reg_is in
      let q : at_each (length X.sings) (λ i. under (step.S i) (tests_of d (sing d X i))) ≡ all_sings =
      ap (λ n. at_each n (λ i. under (step.S i) (tests_of d (sing d X i)))) x ∙ same_each _ (sing_slice_tests t) (length (sings t)) sing_is in
      let r : at_each (length X.sings) (family.leg_tests d X) ≡ all_legs =
      ap (λ n. at_each n (family.leg_tests d X)) x ∙ same_each _ (leg_tests t) (length (sings t)) leg_is in
      tests_in_at (suc d) t h ∙ (λ i. p i ++ q i ++ r i)

-- ---- at a dimension that is a number of the program

-- there are as many legs of each kind as singular slices
pub legs_len : (n : ℕ) (t : Tree) → 0 < n → IsDiagram n t → (length (fwds t) ≡ length (sings t)) × (length (bwds t) ≡ length (sings t))
legs_len zero t l h = absurd (omega arith)
legs_len (suc d) t l h = (h.fwds_len, h.bwds_len)

-- above dimension 0 the tests are those of the parts, in the order of the steps
tests_in_order : (n : ℕ) → 0 < n → (t : Tree) → IsDiagram n t → in_order (steps (length (sings t))) (tests_to_part tests_in legs_of t) ≡ tests_in t
tests_in_order = above _ (λ d t h. sym (by_steps (tests_to_part tests_in legs_of t) (length (sings t))) ∙ sym (parts_are d t h))

pub tests_walk : IsWalk tests_in legs_of
tests_walk = record { none_in_zero = λ t h. sym (none_in_zero t h); parts = tests_in_order }

-- slices that passed are valid
pub parts_valid : (n : ℕ) → 0 < n → (t : Tree) → IsDiagram n t
    → PassedBefore (tests_in_part tests_in legs_of t) (suc (length (sings t))) (length (sings t)) → HasValidParts (n - 1) t
parts_valid = above _ (λ d t h passed.
    let e : d ≡ suc d - 1 = omega arith in
    subst (λ n. HasValidParts n t) e (record {
      reg_slices = λ j l. valid_from d (reg_at t j) (h.regs_are j l) (sym (passed.regs_pass j (omega arith)));
      sing_slices = λ i l. valid_from d (sing_at t i) (h.sings_are i l) (sym (passed.sings_pass i l));
    }))
