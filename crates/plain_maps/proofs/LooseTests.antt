-- The tests of the legs of a diagram, by its slices and its own legs.
use Rattle.std.proofs.Common.{◌≡◌, ℕ, zero, suc, ◌-◌, ◌<◌, List, ◌++◌, length, Bool, ◌↔◌, option_map, None, Some, refl, sym, ap, subst, inl, inr, ◌∙◌, arith}
use Rattle.std.proofs.lemmas.Bool.{cases_Bool}
use Rattle.diagram_terms.specs.declared.place.Step.TheVariants as step
use Rattle.diagram_terms.specs.declared.place.End.TheVariants as at_end
use Rattle.diagram_terms.specs.Tree.{Tree, sings}
use Rattle.diagram_terms.specs.Dimension.{dimension_of, IsArrowTree}
use Rattle.diagram_terms.specs.Family.{Dia, Arr, reg, sing}
use Rattle.diagram_terms.specs.Decoded.{dia, arr}
use Rattle.diagram_terms.specs.Shape.{IsDiagram, IsArrow, fwd_at, bwd_at}
use Rattle.diagram_terms.specs.Places.{Test, here, under, at_each, first_failure}
use Rattle.diagram_terms.specs.Loose.{is_plain, plain_legs, plain_tests}
use Rattle.diagram_terms.proofs.Dimensions.{arrow_dimension, diagram_tree, arrow_tree}
use Rattle.diagram_terms.proofs.Glue.{dia-sings_len}
use Rattle.diagram_terms.proofs.LooseTests.{is_plain_decides, diagram_lengths, no_loose_leg, no_first_loose_leg}
use Rattle.diagram_terms.proofs.Visiting.{here_passes, here_fails}
use Rattle.diagram_terms.specs.OnTrees.{on_diagram, on_arrow}
use Rattle.diagram_terms.proofs.NotionsOnTrees.{above, on_diagram_at, on_reg, on_sing, on_fwd, on_bwd}
use Rattle.hashcons.specs.Contents.{Contents, IsArrowOf, diagram_at, arrow_at}
use Rattle.diagram_terms.specs.Order.{steps, in_order}
use Rattle.diagram_terms.proofs.NextSteps.{by_steps}
use Rattle.zigzag_maps.proofs.Visiting.{same_each}
use Rattle.plain_maps.specs.Plainness.{IsPlainTree, IsPlainDiagramTree, loose_leg, plain_tests_in, leg_test, legs_at, IsArrowAt}
use Rattle.zigzag_maps.specs.Walks.{IsWalk, tests_to_part}
use Rattle.zigzag_maps.specs.DiagramTests.{IsDiagramAt}
use Rattle.zigzag_maps.proofs.TestsOfArrows.{ends_place}

-- the tests decide whether a diagram is plain
pub plain_diagram : (d : ℕ) (t : Tree) → IsDiagram d t → (first_failure (plain_tests_in t) ≡ None) ↔ IsPlainDiagramTree t
unfolding on_diagram
plain_diagram d t h = no_loose_leg (dimension_of t) (dia (dimension_of t) t) (diagram_lengths (dimension_of t) t (diagram_tree d t h))

pub no_leg_is_loose : (d : ℕ) (t : Tree) → IsDiagram d t → (loose_leg t ≡ None) ↔ IsPlainDiagramTree t
unfolding on_diagram
no_leg_is_loose d t h = no_first_loose_leg (dimension_of t) (dia (dimension_of t) t) (diagram_lengths (dimension_of t) t (diagram_tree d t h))

pub loose_leg_is : (t : Tree) → option_map (λ p. p.steps) (first_failure (plain_tests_in t)) ≡ loose_leg t
unfolding on_diagram
loose_leg_is t = refl

-- ---- a leg

pub leg_is_plain : (f : Tree) → IsPlainTree f → None ≡ first_failure (leg_test f)
unfolding on_arrow IsPlainTree
leg_is_plain f p =
    let d = dimension_of f in sym (here_passes at_end.Ends (is_plain d (arr d f)) ((is_plain_decides d (arr d f)).1 p))

pub leg_is_loose : (f : Tree) → ¬ (IsPlainTree f) → Some ends_place ≡ first_failure (leg_test f)
unfolding on_arrow IsPlainTree
leg_is_loose f n =
    let d = dimension_of f in
    let plain : Bool = is_plain d (arr d f) in
    elim (cases_Bool plain) [
      | inl holds ↦ absurd (n ((is_plain_decides d (arr d f)).0 holds))
      | inr fails ↦ sym (here_fails at_end.Ends plain fails)
    ]

-- ---- a diagram, part by part

-- a diagram of dimension 0 has no legs
pub none_in_zero : (t : Tree) → IsDiagram zero t → None ≡ first_failure (plain_tests_in t)
none_in_zero t h = ap first_failure (sym (on_diagram_at plain_tests zero t h))

-- above, the tests are those of the parts, in the order of the steps
pub parts_in_order : (n : ℕ) → 0 < n → (t : Tree) → IsDiagram n t → in_order (steps (length (sings t))) (tests_to_part plain_tests_in legs_at t) ≡ plain_tests_in t
parts_in_order = above _ (λ d t h.
    let x = dia-sings_len d t in
    let X : Dia (suc d) = dia (suc d) t in
    let n = length (sings t) in
    let leg : (m : ℕ) → Arr m → List Test = λ m f. here at_end.Ends (is_plain m f) in
    let p : at_each (suc (length X.sings)) (λ j. under (step.R j) (plain_tests d (reg d X j))) ≡ at_each (suc n) (λ j. tests_to_part plain_tests_in legs_at t (step.R j)) =
    ap (λ m. at_each (suc m) (λ j. under (step.R j) (plain_tests d (reg d X j)))) x
    ∙ same_each _ _ (suc n) (λ j l. ap (under (step.R j)) (on_reg plain_tests d t j h (omega arith))) in
    let q : at_each (length X.sings) (λ i. under (step.S i) (plain_tests d (sing d X i))) ≡ at_each n (λ i. tests_to_part plain_tests_in legs_at t (step.S i)) =
    ap (λ m. at_each m (λ i. under (step.S i) (plain_tests d (sing d X i)))) x
    ∙ same_each _ _ n (λ i l. ap (under (step.S i)) (on_sing plain_tests d t i h l)) in
    let r : at_each (length X.sings) (plain_legs d X) ≡ at_each n (λ k. tests_to_part plain_tests_in legs_at t (step.F k) ++ tests_to_part plain_tests_in legs_at t (step.B k)) =
    ap (λ m. at_each m (plain_legs d X)) x
    ∙ same_each _ _ n (λ k l. (let u = on_fwd leg d t k h l in let v = on_bwd leg d t k h l in λ i. under (step.F k) (u i) ++ under (step.B k) (v i))) in
    sym (by_steps (tests_to_part plain_tests_in legs_at t) n) ∙ sym (λ i. p i ++ q i ++ r i) ∙ sym (on_diagram_at plain_tests (suc d) t h))

pub legs_walk : IsWalk plain_tests_in legs_at
legs_walk = record { none_in_zero = none_in_zero; parts = parts_in_order }

-- ---- the legs of a diagram of a store

module _ (c : Contents) (a : ℕ) (leg : IsArrowOf c a) where
  leg_at : (n : ℕ) (f : Tree) → IsArrow n f → arrow_at c a ≡ f → IsArrowAt c n a
  leg_at n f h e = record {
    of_store = leg;
    shape = subst IsArrowTree (sym e) (arrow_tree n f h);
    dim = ap dimension_of e ∙ arrow_dimension n f h;
  }

  pub fwd_arrow : (n : ℕ) → 0 < n → (d k : ℕ) → IsDiagramAt c n d → k < length (sings (diagram_at c d)) → arrow_at c a ≡ fwd_at (diagram_at c d) k → IsArrowAt c (n - 1) a
  fwd_arrow = above _ (λ n d k h l e. let m : n ≡ suc n - 1 = omega arith in subst (λ i. IsArrowAt c i a) m (leg_at n (fwd_at (diagram_at c d) k) (h.shape.fwds_are k l) e))

  pub bwd_arrow : (n : ℕ) → 0 < n → (d k : ℕ) → IsDiagramAt c n d → k < length (sings (diagram_at c d)) → arrow_at c a ≡ bwd_at (diagram_at c d) k → IsArrowAt c (n - 1) a
  bwd_arrow = above _ (λ n d k h l e. let m : n ≡ suc n - 1 = omega arith in subst (λ i. IsArrowAt c i a) m (leg_at n (bwd_at (diagram_at c d) k) (h.shape.bwds_are k l) e))
