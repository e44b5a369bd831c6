-- A walk over the parts of a diagram: the tests of a diagram are those of its parts, in the order of visiting.
use Rattle.std.specs.Prelude.{◌≡◌, ℕ, zero, ◌<◌, List, [], length, None}
use Rattle.diagram_terms.specs.declared.place.Step.{Step}
use Rattle.diagram_terms.specs.declared.place.Step.TheVariants as step
use Rattle.diagram_terms.specs.Tree.{Tree, sings}
use Rattle.diagram_terms.specs.Shape.{IsDiagram, reg_at, sing_at}
use Rattle.diagram_terms.specs.Places.{Test, under, first_failure}
use Rattle.diagram_terms.specs.Order.{steps, in_order}

-- the tests in the part of t to which the step leads, where those of its legs are given
abbrev pub tests_in_part : (Tree → List Test) → (Tree → Step → List Test) → Tree → Step → List Test
tests_in_part tests legs t step.SourceEnd = []
tests_in_part tests legs t step.TargetEnd = []
tests_in_part tests legs t (step.R j) = tests (reg_at t j)
tests_in_part tests legs t (step.S i) = tests (sing_at t i)
tests_in_part tests legs t (step.F k) = legs t (step.F k)
tests_in_part tests legs t (step.B k) = legs t (step.B k)

-- seen from t
abbrev pub tests_to_part : (Tree → List Test) → (Tree → Step → List Test) → Tree → Step → List Test
tests_to_part tests legs t s = under s (tests_in_part tests legs t s)

pub record IsWalk (tests : Tree → List Test) (legs : Tree → Step → List Test) : Type 0 where
  pub none_in_zero : (t : Tree) → IsDiagram zero t → None ≡ first_failure (tests t)
  pub parts : (n : ℕ) → 0 < n → (t : Tree) → IsDiagram n t → in_order (steps (length (sings t))) (tests_to_part tests legs t) ≡ tests t

-- no test of t fails
abbrev pub PassesTests : (Tree → List Test) → Tree → Type 0
PassesTests tests t = None ≡ first_failure (tests t)

-- the step leads to a leg
abbrev pub LeadsToLeg : ℕ → Step → Type 0
LeadsToLeg n step.SourceEnd = ⊥
LeadsToLeg n step.TargetEnd = ⊥
LeadsToLeg n (step.R j) = ⊥
LeadsToLeg n (step.S i) = ⊥
LeadsToLeg n (step.F k) = k < n
LeadsToLeg n (step.B k) = k < n
