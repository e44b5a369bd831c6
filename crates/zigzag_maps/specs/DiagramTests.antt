-- The tests of a diagram of a store, part by part.
use Rattle.std.specs.Prelude.{ℕ, suc, ◌<◌, ◌≤◌, List, [], ◌++◌, length}
use Rattle.diagram_terms.specs.declared.place.Step.{Step}
use Rattle.diagram_terms.specs.declared.place.Step.TheVariants as step
use Rattle.diagram_terms.specs.FaultsOnTrees.{tests_between}
use Rattle.diagram_terms.specs.Tree.{Tree, sings}
use Rattle.diagram_terms.specs.Dimension.{dimension_of}
use Rattle.diagram_terms.specs.Shape.{IsDiagram, reg_at, sing_at, fwd_at, bwd_at}
use Rattle.diagram_terms.specs.Decoded.{dia}
use Rattle.diagram_terms.specs.Places.{Test, under, tests_of}
use Rattle.hashcons.specs.Contents.{Contents, IsDiagramOf, diagram_at}
use Rattle.diagram_terms.specs.ValidTrees.{IsValidTreeAt}

-- the tests of a diagram
unfoldable pub tests_in : Tree → List Test
tests_in t = tests_of (dimension_of t) (dia (dimension_of t) t)

-- those of its regular slices, of its singular slices and of its legs
abbrev pub reg_slice_tests : Tree → ℕ → List Test
reg_slice_tests t j = under (step.R j) (tests_in (reg_at t j))

abbrev pub sing_slice_tests : Tree → ℕ → List Test
sing_slice_tests t i = under (step.S i) (tests_in (sing_at t i))

abbrev pub fwd_tests : Tree → ℕ → List Test
fwd_tests t k = under (step.F k) (tests_between (reg_at t k) (sing_at t k) (fwd_at t k))

abbrev pub bwd_tests : Tree → ℕ → List Test
bwd_tests t k = under (step.B k) (tests_between (reg_at t (suc k)) (sing_at t k) (bwd_at t k))

abbrev pub leg_tests : Tree → ℕ → List Test
leg_tests t k = fwd_tests t k ++ bwd_tests t k

-- d is a diagram of dimension n, which may be valid or not
pub record IsDiagramAt (c : Contents) (n d : ℕ) : Type 0 where
  pub of_store : IsDiagramOf c d
  pub shape : IsDiagram n (diagram_at c d)

-- the slices of t are valid, of dimension n
pub record HasValidParts (n : ℕ) (t : Tree) : Type 0 where
  pub reg_slices : (j : ℕ) → j ≤ length (sings t) → IsValidTreeAt n (reg_at t j)
  pub sing_slices : (i : ℕ) → i < length (sings t) → IsValidTreeAt n (sing_at t i)

-- the tests of the leg of t to which the step leads, seen from there
abbrev pub legs_of : Tree → Step → List Test
legs_of t step.SourceEnd = []
legs_of t step.TargetEnd = []
legs_of t (step.R j) = []
legs_of t (step.S i) = []
legs_of t (step.F k) = tests_between (reg_at t k) (sing_at t k) (fwd_at t k)
legs_of t (step.B k) = tests_between (reg_at t (suc k)) (sing_at t k) (bwd_at t k)
