-- Plain arrows and plain diagrams, on the trees that a store holds.
use Rattle.std.specs.Prelude.{◌≡◌, ℕ, suc, ◌<◌, List, [], length, Option}
use Rattle.diagram_terms.specs.declared.place.Step.{Step}
use Rattle.diagram_terms.specs.declared.place.Step.TheVariants as step
use Rattle.diagram_terms.specs.declared.place.End.TheVariants as at_end
use Rattle.diagram_terms.specs.Tree.{Tree, heights, regs, sings}
use Rattle.diagram_terms.specs.Dimension.{dimension_of, IsArrowTree}
use Rattle.diagram_terms.specs.Shape.{reg_at, sing_at, fwd_at, bwd_at}
use Rattle.diagram_terms.specs.Decoded.{arr}
use Rattle.diagram_terms.specs.Dual.{upto}
use Rattle.diagram_terms.specs.Identity.{IsIdentity}
use Rattle.diagram_terms.specs.Plain.{PlainArrow, Plain}
use Rattle.diagram_terms.specs.Places.{Test, here}
use Rattle.diagram_terms.specs.Loose.{is_plain, plain_tests, first_loose_leg}
use Rattle.diagram_terms.specs.OnTrees.{on_diagram, on_arrow}
use Rattle.hashcons.specs.Contents.{Contents, IsArrowOf, arrow_at}

-- an arrow's tree is plain
unfoldable pub IsPlainTree : Tree → Type 0
IsPlainTree t = PlainArrow (dimension_of t) (arr (dimension_of t) t)

-- a diagram's tree is plain
abbrev pub IsPlainDiagramTree : Tree → Type 0
IsPlainDiagramTree t = on_diagram Plain t

-- the steps to the first leg that is not plain, in a diagram's tree
abbrev pub loose_leg : Tree → Option (List Step)
loose_leg t = on_diagram first_loose_leg t

-- ---- arrows, part by part

-- an arrow's tree has the shape of an identity
unfoldable pub IsIdentityTree : Tree → Type 0
IsIdentityTree t = IsIdentity (dimension_of t) (arr (dimension_of t) t)

-- the heights of an arrow are those of an identity, and it has one regular slice more
pub record HasIdentityHeights (t : Tree) : Type 0 where
  pub are : heights t ≡ upto (length (heights t))
  pub regs_len : length (regs t) ≡ suc (length (heights t))

-- its regular slices are identities
abbrev pub HasIdentityRegs : Tree → Type 0
HasIdentityRegs t = (j : ℕ) → j < length (regs t) → IsIdentityTree (reg_at t j)

-- its singular slices are identities
abbrev pub HasIdentitySings : Tree → Type 0
HasIdentitySings t = (i : ℕ) → i < length (sings t) → IsIdentityTree (sing_at t i)

-- its singular slices are plain
abbrev pub HasPlainSings : Tree → Type 0
HasPlainSings t = (i : ℕ) → i < length (sings t) → IsPlainTree (sing_at t i)

-- a is an arrow of dimension n
pub record IsArrowAt (c : Contents) (n a : ℕ) : Type 0 where
  pub of_store : IsArrowOf c a
  pub shape : IsArrowTree (arrow_at c a)
  pub dim : dimension_of (arrow_at c a) ≡ n

-- ---- the tests of legs, part by part

-- the tests of all legs of a diagram
abbrev pub plain_tests_in : Tree → List Test
plain_tests_in t = on_diagram plain_tests t

-- the test of a leg
abbrev pub leg_test : Tree → List Test
leg_test f = on_arrow (λ d x. here at_end.Ends (is_plain d x)) f

-- the test of the leg of t to which the step leads
abbrev pub legs_at : Tree → Step → List Test
legs_at t step.SourceEnd = []
legs_at t step.TargetEnd = []
legs_at t (step.R j) = []
legs_at t (step.S i) = []
legs_at t (step.F k) = leg_test (fwd_at t k)
legs_at t (step.B k) = leg_test (bwd_at t k)
