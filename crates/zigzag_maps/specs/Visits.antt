-- The first fault of a map and of a diagram of a store.
use Rattle.std.specs.Prelude.{◌≡◌, ℕ, suc, ◌-◌, ◌<◌, List, length, get_or, Bool, ◌&&◌, nat_eq, Option, Some, None}
use Rattle.diagram_terms.specs.declared.place.Place.{Place}
use Rattle.diagram_terms.specs.declared.place.Step.TheVariants as step
use Rattle.diagram_terms.specs.declared.place.End.TheVariants as at_end
use Rattle.diagram_terms.specs.FaultsOnTrees.{tests_between}
use Rattle.diagram_terms.specs.Tree.{Tree, heights, regs, sings}
use Rattle.diagram_terms.specs.Dimension.{dimension_of}
use Rattle.diagram_terms.specs.Shape.{IsArrow, reg_at, sing_at, fwd_at, bwd_at}
use Rattle.diagram_terms.specs.Dual.{dual}
use Rattle.diagram_terms.specs.Decoded.{dia, arr}
use Rattle.diagram_terms.specs.Places.{Test, here, under, square_commutes}
use Rattle.hashcons.specs.Contents.{Contents, IsDiagramOf, IsArrowOf, diagram_at, arrow_at}
use Rattle.zigzag_maps.specs.declared.map.Map.{Map}
use Rattle.zigzag_maps.specs.declared.outcome.SquareTest.{SquareTest}
use Rattle.zigzag_maps.specs.declared.outcome.SquareTest.TheVariants as test
use Rattle.diagram_terms.specs.Operations.{composite_tree}
use Rattle.diagram_terms.specs.ValidTrees.{IsValidTreeAt, IsArrowBetweenAt}

-- the fault that a test found, if it found one
abbrev pub fault_of : SquareTest → Option Place
fault_of test.Valid = None
fault_of (test.Fault p) = Some p

-- ---- an arrow and its ends, all of one dimension

-- the tests of its regular slices, of its singular slices and of its squares
abbrev pub reg_tests : Tree → Tree → Tree → ℕ → List Test
reg_tests s t f j = under (step.R j) (tests_between (reg_at s (dual (heights f) j)) (reg_at t j) (reg_at f j))

abbrev pub sing_tests : Tree → Tree → Tree → ℕ → List Test
sing_tests s t f i = under (step.S i) (tests_between (sing_at s i) (sing_at t (get_or (heights f) i 0)) (sing_at f i))

-- whether its square over the height k of t commutes
unfoldable pub square_holds : Tree → Tree → Tree → ℕ → Bool
square_holds s t f k =
    let d = dimension_of f - 1 in
    square_commutes d (dia (suc d) s) (dia (suc d) t) (arr (suc d) f) k

abbrev pub square_tests : Tree → Tree → Tree → ℕ → List Test
square_tests s t f k = here (at_end.Square k) (square_holds s t f k)

-- its lengths are those of its ends
abbrev pub lengths_are : Tree → Tree → Tree → Bool
lengths_are s t f = nat_eq (length (heights f)) (length (sings s)) && nat_eq (length (regs f)) (suc (length (sings t)))

-- ---- in a store

-- m is an arrow of dimension d between valid diagrams of dimension d, which may be valid or not
pub record IsMapAt (c : Contents) (d : ℕ) (m : Map) : Type 0 where
  pub source : IsDiagramOf c m.source
  pub target : IsDiagramOf c m.target
  pub arrow : IsArrowOf c m.arrow
  pub source_valid : IsValidTreeAt d (diagram_at c m.source)
  pub target_valid : IsValidTreeAt d (diagram_at c m.target)
  pub arrow_shape : IsArrow d (arrow_at c m.arrow)

-- the lengths of an arrow f from s to t are those of its ends
pub record FitsEnds (s t f : Tree) : Type 0 where
  pub heights_len : length (heights f) ≡ length (sings s)
  pub regs_len : length (regs f) ≡ suc (length (sings t))

-- and its slices are valid, of dimension d
pub record HasValidSlices (d : ℕ) (s t f : Tree) : Type 0 where
  pub fits : FitsEnds s t f
  pub regs : (j : ℕ) → j < length (regs f) → IsArrowBetweenAt d (reg_at s (dual (heights f) j)) (reg_at t j) (reg_at f j)
  pub sings : (i : ℕ) → i < length (heights f) → IsArrowBetweenAt d (sing_at s i) (sing_at t (get_or (heights f) i 0)) (sing_at f i)

-- m is an arrow of dimension d, above 0, between valid diagrams, and its slices are valid
pub record IsValidSlicewise (c : Contents) (d : ℕ) (m : Map) : Type 0 where
  pub map : IsMapAt c d m
  pub above : 0 < d
  pub slices : HasValidSlices (d - 1) (diagram_at c m.source) (diagram_at c m.target) (arrow_at c m.arrow)

-- ---- the edges of the square of an arrow f from s to t over the height k of t: arrows to the singular slice of t there

-- along t, from the regular slices before and behind k
abbrev pub left_edge : Tree → Tree → ℕ → Tree
left_edge t f k = composite_tree (fwd_at t k) (reg_at f k)

abbrev pub right_edge : Tree → Tree → ℕ → Tree
right_edge t f k = composite_tree (bwd_at t k) (reg_at f (suc k))

-- through the height i of s, which goes to k, from the regular slices before and behind i
abbrev pub enter_edge : Tree → Tree → ℕ → Tree
enter_edge s f i = composite_tree (sing_at f i) (fwd_at s i)

abbrev pub leave_edge : Tree → Tree → ℕ → Tree
leave_edge s f i = composite_tree (sing_at f i) (bwd_at s i)
