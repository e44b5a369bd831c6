-- The edges of the squares of an arrow, as a program holds them.
use Rattle.std.specs.Prelude.{◌≡◌, ℕ, ◌<◌, ◌≤◌, length, get_or, map, List, suc}
use Rattle.diagram_terms.specs.declared.tree.Arrow.{Arrow}
use Rattle.diagram_terms.specs.Dual.{IsMonotone, tab}
use Rattle.diagram_terms.specs.Family.{Dia, Arr}
use Rattle.diagram_terms.specs.Decoded.{arr_tree}
use Rattle.diagram_terms.specs.Composable.{LengthsMeet}
use Rattle.diagram_terms.specs.Valid.{left_edge, right_edge, enter_edge, leave_edge}
use Rattle.diagram_terms.specs.Tree.{nil}
use Rattle.diagram_terms.specs.Values.{trees_of_arrows}

-- the arrows held are the edges 0 to n - 1
abbrev pub AreEdges : (d : ℕ) → (ℕ → Arr d) → ℕ → List Arrow → Type 0
AreEdges d edge n held = trees_of_arrows held ≡ map (arr_tree d) (tab edge n)

-- the arrows g k and f k that a program holds can be composed, for each k below the length of the first list
pub record HoldsPairs (d : ℕ) (g f : ℕ → Arr d) (second first : List Arrow) : Type 0 where
  pub inside : length second ≤ length first
  pub second_is : (k : ℕ) → k < length second → get_or (trees_of_arrows second) k nil ≡ arr_tree d (g k)
  pub first_is : (k : ℕ) → k < length second → get_or (trees_of_arrows first) k nil ≡ arr_tree d (f k)
  pub composable : (k : ℕ) → k < length second → LengthsMeet d (g k) (f k)

-- the heights of f : X → Y and all its edges
pub record HoldsEdges (d : ℕ) (X Y : Dia (suc d)) (f : Arr (suc d)) (heights : List ℕ) (lefts rights enters leaves : List Arrow) : Type 0 where
  pub heights_are : heights ≡ f.heights
  pub heights_len : length f.heights ≡ length X.sings
  pub monotone : IsMonotone f.heights
  pub lefts_are : AreEdges d (left_edge d Y f) (length Y.sings) lefts
  pub rights_are : AreEdges d (right_edge d Y f) (length Y.sings) rights
  pub enters_are : AreEdges d (enter_edge d X f) (length X.sings) enters
  pub leaves_are : AreEdges d (leave_edge d X f) (length X.sings) leaves
