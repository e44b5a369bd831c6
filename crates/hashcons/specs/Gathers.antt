-- Ids that a loop has gathered.
use Rattle.std.specs.Prelude.{◌≡◌, ℕ, ◌<◌, List, length, get_or}
use Rattle.diagram_terms.specs.Tree.{Tree, nil}

-- Of the trees of a store (its diagrams, or its arrows), these are n ids, and the j-th has the tree f j.
pub record Gathers (trees : List Tree) (ids : List ℕ) (n : ℕ) (f : ℕ → Tree) : Type 0 where
  pub len : length ids ≡ n
  pub of_store : (j : ℕ) → j < n → get_or ids j 0 < length trees
  pub are : (j : ℕ) → j < n → get_or trees (get_or ids j 0) nil ≡ f j
