-- The law of the order of first completion.
use Rattle.std.specs.Prelude.{◌≡◌, ℕ, ◌<◌, List, length, get_or}
use Rattle.std.specs.List.{flat_map}
use Rattle.diagram_terms.specs.Tree.{Tree, nil}
use Rattle.diagram_terms.specs.Completion.{completions, distinct_subtrees, IsAmongFirst}

-- The list has each tree that is completed under the roots, and no other, and has it once.
pub record ListsEachOnce (roots : List Tree) : Type 0 where
  pub all : (k : ℕ) → k < length (flat_map completions roots)
      → IsAmongFirst (length (distinct_subtrees roots)) (distinct_subtrees roots) (get_or (flat_map completions roots) k nil)
  pub only : (i : ℕ) → i < length (distinct_subtrees roots)
      → IsAmongFirst (length (flat_map completions roots)) (flat_map completions roots) (get_or (distinct_subtrees roots) i nil)
  pub once : (i j : ℕ) → i < length (distinct_subtrees roots) → j < length (distinct_subtrees roots)
      → get_or (distinct_subtrees roots) i nil ≡ get_or (distinct_subtrees roots) j nil → i ≡ j
