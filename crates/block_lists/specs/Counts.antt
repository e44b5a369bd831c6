-- Counts of lists and of their blocks.
use Rattle.std.specs.Prelude.{◌≡◌, ℕ, List, length}
use Rattle.block_lists.specs.declared.lists.Counts.{Counts}
use Rattle.block_lists.specs.Blocks.{distinct_blocks}

-- the counts of these lists
pub record AreCounts (ls : List (List ℕ)) (counts : Counts) : Type 0 where
  pub lists : counts.lists ≡ length ls
  pub blocks : counts.blocks ≡ length (distinct_blocks ls)
