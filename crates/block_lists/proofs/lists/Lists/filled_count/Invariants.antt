use Rattle.std.proofs.Common.{◌≡◌, ◌≤◌, length, take}
use Rattle.block_lists.specs.Blocks.{items_of, nonempty}
use Rattle.block_lists.proofs.lists.Lists.filled_count.Given as goal

abbrev pub invariant-loop-at : goal.invariant-loop-at
invariant-loop-at l = (l.count ≡ length (nonempty (items_of (take l.at l.lists)))) × (l.count ≤ l.at)
