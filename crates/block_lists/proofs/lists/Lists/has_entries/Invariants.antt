use Rattle.std.proofs.Common.{◌≡◌, [], take, get_or}
use Rattle.block_lists.proofs.lists.Lists.has_entries.Given as goal

abbrev pub invariant-loop-at : goal.invariant-loop-at
invariant-loop-at l = take l.at (get_or l.self l.list []) ≡ take l.at l.items
