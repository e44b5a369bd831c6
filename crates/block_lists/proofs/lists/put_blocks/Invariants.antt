use Rattle.std.proofs.Common.{length}
use Rattle.block_lists.specs.Blocks.{items_of}
use Rattle.block_lists.proofs.Blocks.{PutsBlocks}
use Rattle.block_lists.proofs.lists.put_blocks.Given as goal

abbrev pub invariant-loop-rest : goal.invariant-loop-rest
invariant-loop-rest l = PutsBlocks (items_of l.fn.blocks.keys) (items_of l.blocks.keys) l.numbers.items l.rest l.items

abbrev pub decreases-loop-rest : goal.decreases-loop-rest
decreases-loop-rest l = length l.rest
