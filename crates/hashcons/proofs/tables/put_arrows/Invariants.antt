use Rattle.std.proofs.Common.{◌≡◌, take}
use Rattle.hashcons.proofs.tables.put_arrows.Given as goal

abbrev pub invariant-loop-a : goal.invariant-loop-a
invariant-loop-a l = l.numbers.items ≡ take l.a-index l.arrows
