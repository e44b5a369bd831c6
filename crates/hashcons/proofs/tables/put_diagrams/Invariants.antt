use Rattle.std.proofs.Common.{◌≡◌, take}
use Rattle.hashcons.proofs.tables.put_diagrams.Given as goal

abbrev pub invariant-loop-d : goal.invariant-loop-d
invariant-loop-d l = l.numbers.items ≡ take l.d-index l.diagrams
