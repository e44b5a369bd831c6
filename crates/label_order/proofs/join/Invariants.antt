use Rattle.std.proofs.Common.{◌+◌, take}
use Rattle.label_order.proofs.Scan.{IsScanned}
use Rattle.label_order.proofs.join.Given as goal

-- of the labels that were passed, the leading one and the first that clashes with it
abbrev pub invariant-loop-x : goal.invariant-loop-x
invariant-loop-x l = IsScanned (take (l.x-index + 1) l.labels) l.one l.clashing
