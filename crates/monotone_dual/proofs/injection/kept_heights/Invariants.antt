use Rattle.monotone_dual.proofs.Skips.{IsKept}
use Rattle.monotone_dual.proofs.injection.kept_heights.Given as goal

abbrev pub invariant-loop-height : goal.invariant-loop-height
invariant-loop-height l = IsKept l.dropped l.height l.next l.kept
