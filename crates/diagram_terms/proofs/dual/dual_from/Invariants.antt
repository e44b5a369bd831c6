use Rattle.std.proofs.Common.{◌≤◌}
use Rattle.diagram_terms.specs.Dual.{IsMonotone, dual}
use Rattle.diagram_terms.proofs.dual.dual_from.Given as goal

-- the heights before i are below k
abbrev pub invariant-loop-i : goal.invariant-loop-i
invariant-loop-i l = IsMonotone l.heights → l.from ≤ dual l.heights l.k → l.i ≤ dual l.heights l.k
