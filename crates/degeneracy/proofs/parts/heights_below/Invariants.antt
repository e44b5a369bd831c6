use Rattle.std.proofs.Common.{◌≡◌}
use Rattle.diagram_terms.specs.Dual.{upto}
use Rattle.degeneracy.proofs.parts.heights_below.Given as goal

abbrev pub invariant-loop-i : goal.invariant-loop-i
invariant-loop-i l = l.heights.items ≡ upto l.i
