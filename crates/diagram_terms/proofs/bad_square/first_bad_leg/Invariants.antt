use Rattle.std.proofs.Common.{ℕ, suc}
use Rattle.diagram_terms.specs.Family.{Dia}
use Rattle.diagram_terms.specs.Levels.{HoldsLegs}
use Rattle.diagram_terms.specs.Places.{leg_tests}
use Rattle.diagram_terms.proofs.Visiting.{PassBefore}
use Rattle.diagram_terms.proofs.bad_square.first_bad_leg.Given as goal

abbrev pub invariant-loop-k : goal.invariant-loop-k
invariant-loop-k l = (d : ℕ) (X : Dia (suc d)) → HoldsLegs d X l.regs l.sings l.fwds l.bwds → PassBefore (leg_tests d X) l.k
