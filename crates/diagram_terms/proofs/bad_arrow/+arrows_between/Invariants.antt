use Rattle.std.proofs.Common.{◌≤◌, ℕ, suc}
use Rattle.diagram_terms.specs.Dual.{dual}
use Rattle.diagram_terms.specs.Family.{Arr, Dia}
use Rattle.diagram_terms.specs.Levels.{RegsBetween, SingsBetween}
use Rattle.diagram_terms.proofs.ArrowLevels.{reg_test, sing_test}
use Rattle.diagram_terms.proofs.Visiting.{PassBefore}
use Rattle.diagram_terms.proofs.bad_arrow.+arrows_between.Given as goal

abbrev pub invariant-first_bad_reg-loop-k : goal.invariant-first_bad_reg-loop-k
invariant-first_bad_reg-loop-k l = (l.at ≤ dual l.heights l.k)
    × ((d : ℕ) (f : Arr (suc d)) (X Y : Dia (suc d)) → (r : RegsBetween d f X Y l.heights l.regs l.from l.to)
    → PassBefore (reg_test d f X Y l.heights l.regs l.from l.to r) l.k)

abbrev pub invariant-first_bad_sing-loop-i : goal.invariant-first_bad_sing-loop-i
invariant-first_bad_sing-loop-i l = (d : ℕ) (f : Arr (suc d)) (X Y : Dia (suc d)) → (r : SingsBetween d f X Y l.heights l.sings l.from l.to)
    → PassBefore (sing_test d f X Y l.heights l.sings l.from l.to r) l.i
