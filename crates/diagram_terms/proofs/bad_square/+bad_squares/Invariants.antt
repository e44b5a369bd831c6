use Rattle.std.proofs.Common.{ℕ, List}
use Rattle.diagram_terms.specs.Family.{Dia}
use Rattle.diagram_terms.specs.Levels.{HoldsSlices}
use Rattle.diagram_terms.proofs.DiagramLevels.{reg_slice_test, sing_slice_test}
use Rattle.diagram_terms.proofs.Visiting.{PassBefore}
use Rattle.diagram_terms.proofs.bad_square.+bad_squares.Given as goal

abbrev pub invariant-first_bad_reg_slice-loop-j : goal.invariant-first_bad_reg_slice-loop-j
invariant-first_bad_reg_slice-loop-j l = (d : ℕ) (slices : List (Dia d)) → (r : HoldsSlices d slices l.slices) → PassBefore (reg_slice_test d slices l.slices r) l.j

abbrev pub invariant-first_bad_sing_slice-loop-i : goal.invariant-first_bad_sing_slice-loop-i
invariant-first_bad_sing_slice-loop-i l = (d : ℕ) (slices : List (Dia d)) → (r : HoldsSlices d slices l.slices) → PassBefore (sing_slice_test d slices l.slices r) l.i
