use Rattle.std.proofs.Common.{◌≡◌, ◌+◌, ◌*◌}
use Rattle.hashcons.specs.Contents.{diagram_at}
use Rattle.typecheck.specs.Points.{HavePassed}
use Rattle.typecheck.specs.Points.{OfAll}
use Rattle.typecheck.specs.Walk.{failing_in}
use Rattle.typecheck.proofs.PointVisits.{failing_later}
use Rattle.typecheck.proofs.points.+points.Given as goal

abbrev pub decreases-failing_point : goal.decreases-failing_point
decreases-failing_point l = 3 * l.dim + 2

abbrev pub decreases-failing_by_height : goal.decreases-failing_by_height
decreases-failing_by_height l = 3 * l.dim + 1

abbrev pub decreases-failing_over_reg : goal.decreases-failing_over_reg
decreases-failing_over_reg l = 3 * l.dim

abbrev pub decreases-failing_over_sing : goal.decreases-failing_over_sing
decreases-failing_over_sing l = 3 * l.dim

abbrev pub invariant-failing_by_height-loop-i : goal.invariant-failing_by_height-loop-i
invariant-failing_by_height-loop-i l = record {
  passed : HavePassed l.store l.test.dims.now l.test.outer l.passed;
  rest : OfAll l.test.dims.now (λ generators. failing_later generators l.test.outer (diagram_at l.store l.d) l.i ≡ failing_in generators l.test.outer (diagram_at l.store l.d));
}
