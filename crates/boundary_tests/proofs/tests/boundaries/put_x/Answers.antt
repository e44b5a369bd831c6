use Rattle.std.proofs.Common.{arith}
use Rattle.boundary_tests.proofs.Points.{valid_plain_label, label_below, parallel_label}
use Rattle.boundary_tests.proofs.tests.boundaries.put_x.Goals as goal

pub returns-clause-valid : goal.returns-clause-valid
returns-clause-valid c = valid_plain_label c.put_label.new.store c.in_ok-d.d _ c.in_ok-d.ensures.tree c.in_ok-d.ensures.of_store

pub returns-clause-labels : goal.returns-clause-labels
returns-clause-labels c = label_below c.put_label.new.store c.in_ok-d.d _ c.in_ok-d.ensures.tree 1 (omega arith)

pub returns-clause-parallel : goal.returns-clause-parallel
returns-clause-parallel c = parallel_label c.put_label.new.store c.in_ok-d.d _ c.in_ok-d.ensures.tree
