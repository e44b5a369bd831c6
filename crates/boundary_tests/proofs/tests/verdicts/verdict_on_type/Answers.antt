use Rattle.boundary_tests.proofs.tests.verdicts.verdict_on_type.Goals as goal

pub check-requires-clause-of_store : goal.check-requires-clause-of_store
check-requires-clause-of_store c = c.is_refused-refused.ensures.grows.diagrams _ c.in_ok-point.ensures.whole
