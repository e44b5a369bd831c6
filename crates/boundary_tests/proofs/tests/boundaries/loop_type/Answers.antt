use Rattle.boundary_tests.proofs.tests.boundaries.loop_type.Goals as goal

pub returns-clause-point : goal.returns-clause-point
returns-clause-point c = c.type_over.ensures.made.grows.diagrams c.in_ok-x.x c.in_ok-x.ensures.valid.valid.of_store
