use Rattle.boundary_tests.proofs.tests.boundaries.make_compared.Goals as goal

pub returns-clause-point : goal.returns-clause-point
returns-clause-point c = c.identity_diagram.ensures.made.grows.diagrams _ c.in_ok-point.ensures.point

pub returns-clause-whole : goal.returns-clause-whole
returns-clause-whole c = c.identity_diagram.ensures.made.grows.diagrams _ c.in_ok-point.ensures.whole
