use Rattle.boundary_tests.proofs.tests.verdicts.is_refused.Goals as goal

pub returns-clause-good : goal.returns-clause-good
returns-clause-good c = c.add.ensures.good

pub returns-clause-grows : goal.returns-clause-grows
returns-clause-grows c = c.add.ensures.grows
