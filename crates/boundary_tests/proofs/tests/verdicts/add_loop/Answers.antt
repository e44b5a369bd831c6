use Rattle.typecheck.proofs.GoodSignatures.{good_none}
use Rattle.boundary_tests.proofs.tests.verdicts.add_loop.Goals as goal

pub add_typed-requires-clause-good : goal.add_typed-requires-clause-good
add_typed-requires-clause-good c = good_none _ _ c.requires.none

pub returns-clause-point : goal.returns-clause-point
returns-clause-point c = c.add_typed-2.ensures.grows.diagrams c.in_ok-point.point c.in_ok-point.ensures.of_store
