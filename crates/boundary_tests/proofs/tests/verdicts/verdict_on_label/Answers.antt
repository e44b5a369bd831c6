use Rattle.typecheck.proofs.GoodSignatures.{good-kept}
use Rattle.boundary_tests.proofs.tests.verdicts.verdict_on_label.Goals as goal

pub check-requires-clause-good : goal.check-requires-clause-good
check-requires-clause-good c = good-kept _ _ c.args.signature.now.entries c.put_label.ensures.grows c.requires
