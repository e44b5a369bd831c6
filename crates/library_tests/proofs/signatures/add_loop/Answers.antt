use Rattle.typecheck.proofs.GoodSignatures.{good-kept}
use Rattle.library_tests.proofs.signatures.add_loop.Goals as goal

pub add-requires-clause-good : goal.add-requires-clause-good
add-requires-clause-good c = good-kept _ _ c.args.signature.now.entries c.put_label.ensures.grows c.requires
