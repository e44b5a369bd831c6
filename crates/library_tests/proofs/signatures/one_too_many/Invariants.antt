use Rattle.typecheck.specs.Signatures.{IsGoodOver}
use Rattle.library_tests.proofs.signatures.one_too_many.Given as goal

abbrev pub invariant-loop-n : goal.invariant-loop-n
invariant-loop-n l = IsGoodOver l.store l.signature
