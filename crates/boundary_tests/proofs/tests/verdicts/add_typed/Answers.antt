use Rattle.hashcons.proofs.Growth.{Grows-trans}
use Rattle.typecheck.proofs.GoodSignatures.{good-kept}
use Rattle.boundary_tests.proofs.tests.verdicts.add_typed.Goals as goal

pub returns-in_err-generator_type-clause-good : goal.returns-in_err-generator_type-clause-good
returns-in_err-generator_type-clause-good c = good-kept _ _ c.add.new.self.entries c.generator_type.ensures.grows c.add.ensures.good

pub returns-in_err-generator_type-clause-grows : goal.returns-in_err-generator_type-clause-grows
returns-in_err-generator_type-clause-grows c = Grows-trans _ _ _ c.add.ensures.grows c.generator_type.ensures.grows

pub returns-clause-good : goal.returns-clause-good
returns-clause-good c = good-kept _ _ c.add.new.self.entries c.generator_type.ensures.grows c.add.ensures.good

pub returns-clause-grows : goal.returns-clause-grows
returns-clause-grows c = Grows-trans _ _ _ c.add.ensures.grows c.generator_type.ensures.grows
