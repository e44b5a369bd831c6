use Rattle.monotone_dual.proofs.LawProofs.{dual_of_composite}
use Rattle.monotone_dual.proofs.laws.dual_of_composite.Goals as goal

pub returns : goal.returns
returns c = dual_of_composite
