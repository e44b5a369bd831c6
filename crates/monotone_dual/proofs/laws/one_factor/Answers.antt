use Rattle.monotone_dual.proofs.LawProofs.{one_factor}
use Rattle.monotone_dual.proofs.laws.one_factor.Goals as goal

pub returns : goal.returns
returns c = one_factor
