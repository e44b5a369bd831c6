use Rattle.monotone_dual.proofs.LawProofs.{one_skip}
use Rattle.monotone_dual.proofs.laws.one_skip.Goals as goal

pub returns : goal.returns
returns c = one_skip
