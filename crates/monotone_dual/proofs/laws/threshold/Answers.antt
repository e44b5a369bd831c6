use Rattle.monotone_dual.proofs.LawProofs.{threshold}
use Rattle.monotone_dual.proofs.laws.threshold.Goals as goal

pub returns : goal.returns
returns c = threshold
