use Rattle.monotone_dual.proofs.LawProofs.{one_refusal}
use Rattle.monotone_dual.proofs.laws.one_refusal.Goals as goal

pub returns : goal.returns
returns c = one_refusal
