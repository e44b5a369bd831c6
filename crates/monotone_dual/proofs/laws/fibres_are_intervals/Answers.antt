use Rattle.monotone_dual.proofs.LawProofs.{fibres_are_intervals}
use Rattle.monotone_dual.proofs.laws.fibres_are_intervals.Goals as goal

pub returns : goal.returns
returns c = fibres_are_intervals
