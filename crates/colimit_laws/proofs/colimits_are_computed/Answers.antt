use Rattle.colimit_laws.proofs.ProgramLaws.{colimits_are_computed, refusals_are_computed}
use Rattle.colimit_laws.proofs.colimits_are_computed.Goals as goal

pub returns : goal.returns
returns c = record { colimits = colimits_are_computed; refusals = refusals_are_computed }
