use Rattle.colimit_laws.proofs.ProgramLaws.{ranks_are_computed, order_faults_are_computed}
use Rattle.colimit_laws.proofs.orders_are_computed.Goals as goal

pub returns : goal.returns
returns c = record { ranks = ranks_are_computed; faults = order_faults_are_computed }
