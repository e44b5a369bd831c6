use Rattle.degeneracy_laws.proofs.Leasts.{least_is_unique}
use Rattle.degeneracy_laws.proofs.least_is_unique.Goals as goal

pub returns : goal.returns
returns c = least_is_unique
