use Rattle.degeneracy_laws.proofs.Leasts.{reduced_means_least}
use Rattle.degeneracy_laws.proofs.reduced_means_least.Goals as goal

pub returns : goal.returns
returns c = reduced_means_least
