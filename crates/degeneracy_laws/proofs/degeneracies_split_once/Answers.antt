use Rattle.degeneracy_laws.proofs.UniqueSplits.{degeneracies_split_once}
use Rattle.degeneracy_laws.proofs.degeneracies_split_once.Goals as goal

pub returns-clause-once : goal.returns-clause-once
returns-clause-once c = degeneracies_split_once
