use Rattle.hashcons.proofs.IdsOfTrees.{same_trees}
use Rattle.hashcons.proofs.read.same.Goals as goal

pub returns-clause-trees : goal.returns-clause-trees
returns-clause-trees c s store p q = same_trees s store c.args.a c.args.b p q c.eq.result c.eq.ensures
