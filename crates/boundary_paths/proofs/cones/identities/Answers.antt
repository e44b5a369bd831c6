use Rattle.boundary_paths.proofs.ConeSteps.{both_below, both_trees}
use Rattle.boundary_paths.proofs.cones.identities.Goals as goal

pub returns-clause-of_store : goal.returns-clause-of_store
returns-clause-of_store c =
    both_below _ _ _ _ _ c.in_ok-first.ensures.made.of_store c.in_ok-last.ensures.made.grows c.in_ok-last.ensures.made.of_store c.from_slice.ensures.ok

pub returns-clause-trees : goal.returns-clause-trees
returns-clause-trees c =
    both_trees _ _ _ _ _ _ _ _ c.requires.target c.in_ok-first.ensures.made c.in_ok-last.ensures.made c.from_slice.ensures.ok
