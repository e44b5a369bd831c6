use Rattle.std.proofs.Common.{◌∙◌}
use Rattle.session_undo.proofs.EqualIds.{same_ids}
use Rattle.session_undo.proofs.lookups.are_one.Goals as goal

pub returns-clause-trees : goal.returns-clause-trees
returns-clause-trees c = c.eq.ensures ∙ same_ids c.args.store.now c.allocator-allocator.ensures c.args.first c.args.second c.requires.first c.requires.second
