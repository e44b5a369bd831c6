use Rattle.found_ids.proofs.FoundStays as stays
use Rattle.found_ids.proofs.FoundIds.keep.Goals as goal

pub returns-clause-added : goal.returns-clause-added
returns-clause-added c = c.in_ok-insert.ensures.updates.1

pub returns-clause-kept : goal.returns-clause-kept
returns-clause-kept c = stays.kept c.args.self.now.ids c.insert.new.self c.args.id c.in_ok-insert.ensures.updates

pub returns-clause-others : goal.returns-clause-others
returns-clause-others c = stays.others c.args.self.now.ids c.insert.new.self c.args.id c.in_ok-insert.ensures.updates
