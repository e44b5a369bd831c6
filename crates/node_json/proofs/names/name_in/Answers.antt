use Rattle.node_json.proofs.NameSets.{has_name-inserted}
use Rattle.node_json.proofs.names.name_in.Goals as goal

pub returns-then-branch-clause-taken : goal.returns-then-branch-clause-taken
returns-then-branch-clause-taken c = has_name-inserted _ _ c.in_ok-name.name c.in_ok-insert.ensures.updates
