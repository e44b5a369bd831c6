use Rattle.workspace_lists.proofs.ForCallers.{gathered-of_store}
use Rattle.session_tests.proofs.tests.workspaces.put.Goals as goal

pub returns : goal.returns
returns c = gathered-of_store _ _ _ _ c.in_ok-put_nodes.ensures.ids
