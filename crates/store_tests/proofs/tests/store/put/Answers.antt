use Rattle.store_tests.proofs.Roots.{gathered_ids}
use Rattle.store_tests.proofs.tests.store.put.Goals as goal

pub returns : goal.returns
returns c = gathered_ids _ _ _ _ c.in_ok-put_nodes.ensures.ids
