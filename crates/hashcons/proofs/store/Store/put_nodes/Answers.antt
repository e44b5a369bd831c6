use Rattle.hashcons.proofs.Growth.{Grows-trans}
use Rattle.hashcons.proofs.PlacedIds.{ids-more}
use Rattle.hashcons.proofs.store.Store.put_nodes.Goals as goal

pub loop-at-preserved : goal.loop-at-preserved
loop-at-preserved c =
    let inv = c.loop-at.invariant in
    let put = c.in_ok-id.ensures in
    record {
      grows = Grows-trans _ _ _ inv.grows put.grows;
      ids = rw c.in_ok-push.ensures.items (ids-more c.loop-at.self c.put_node.new.self _ _ _ _ put.grows inv.ids
          put.of_store put.tree);
    }
