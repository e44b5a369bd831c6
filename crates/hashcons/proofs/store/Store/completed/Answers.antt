use Rattle.std.proofs.Common.{[]}
use Rattle.hashcons.proofs.ListEnd.{roots-more}
use Rattle.hashcons.proofs.store.Store.completed.Goals as goal

pub loop-root-preserved : goal.loop-root-preserved
loop-root-preserved c =
    roots-more c.args.self.now [] c.loop-root.order.keys c.visit.new.order.keys c.args.roots.now c.loop-root.root-index
    c.root-item.result
    c.loop-root-test.true c.root-item.is c.loop-root.invariant c.in_ok-visit.ensures
