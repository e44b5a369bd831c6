use Rattle.std.proofs.Common.{arith}
use Rattle.hashcons.proofs.ListEnd.{nodes-more, nodes-all}
use Rattle.hashcons.proofs.store.Store.nodes_in.Goals as goal

pub loop-at-preserved : goal.loop-at-preserved
loop-at-preserved c =
    rw c.in_ok-push.ensures.items (nodes-more c.args.self.now c.args.order.now.keys c.loop-at.nodes.items c.loop-at.at
    c.in_ok-node.node c.loop-at.invariant (let n = c.len-at-end.ensures.len in omega arith) c.in_ok-node.ensures)

pub returns : goal.returns
returns c =
    nodes-all c.args.self.now c.args.order.now.keys c.loop-at.nodes.items c.loop-at.at c.loop-at.invariant
    (let n = c.len-at-end.ensures.len in omega arith)
