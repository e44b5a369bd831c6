use Rattle.std.proofs.Common.{◌≡◌, Ok, sym}
use Rattle.serde_json.specs.View.{view}
use Rattle.diagram_terms.specs.Nodes.{sorts_of}
use Rattle.node_json.specs.NodeForms.{node_at, sort_behind}
use Rattle.node_json.proofs.Turns.{turn}
use Rattle.node_json.proofs.MoreNodes.{sorts_of_push, sort_of-sort_behind}
use Rattle.node_json.proofs.nodes.nodes_in.Goals as goal

pub loop-value-preserved : goal.loop-value-preserved
unfolding node_at
loop-value-preserved c =
    let l = c.loop-value in
    let node = c.in_ok-node.node in
    let sort = c.in_ok-sort.sort in
    let behind : sort_behind (sorts_of l.nodes) node ≡ Ok sort = cc (c.in_ok-sort.ensures) in
    let read : node_at l.nodes (view c.value-item.result) ≡ Ok node = rw (← c.len.ensures, c.in_ok-node.ensures, behind) in
    record {
      rest = rw c.in_ok-push.ensures.ok (turn node_at l.nodes node c.args.list.now l.value-index c.value-item.result _ c.loop-value-test.true c.value-item.is read l.invariant.rest);
      sorts = rw (c.in_ok-push.ensures.ok, c.in_ok-push-2.ensures.ok, l.invariant.sorts) (sym (sorts_of_push l.nodes node sort (sort_of-sort_behind (sorts_of l.nodes) node sort behind)));
    }
