use Rattle.std.proofs.Common.{◌≡◌, Ok}
use Rattle.serde_json.specs.View.{view}
use Rattle.node_json.specs.Names.{has_name}
use Rattle.node_json.specs.Entries.{diagram_at}
use Rattle.node_json.proofs.Turns.{turn, names_turn}
use Rattle.node_json.proofs.entries.diagrams_in.Goals as goal

pub loop-value-preserved : goal.loop-value-preserved
unfolding diagram_at
loop-value-preserved c =
    let l = c.loop-value in
    let entry = c.in_ok-diagram_entry.field-0 in
    let read : diagram_at c.args.sorts.now (has_name c.args.names.now) l.entries (view c.value-item.result) ≡ Ok entry = cc (c.in_ok-diagram_entry.ensures.entry) in
    record {
      rest = rw c.in_ok-push.ensures.ok (turn (diagram_at c.args.sorts.now (has_name c.args.names.now)) l.entries entry c.args.list.now l.value-index c.value-item.result _ c.loop-value-test.true c.value-item.is read l.invariant.rest);
      taken = rw c.in_ok-push.ensures.ok (names_turn (λ e. e.name) (has_name c.args.names.now) (has_name l.names) _ l.entries entry l.invariant.taken c.in_ok-diagram_entry.ensures.taken);
    }
