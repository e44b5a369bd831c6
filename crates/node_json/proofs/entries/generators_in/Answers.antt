use Rattle.std.proofs.Common.{◌≡◌, Ok, length, ◌∙◌, arith}
use Rattle.serde_json.specs.View.{view}
use Rattle.node_json.specs.declared.fault.Field.TheVariants as field
use Rattle.node_json.specs.Names.{has_name, also}
use Rattle.node_json.specs.Entries.{entry_fault, generator_names, generator_entry, generator_at}
use Rattle.node_json.proofs.Turns.{turn, names_turn}
use Rattle.node_json.proofs.Room.{generator_at-within}
use Rattle.node_json.proofs.entries.generators_in.Goals as goal

pub loop-value-preserved : goal.loop-value-preserved
loop-value-preserved c =
    let l = c.loop-value in
    let entry = c.in_ok-generator_entry.field-0 in
    let read : generator_entry (entry_fault field.Generators (length l.entries)) c.args.sorts.now (also (has_name c.args.names.now) (generator_names l.entries)) (view c.value-item.result) ≡ Ok entry = cc (c.in_ok-generator_entry.ensures.entry) in
    let at = generator_at-within c.args.sorts.now (has_name c.args.names.now) l.entries (view c.value-item.result) (omega arith) ∙ read in
    record {
      rest = rw c.in_ok-push.ensures.ok (turn (generator_at c.args.sorts.now (has_name c.args.names.now)) l.entries entry c.args.list.now l.value-index c.value-item.result _ c.loop-value-test.true c.value-item.is at l.invariant.rest);
      taken = rw c.in_ok-push.ensures.ok (names_turn (λ e. e.name) (has_name c.args.names.now) (has_name l.names) _ l.entries entry l.invariant.taken c.in_ok-generator_entry.ensures.taken);
    }
