use Rattle.std.proofs.Common.{◌≡◌, drop, map}
use Rattle.serde_json.specs.View.{view}
use Rattle.node_json.specs.Step.{each}
use Rattle.node_json.specs.Names.{has_name, also}
use Rattle.node_json.specs.Entries.{generator_at, generator_names, generators_in}
use Rattle.node_json.proofs.entries.generators_in.Given as goal

abbrev pub invariant-loop-value : goal.invariant-loop-value
invariant-loop-value l = record {
  rest : each (generator_at l.sorts (has_name l.initial.names)) l.entries (map view (drop l.value-index l.list))
      ≡ generators_in l.sorts (has_name l.initial.names) (map view l.list);
  taken : has_name l.names ≡ also (has_name l.initial.names) (generator_names l.entries);
}
