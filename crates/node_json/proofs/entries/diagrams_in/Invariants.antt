use Rattle.std.proofs.Common.{◌≡◌, drop, map}
use Rattle.serde_json.specs.View.{view}
use Rattle.node_json.specs.Step.{each}
use Rattle.node_json.specs.Names.{has_name, also}
use Rattle.node_json.specs.Entries.{diagram_at, diagram_names, diagrams_in}
use Rattle.node_json.proofs.entries.diagrams_in.Given as goal

abbrev pub invariant-loop-value : goal.invariant-loop-value
invariant-loop-value l = record {
  rest : each (diagram_at l.sorts (has_name l.initial.names)) l.entries (map view (drop l.value-index l.list))
      ≡ diagrams_in l.sorts (has_name l.initial.names) (map view l.list);
  taken : has_name l.names ≡ also (has_name l.initial.names) (diagram_names l.entries);
}
