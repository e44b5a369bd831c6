use Rattle.std.proofs.Common.{◌≡◌, drop, map}
use Rattle.serde_json.specs.View.{view}
use Rattle.node_json.specs.Step.{each}
use Rattle.node_json.specs.Names.{has_name, also}
use Rattle.node_json.specs.Entries.{map_at, map_names, maps_in}
use Rattle.node_json.proofs.entries.maps_in.Given as goal

abbrev pub invariant-loop-value : goal.invariant-loop-value
invariant-loop-value l = record {
  rest : each (map_at l.sorts (has_name l.initial.names)) l.entries (map view (drop l.value-index l.list))
      ≡ maps_in l.sorts (has_name l.initial.names) (map view l.list);
  taken : has_name l.names ≡ also (has_name l.initial.names) (map_names l.entries);
}
