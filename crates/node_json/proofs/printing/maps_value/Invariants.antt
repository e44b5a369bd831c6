use Rattle.std.proofs.Common.{◌≡◌, map, take}
use Rattle.serde_json.specs.View.{view}
use Rattle.node_json.specs.Printing.{map_data}
use Rattle.node_json.proofs.printing.maps_value.Given as goal

abbrev pub invariant-loop-map : goal.invariant-loop-map
invariant-loop-map l = map view l.values.items ≡ map map_data (take l.map-index l.maps)
