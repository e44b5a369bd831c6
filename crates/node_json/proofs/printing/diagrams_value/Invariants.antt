use Rattle.std.proofs.Common.{◌≡◌, map, take}
use Rattle.serde_json.specs.View.{view}
use Rattle.node_json.specs.Printing.{diagram_data}
use Rattle.node_json.proofs.printing.diagrams_value.Given as goal

abbrev pub invariant-loop-diagram : goal.invariant-loop-diagram
invariant-loop-diagram l = map view l.values.items ≡ map diagram_data (take l.diagram-index l.diagrams)
