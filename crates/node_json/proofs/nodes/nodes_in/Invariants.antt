use Rattle.std.proofs.Common.{◌≡◌, drop, map}
use Rattle.serde_json.specs.View.{view}
use Rattle.diagram_terms.specs.Nodes.{sorts_of}
use Rattle.node_json.specs.Step.{each}
use Rattle.node_json.specs.NodeForms.{node_at, nodes_in}
use Rattle.node_json.proofs.nodes.nodes_in.Given as goal

abbrev pub invariant-loop-value : goal.invariant-loop-value
invariant-loop-value l = record {
  rest : each node_at l.nodes (map view (drop l.value-index l.list)) ≡ nodes_in (map view l.list);
  sorts : l.sorts ≡ sorts_of l.nodes;
}
