use Rattle.std.proofs.Common.{◌≡◌, map, take}
use Rattle.diagram_terms.specs.Completion.{node_of}
use Rattle.hashcons.specs.Listing.{listed}
use Rattle.hashcons.proofs.store.Store.nodes_in.Given as goal

abbrev pub invariant-loop-at : goal.invariant-loop-at
invariant-loop-at l =
    l.nodes.items ≡ map (node_of (listed l.self l.order.keys)) (take l.at (listed l.self l.order.keys))
