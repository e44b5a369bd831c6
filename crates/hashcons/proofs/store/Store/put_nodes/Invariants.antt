use Rattle.diagram_terms.specs.Nodes.{tree_at}
use Rattle.hashcons.specs.Contents.{Grows}
use Rattle.hashcons.specs.Ids.{GathersIds}
use Rattle.hashcons.proofs.store.Store.put_nodes.Given as goal

abbrev pub invariant-loop-at : goal.invariant-loop-at
invariant-loop-at l = record {
  grows : Grows l.fn.self l.self;
  ids : GathersIds l.self l.ids.items l.at (tree_at l.nodes);
}
