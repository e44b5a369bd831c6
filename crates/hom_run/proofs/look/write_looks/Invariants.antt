use Rattle.std.proofs.Common.{◌≡◌, ◌≤◌, drop, length}
use Rattle.io_edge.proofs.Parts.{IsUnderWay}
use Rattle.diagram_terms.specs.Nodes.{tree_at}
use Rattle.hashcons.specs.Contents.{IsStore}
use Rattle.hashcons.specs.Ids.{GathersIds}
use Rattle.hom_run.specs.declared.status.Status.TheVariants as status
use Rattle.hom_run.proofs.Lines.{answers_text, answers_status, entry_answers}
use Rattle.hom_run.proofs.look.write_looks.Given as goal

-- The lines of the entries that were passed stand written, and the rest of the entries make of the status that of all.
-- The store holds the tree of each node.
abbrev pub invariant-loop-entry : goal.invariant-loop-entry
invariant-loop-entry g l = record {
  under_way : IsUnderWay (g.K.Sink.written l.fn.output) (g.K.Sink.written l.output)
      (answers_text (entry_answers l.document.nodes (drop l.entry-index l.document.diagrams))) (answers_text (entry_answers l.document.nodes l.document.diagrams));
  status : answers_status l.status (entry_answers l.document.nodes (drop l.entry-index l.document.diagrams)) ≡ answers_status status.Done (entry_answers l.document.nodes l.document.diagrams);
  later : g.K.Sink.faults l.fn.output ≤ g.K.Sink.faults l.output;
  ids : GathersIds l.store l.ids.items (length l.document.nodes) (tree_at l.document.nodes);
  store : IsStore l.store;
}
