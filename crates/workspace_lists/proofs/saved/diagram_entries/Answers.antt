use Rattle.std.proofs.Common.{refl}
use Rattle.workspace_lists.proofs.DocumentEntries.{named-more}
use Rattle.workspace_lists.proofs.saved.diagram_entries.Goals as goal

pub loop-i-preserved : goal.loop-i-preserved
loop-i-preserved c = λ place are. rw c.in_ok-push.ensures.items
    (named-more place c.args.diagrams.now c.loop-i.i c.index-diagrams-i.result c.args.places.now c.loop-i.entries.items
    c.in_ok-name.name _ c.loop-i-test.true c.index-diagrams-i.is are (c.loop-i.invariant place are) c.in_ok-name.ensures refl)
