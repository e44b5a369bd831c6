use Rattle.std.proofs.Common.{◌≡◌, ◌++◌, take}
use Rattle.workspace_lists.specs.Roots.{diagram_ids, end_ids}
use Rattle.workspace_lists.proofs.saved.roots_of.Given as goal

abbrev pub invariant-loop-diagram : goal.invariant-loop-diagram
invariant-loop-diagram l = l.ids.items
    ≡ end_ids l.workspace.generators.items ++ diagram_ids (take l.diagram-index l.workspace.diagrams.items)
