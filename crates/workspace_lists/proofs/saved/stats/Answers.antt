use Rattle.std.proofs.Common.{◌∙◌, ap}
use Rattle.std.specs.Prelude.{count_by}
use Rattle.workspace_lists.specs.Roots.{is_diagram_node}
use Rattle.workspace_lists.proofs.CountedNodes.{stats-over}
use Rattle.workspace_lists.proofs.HeldRoots.{roots-of_store}
use Rattle.workspace_lists.proofs.saved.stats.Goals as goal

pub list-requires : goal.list-requires
list-requires c = roots-of_store c.args.store.now c.args.workspace.now c.deref.result.now c.requires
    (c.deref.ensures.value ∙ c.in_ok-roots.ensures.ids)

pub returns : goal.returns
returns c = stats-over c.args.store.now c.args.workspace.now c.deref.result.now c.in_ok-nodes.nodes.items
    c.diagrams_among-diagrams.result c.len-4.result c.len.result c.len-3.result c.len-2.result
    (c.deref.ensures.value ∙ c.in_ok-roots.ensures.ids) c.in_ok-nodes.ensures.nodes
    (c.diagrams_among-diagrams.ensures ∙ ap (count_by is_diagram_node) c.deref-2.ensures.value)
    (c.len-4.ensures ∙ c.in_ok-nodes.nodes.ok.0) (c.len.ensures ∙ c.args.workspace.now.generators.ok.0)
    (c.len-3.ensures ∙ c.args.workspace.now.maps.ok.0) (c.len-2.ensures ∙ c.args.workspace.now.diagrams.ok.0)
