use Rattle.std.proofs.Common.{◌≤◌, ◌∙◌, ap, arith, inl, inr}
use Rattle.diagram_terms.specs.Nodes.{picked, trees_of}
use Rattle.diagram_terms.proofs.ValuesAsTrees.{tree_of_diagram-Zero, tree_of_diagram-Zig}
use Rattle.hashcons.proofs.PlacedIds.{diagram_here, label_here}
use Rattle.library_tests.proofs.NodePlaces.{reach, reach-above, children-reach, children_are_arrows, children_are_diagrams, no_labels_node, no_arrow_node, zig_here}
use Rattle.library_tests.proofs.unshared.+diagrams.Goals as goal

pub unshared-unshared_diagrams-requires : goal.unshared-unshared_diagrams-requires
unshared-unshared_diagrams-requires t c =
    let r = c.requires in
    let nodes = c.args.nodes.now in
    let at = c.args.place in
    let f = diagram_here nodes r.form at r.diagram.within c.index-nodes-place.result c.index-nodes-place.is _ _ _ _ c.in-Diagram.is in
    let e = c.as_slice.ensures in
    let near : reach c.as_slice.result.now ≤ at = rw e (children-reach _ at _ _ f.2.regs) in
    (omega arith, (r.form, rw e (children_are_diagrams nodes at r.diagram.within f.0 _ f.2.regs)))

pub unshared-unshared_diagrams-requires-in-Diagram : goal.unshared-unshared_diagrams-requires-in-Diagram
unshared-unshared_diagrams-requires-in-Diagram t c =
    let r = c.requires in
    let nodes = c.args.nodes.now in
    let at = c.args.place in
    let f = diagram_here nodes r.form at r.diagram.within c.index-nodes-place.result c.index-nodes-place.is _ _ _ _ c.in-Diagram.is in
    let e = c.as_slice-in-Diagram.ensures in
    let near : reach c.as_slice-in-Diagram.result.now ≤ at = rw e (children-reach _ at _ _ f.2.sings) in
    (omega arith, (r.form, rw e (children_are_diagrams nodes at r.diagram.within f.0 _ f.2.sings)))

pub unshared_diagrams-unshared-requires : goal.unshared_diagrams-unshared-requires
unshared_diagrams-unshared-requires t c =
    let r = c.requires in
    let i = c.loop-place.place-index in
    let l = c.loop-place-test.true in
    let below = reach-above c.args.places.now i l in
    (omega arith, (r.form, r.diagrams i 0 l))

pub unshared-unshared_arrows-requires-clause-arrows : goal.unshared-unshared_arrows-requires-clause-arrows
unshared-unshared_arrows-requires-clause-arrows t c =
    let r = c.requires in
    let nodes = c.args.nodes.now in
    let at = c.args.place in
    let f = diagram_here nodes r.form at r.diagram.within c.index-nodes-place.result c.index-nodes-place.is _ _ _ _ c.in-Diagram.is in
    rw c.as_slice-in-Diagram-2.ensures (children_are_arrows nodes at r.diagram.within f.0 _ f.2.fwds)

pub unshared-unshared_arrows-requires-in-Diagram-clause-arrows : goal.unshared-unshared_arrows-requires-in-Diagram-clause-arrows
unshared-unshared_arrows-requires-in-Diagram-clause-arrows t c =
    let r = c.requires in
    let nodes = c.args.nodes.now in
    let at = c.args.place in
    let f = diagram_here nodes r.form at r.diagram.within c.index-nodes-place.result c.index-nodes-place.is _ _ _ _ c.in-Diagram.is in
    rw c.as_slice-in-Diagram-3.ensures (children_are_arrows nodes at r.diagram.within f.0 _ f.2.bwds)

pub unshared-unreachable-requires : goal.unshared-unreachable-requires
unshared-unreachable-requires t c =
    let r = c.requires in
    let n = c.index-nodes-place.result in
    let is = c.index-nodes-place.is in
    elim c.in-Labels.is [
      | inl p ↦ no_labels_node c.args.nodes.now r.form c.args.place r.diagram.within n is r.diagram p.0 p.1 p.2
      | inr p ↦ no_arrow_node c.args.nodes.now r.form c.args.place r.diagram.within n is r.diagram p.0 p.1 p.2 p.3
    ]

pub unshared-returns-in-Label : goal.unshared-returns-in-Label
unshared-returns-in-Label t c =
    tree_of_diagram-Zero _
    ∙ label_here c.args.nodes.now c.requires.form c.args.place c.requires.diagram.within c.index-nodes-place.result
    c.index-nodes-place.is c.in-Label.label c.in-Label.is

pub unshared-returns-in_ok-unshared_arrows-in-Diagram-2 : goal.unshared-returns-in_ok-unshared_arrows-in-Diagram-2
unshared-returns-in_ok-unshared_arrows-in-Diagram-2 t c =
    let nodes = c.args.nodes.now in
    tree_of_diagram-Zig _ _ _ _
    ∙ zig_here nodes c.requires.form c.args.place c.requires.diagram.within c.index-nodes-place.result
    c.index-nodes-place.is _ _ _ _ _ _ _ _ c.in-Diagram.is
    (c.in_ok-unshared_diagrams-in-Diagram.ensures ∙ ap (picked (trees_of nodes)) c.as_slice.ensures)
    (c.in_ok-unshared_diagrams-in-Diagram-2.ensures ∙ ap (picked (trees_of nodes)) c.as_slice-in-Diagram.ensures)
    (c.in_ok-unshared_arrows-in-Diagram.ensures ∙ ap (picked (trees_of nodes)) c.as_slice-in-Diagram-2.ensures)
    (c.in_ok-unshared_arrows-in-Diagram-2.ensures ∙ ap (picked (trees_of nodes)) c.as_slice-in-Diagram-3.ensures)
