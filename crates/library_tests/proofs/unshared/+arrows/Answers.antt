use Rattle.std.proofs.Common.{◌≤◌, ◌∙◌, ap, arith, rules, inl, inr}
use Rattle.diagram_terms.specs.Nodes.{picked, trees_of}
use Rattle.diagram_terms.proofs.ValuesAsTrees.{tree_of_arrow-Zero, tree_of_arrow-Zig}
use Rattle.hashcons.proofs.PlacedIds.{arrow_here, labels_here}
use Rattle.library_tests.proofs.NodePlaces.{reach, reach-above, children-reach, children_are_arrows, no_label_node, no_diagram_node, zag_here}
use Rattle.library_tests.proofs.unshared.+arrows.Goals as goal

pub unshared_arrow-unshared_arrows-requires : goal.unshared_arrow-unshared_arrows-requires
unshared_arrow-unshared_arrows-requires t c =
    let r = c.requires in
    let nodes = c.args.nodes.now in
    let at = c.args.place in
    let f = arrow_here nodes r.form at r.arrow.within c.index-nodes-place.result c.index-nodes-place.is _ _ _ c.in-Arrow.is in
    let e = c.as_slice-in-Arrow.ensures in
    let near : reach c.as_slice-in-Arrow.result.now ≤ at = rw e (children-reach _ at _ _ f.2.regs) in
    (omega arith, (r.form, rw e (children_are_arrows nodes at r.arrow.within f.0 _ f.2.regs)))

pub unshared_arrow-unshared_arrows-requires-in-Arrow : goal.unshared_arrow-unshared_arrows-requires-in-Arrow
unshared_arrow-unshared_arrows-requires-in-Arrow t c =
    let r = c.requires in
    let nodes = c.args.nodes.now in
    let at = c.args.place in
    let f = arrow_here nodes r.form at r.arrow.within c.index-nodes-place.result c.index-nodes-place.is _ _ _ c.in-Arrow.is in
    let e = c.as_slice-in-Arrow-2.ensures in
    let near : reach c.as_slice-in-Arrow-2.result.now ≤ at = rw e (children-reach _ at _ _ f.2.sings) in
    (omega arith, (r.form, rw e (children_are_arrows nodes at r.arrow.within f.0 _ f.2.sings)))

pub unshared_arrow-unreachable-requires : goal.unshared_arrow-unreachable-requires
unshared_arrow-unreachable-requires t c =
    let r = c.requires in
    let n = c.index-nodes-place.result in
    let is = c.index-nodes-place.is in
    elim c.in-Label.is [
      | inl p ↦ no_label_node c.args.nodes.now r.form c.args.place r.arrow.within n is r.arrow p.0 p.1
      | inr p ↦ no_diagram_node c.args.nodes.now r.form c.args.place r.arrow.within n is r.arrow p.0 p.1 p.2 p.3 p.4
    ]

pub unshared_arrow-returns-in-Labels : goal.unshared_arrow-returns-in-Labels
unshared_arrow-returns-in-Labels t c =
    tree_of_arrow-Zero _ _
    ∙ labels_here c.args.nodes.now c.requires.form c.args.place c.requires.arrow.within c.index-nodes-place.result
    c.index-nodes-place.is c.in-Labels.from c.in-Labels.to c.in-Labels.is

pub unshared_arrow-returns-in_ok-unshared_arrows-in-Arrow-2 : goal.unshared_arrow-returns-in_ok-unshared_arrows-in-Arrow-2
unshared_arrow-returns-in_ok-unshared_arrows-in-Arrow-2 t c =
    let nodes = c.args.nodes.now in
    tree_of_arrow-Zig _ _ _
    ∙ zag_here nodes c.requires.form c.args.place c.requires.arrow.within c.index-nodes-place.result
    c.index-nodes-place.is _ _ _ _ _ _ c.in-Arrow.is
    (c.in_ok-to_vec-in-Arrow.ensures.items_if_clones_equal (search rules) ∙ c.as_slice.ensures)
    (c.in_ok-unshared_arrows-in-Arrow.ensures ∙ ap (picked (trees_of nodes)) c.as_slice-in-Arrow.ensures)
    (c.in_ok-unshared_arrows-in-Arrow-2.ensures ∙ ap (picked (trees_of nodes)) c.as_slice-in-Arrow-2.ensures)

pub unshared_arrows-unshared_arrow-requires : goal.unshared_arrows-unshared_arrow-requires
unshared_arrows-unshared_arrow-requires t c =
    let r = c.requires in
    let i = c.loop-place.place-index in
    let l = c.loop-place-test.true in
    let below = reach-above c.args.places.now i l in
    (omega arith, (r.form, r.arrows i 0 l))
