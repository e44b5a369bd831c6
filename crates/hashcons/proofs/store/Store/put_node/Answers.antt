use Rattle.std.proofs.Common.{sym, subst, ◌∙◌, arith}
use Rattle.diagram_terms.specs.Dimension.{IsDiagramTree, IsArrowTree}
use Rattle.diagram_terms.proofs.Dimensions.{diagram_tree, arrow_tree}
use Rattle.diagram_terms.proofs.Shapes.{IsDiagram-point, IsArrow-ends}
use Rattle.hashcons.proofs.PlacedIds.{PutsDiagramAt, PutsArrowAt, diagram_here, arrow_here, label_here, labels_here, puts_diagram_at, puts_arrow_at, diagrams_there, arrows_there}
use Rattle.hashcons.proofs.Growth.{Makes-named}
use Rattle.hashcons.proofs.store.Store.put_node.Goals as goal

pub put_diagram-requires-clause-shape : goal.put_diagram-requires-clause-shape
put_diagram-requires-clause-shape c = diagram_tree 0 _ (IsDiagram-point c.in-Label.label)

pub put_arrow-requires-clause-shape : goal.put_arrow-requires-clause-shape
put_arrow-requires-clause-shape c = arrow_tree 0 _ (IsArrow-ends c.in-Labels.from c.in-Labels.to)

pub diagrams_at-requires : goal.diagrams_at-requires
diagrams_at-requires c =
    let r = c.requires in
    let f = diagram_here c.args.nodes.now r.form c.args.at r.within c.index-nodes-at.result c.index-nodes-at.is _ _ _ _
    c.in-Diagram.is in
    rw c.as_slice.ensures (diagrams_there c.args.self.now c.allocator-alloc.ensures c.args.nodes.now r.form c.args.at
    (omega (arith, r.within)) c.args.ids.now r.ids f.0 _ f.2.regs)

pub diagrams_at-requires-in-Diagram : goal.diagrams_at-requires-in-Diagram
diagrams_at-requires-in-Diagram c =
    let r = c.requires in
    let f = diagram_here c.args.nodes.now r.form c.args.at r.within c.index-nodes-at.result c.index-nodes-at.is _ _ _ _
    c.in-Diagram.is in
    rw c.as_slice-in-Diagram.ensures (diagrams_there c.args.self.now c.allocator-alloc.ensures c.args.nodes.now r.form c.args.at
    (omega (arith, r.within)) c.args.ids.now r.ids f.0 _ f.2.sings)

pub arrows_at-requires : goal.arrows_at-requires
arrows_at-requires c =
    let r = c.requires in
    let f = diagram_here c.args.nodes.now r.form c.args.at r.within c.index-nodes-at.result c.index-nodes-at.is _ _ _ _
    c.in-Diagram.is in
    rw c.as_slice-in-Diagram-2.ensures (arrows_there c.args.self.now c.allocator-alloc.ensures c.args.nodes.now r.form c.args.at
    (omega (arith, r.within)) c.args.ids.now r.ids f.0 _ f.2.fwds)

pub arrows_at-requires-in-Diagram : goal.arrows_at-requires-in-Diagram
arrows_at-requires-in-Diagram c =
    let r = c.requires in
    let f = diagram_here c.args.nodes.now r.form c.args.at r.within c.index-nodes-at.result c.index-nodes-at.is _ _ _ _
    c.in-Diagram.is in
    rw c.as_slice-in-Diagram-3.ensures (arrows_there c.args.self.now c.allocator-alloc.ensures c.args.nodes.now r.form c.args.at
    (omega (arith, r.within)) c.args.ids.now r.ids f.0 _ f.2.bwds)

pub put_diagram-requires-in-Diagram-clause-children :
    goal.put_diagram-requires-in-Diagram-clause-children
put_diagram-requires-in-Diagram-clause-children c =
    let r = c.requires in
    let p : PutsDiagramAt c.args.self.now c.args.nodes.now c.args.at _ _ _ _ =
    puts_diagram_at c.args.nodes.now r.form c.args.at r.within c.index-nodes-at.result c.index-nodes-at.is
    c.in-Diagram.regs c.in-Diagram.sings c.in-Diagram.fwds c.in-Diagram.bwds c.in-Diagram.is
    c.args.self.now c.allocator-alloc.ensures c.args.ids.now r.ids _ _ _ _
    (rw c.as_slice.ensures at c.in_ok-diagrams_at-in-Diagram.ensures)
    (rw c.as_slice-in-Diagram.ensures at c.in_ok-diagrams_at-in-Diagram-2.ensures)
    (rw c.as_slice-in-Diagram-2.ensures at c.in_ok-arrows_at-in-Diagram.ensures)
    (rw c.as_slice-in-Diagram-3.ensures at c.in_ok-arrows_at-in-Diagram-2.ensures)
    in
    p.children

pub put_diagram-requires-in-Diagram-clause-shape :
    goal.put_diagram-requires-in-Diagram-clause-shape
put_diagram-requires-in-Diagram-clause-shape c =
    let r = c.requires in
    let p : PutsDiagramAt c.args.self.now c.args.nodes.now c.args.at _ _ _ _ =
    puts_diagram_at c.args.nodes.now r.form c.args.at r.within c.index-nodes-at.result c.index-nodes-at.is
    c.in-Diagram.regs c.in-Diagram.sings c.in-Diagram.fwds c.in-Diagram.bwds c.in-Diagram.is
    c.args.self.now c.allocator-alloc.ensures c.args.ids.now r.ids _ _ _ _
    (rw c.as_slice.ensures at c.in_ok-diagrams_at-in-Diagram.ensures)
    (rw c.as_slice-in-Diagram.ensures at c.in_ok-diagrams_at-in-Diagram-2.ensures)
    (rw c.as_slice-in-Diagram-2.ensures at c.in_ok-arrows_at-in-Diagram.ensures)
    (rw c.as_slice-in-Diagram-3.ensures at c.in_ok-arrows_at-in-Diagram-2.ensures)
    in
    subst IsDiagramTree (sym p.tree) p.shape

pub returns-in_ok-d-in-Diagram : goal.returns-in_ok-d-in-Diagram
returns-in_ok-d-in-Diagram c =
    let r = c.requires in
    let p : PutsDiagramAt c.args.self.now c.args.nodes.now c.args.at _ _ _ _ =
    puts_diagram_at c.args.nodes.now r.form c.args.at r.within c.index-nodes-at.result c.index-nodes-at.is
    c.in-Diagram.regs c.in-Diagram.sings c.in-Diagram.fwds c.in-Diagram.bwds c.in-Diagram.is
    c.args.self.now c.allocator-alloc.ensures c.args.ids.now r.ids _ _ _ _
    (rw c.as_slice.ensures at c.in_ok-diagrams_at-in-Diagram.ensures)
    (rw c.as_slice-in-Diagram.ensures at c.in_ok-diagrams_at-in-Diagram-2.ensures)
    (rw c.as_slice-in-Diagram-2.ensures at c.in_ok-arrows_at-in-Diagram.ensures)
    (rw c.as_slice-in-Diagram-3.ensures at c.in_ok-arrows_at-in-Diagram-2.ensures)
    in
    Makes-named _ _ _ _ _ _ p.tree c.in_ok-d-in-Diagram.ensures.made

pub returns-in_ok-d-in-Label : goal.returns-in_ok-d-in-Label
returns-in_ok-d-in-Label c =
    Makes-named _ _ _ _ _ _ (label_here c.args.nodes.now c.requires.form c.args.at c.requires.within
    c.index-nodes-at.result c.index-nodes-at.is c.in-Label.label c.in-Label.is) c.in_ok-d-in-Label.ensures.made

pub returns-in_ok-a-in-Labels : goal.returns-in_ok-a-in-Labels
returns-in_ok-a-in-Labels c =
    Makes-named _ _ _ _ _ _ (labels_here c.args.nodes.now c.requires.form c.args.at c.requires.within
    c.index-nodes-at.result c.index-nodes-at.is c.in-Labels.from c.in-Labels.to c.in-Labels.is) c.in_ok-a-in-Labels.ensures.made

pub arrows_at-requires-in-Arrow : goal.arrows_at-requires-in-Arrow
arrows_at-requires-in-Arrow c =
    let r = c.requires in
    let f = arrow_here c.args.nodes.now r.form c.args.at r.within c.index-nodes-at.result c.index-nodes-at.is _ _ _
    c.in-Arrow.is in
    rw c.as_slice-in-Arrow-2.ensures (arrows_there c.args.self.now c.allocator-alloc.ensures c.args.nodes.now r.form c.args.at
    (omega (arith, r.within)) c.args.ids.now r.ids f.0 _ f.2.regs)

pub arrows_at-requires-in-Arrow-2 : goal.arrows_at-requires-in-Arrow-2
arrows_at-requires-in-Arrow-2 c =
    let r = c.requires in
    let f = arrow_here c.args.nodes.now r.form c.args.at r.within c.index-nodes-at.result c.index-nodes-at.is _ _ _
    c.in-Arrow.is in
    rw c.as_slice-in-Arrow-3.ensures (arrows_there c.args.self.now c.allocator-alloc.ensures c.args.nodes.now r.form c.args.at
    (omega (arith, r.within)) c.args.ids.now r.ids f.0 _ f.2.sings)

pub put_arrow-requires-in-Arrow-clause-children : goal.put_arrow-requires-in-Arrow-clause-children
put_arrow-requires-in-Arrow-clause-children c =
    let r = c.requires in
    let p : PutsArrowAt c.args.self.now c.args.nodes.now c.args.at _ _ _ =
    puts_arrow_at c.args.nodes.now r.form c.args.at r.within c.index-nodes-at.result c.index-nodes-at.is
    c.in-Arrow.heights c.in-Arrow.regs c.in-Arrow.sings c.in-Arrow.is
    c.args.self.now c.allocator-alloc.ensures c.args.ids.now r.ids c.in_ok-from_slice-in-Arrow.field-0.items _ _
    (c.in_ok-from_slice-in-Arrow.ensures.ok ∙ c.as_slice-in-Arrow.ensures)
    (rw c.as_slice-in-Arrow-2.ensures at c.in_ok-arrows_at-in-Arrow.ensures)
    (rw c.as_slice-in-Arrow-3.ensures at c.in_ok-arrows_at-in-Arrow-2.ensures)
    in
    p.children

pub put_arrow-requires-in-Arrow-clause-shape : goal.put_arrow-requires-in-Arrow-clause-shape
put_arrow-requires-in-Arrow-clause-shape c =
    let r = c.requires in
    let p : PutsArrowAt c.args.self.now c.args.nodes.now c.args.at _ _ _ =
    puts_arrow_at c.args.nodes.now r.form c.args.at r.within c.index-nodes-at.result c.index-nodes-at.is
    c.in-Arrow.heights c.in-Arrow.regs c.in-Arrow.sings c.in-Arrow.is
    c.args.self.now c.allocator-alloc.ensures c.args.ids.now r.ids c.in_ok-from_slice-in-Arrow.field-0.items _ _
    (c.in_ok-from_slice-in-Arrow.ensures.ok ∙ c.as_slice-in-Arrow.ensures)
    (rw c.as_slice-in-Arrow-2.ensures at c.in_ok-arrows_at-in-Arrow.ensures)
    (rw c.as_slice-in-Arrow-3.ensures at c.in_ok-arrows_at-in-Arrow-2.ensures)
    in
    subst IsArrowTree (sym p.tree) p.shape

pub returns-in_ok-a-in-Arrow : goal.returns-in_ok-a-in-Arrow
returns-in_ok-a-in-Arrow c =
    let r = c.requires in
    let p : PutsArrowAt c.args.self.now c.args.nodes.now c.args.at _ _ _ =
    puts_arrow_at c.args.nodes.now r.form c.args.at r.within c.index-nodes-at.result c.index-nodes-at.is
    c.in-Arrow.heights c.in-Arrow.regs c.in-Arrow.sings c.in-Arrow.is
    c.args.self.now c.allocator-alloc.ensures c.args.ids.now r.ids c.in_ok-from_slice-in-Arrow.field-0.items _ _
    (c.in_ok-from_slice-in-Arrow.ensures.ok ∙ c.as_slice-in-Arrow.ensures)
    (rw c.as_slice-in-Arrow-2.ensures at c.in_ok-arrows_at-in-Arrow.ensures)
    (rw c.as_slice-in-Arrow-3.ensures at c.in_ok-arrows_at-in-Arrow-2.ensures)
    in
    Makes-named _ _ _ _ _ _ p.tree c.in_ok-a-in-Arrow.ensures.made
