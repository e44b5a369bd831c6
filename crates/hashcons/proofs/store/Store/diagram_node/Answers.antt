use Rattle.hashcons.specs.declared.id.AnyId.TheVariants as id
use Rattle.hashcons.proofs.ListedNodes.{diagram_children, label_node_is, diagram_node_is}
use Rattle.hashcons.proofs.store.Store.diagram_node.Goals as goal

pub diagram_places-requires : goal.diagram_places-requires
diagram_places-requires c =
    let r = c.requires in
    let p = diagram_children c.args.self.now r.store c.args.order.now.keys r.listing (id.Diagram c.args.d) r.stands
    c.view_diagram.result c.in-Zig.regs c.in-Zig.sings c.in-Zig.fwds c.in-Zig.bwds
    c.view_diagram.ensures.tree c.view_diagram.ensures.children c.in-Zig.is in
    p.regs.stand

pub diagram_places-requires-in-Zig : goal.diagram_places-requires-in-Zig
diagram_places-requires-in-Zig c =
    let r = c.requires in
    let p = diagram_children c.args.self.now r.store c.args.order.now.keys r.listing (id.Diagram c.args.d) r.stands
    c.view_diagram.result c.in-Zig.regs c.in-Zig.sings c.in-Zig.fwds c.in-Zig.bwds
    c.view_diagram.ensures.tree c.view_diagram.ensures.children c.in-Zig.is in
    p.sings.stand

pub arrow_places-requires : goal.arrow_places-requires
arrow_places-requires c =
    let r = c.requires in
    let p = diagram_children c.args.self.now r.store c.args.order.now.keys r.listing (id.Diagram c.args.d) r.stands
    c.view_diagram.result c.in-Zig.regs c.in-Zig.sings c.in-Zig.fwds c.in-Zig.bwds
    c.view_diagram.ensures.tree c.view_diagram.ensures.children c.in-Zig.is in
    p.fwds.stand

pub arrow_places-requires-in-Zig : goal.arrow_places-requires-in-Zig
arrow_places-requires-in-Zig c =
    let r = c.requires in
    let p = diagram_children c.args.self.now r.store c.args.order.now.keys r.listing (id.Diagram c.args.d) r.stands
    c.view_diagram.result c.in-Zig.regs c.in-Zig.sings c.in-Zig.fwds c.in-Zig.bwds
    c.view_diagram.ensures.tree c.view_diagram.ensures.children c.in-Zig.is in
    p.bwds.stand

pub returns-in_ok-arrow_places-in-Zig-2 : goal.returns-in_ok-arrow_places-in-Zig-2
returns-in_ok-arrow_places-in-Zig-2 c =
    let r = c.requires in
    let p = diagram_children c.args.self.now r.store c.args.order.now.keys r.listing (id.Diagram c.args.d) r.stands
    c.view_diagram.result c.in-Zig.regs c.in-Zig.sings c.in-Zig.fwds c.in-Zig.bwds
    c.view_diagram.ensures.tree c.view_diagram.ensures.children c.in-Zig.is in
    diagram_node_is c.args.self.now r.store c.args.order.now.keys r.listing (id.Diagram c.args.d) r.stands
    c.in-Zig.regs c.in-Zig.sings c.in-Zig.fwds c.in-Zig.bwds
    c.in_ok-diagram_places-in-Zig.field-0 c.in_ok-diagram_places-in-Zig-2.field-0 c.in_ok-arrow_places-in-Zig.field-0
    c.in_ok-arrow_places-in-Zig-2.field-0 p
    c.in_ok-diagram_places-in-Zig.ensures
    c.in_ok-diagram_places-in-Zig-2.ensures
    c.in_ok-arrow_places-in-Zig.ensures
    c.in_ok-arrow_places-in-Zig-2.ensures

pub returns-in-Zero : goal.returns-in-Zero
returns-in-Zero c =
    let r = c.requires in
    label_node_is c.args.self.now r.store c.args.order.now.keys r.listing (id.Diagram c.args.d) r.stands
    c.view_diagram.result c.in-Zero.label c.view_diagram.ensures.tree c.in-Zero.is
