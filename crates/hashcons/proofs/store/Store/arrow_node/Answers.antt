use Rattle.hashcons.specs.declared.id.AnyId.TheVariants as id
use Rattle.hashcons.proofs.ListedNodes.{arrow_children, labels_node_is, arrow_node_is}
use Rattle.hashcons.proofs.store.Store.arrow_node.Goals as goal

pub arrow_places-requires : goal.arrow_places-requires
arrow_places-requires c =
    let r = c.requires in
    let p = arrow_children c.args.self.now r.store c.args.order.now.keys r.listing (id.Arrow c.args.a) r.stands
    c.view_arrow.result c.in-Zig.heights c.in-Zig.regs c.in-Zig.sings c.view_arrow.ensures.tree
    c.view_arrow.ensures.children c.in-Zig.is in
    p.regs.stand

pub arrow_places-requires-in-Zig : goal.arrow_places-requires-in-Zig
arrow_places-requires-in-Zig c =
    let r = c.requires in
    let p = arrow_children c.args.self.now r.store c.args.order.now.keys r.listing (id.Arrow c.args.a) r.stands
    c.view_arrow.result c.in-Zig.heights c.in-Zig.regs c.in-Zig.sings c.view_arrow.ensures.tree
    c.view_arrow.ensures.children c.in-Zig.is in
    p.sings.stand

pub returns-in_ok-arrow_places-in-Zig-2 : goal.returns-in_ok-arrow_places-in-Zig-2
returns-in_ok-arrow_places-in-Zig-2 c =
    let r = c.requires in
    let p = arrow_children c.args.self.now r.store c.args.order.now.keys r.listing (id.Arrow c.args.a) r.stands
    c.view_arrow.result c.in-Zig.heights c.in-Zig.regs c.in-Zig.sings c.view_arrow.ensures.tree
    c.view_arrow.ensures.children c.in-Zig.is in
    arrow_node_is c.args.self.now r.store c.args.order.now.keys r.listing (id.Arrow c.args.a) r.stands
    c.in-Zig.heights c.in-Zig.regs c.in-Zig.sings
    c.in_ok-numbers_of-in-Zig.field-0 c.in_ok-arrow_places-in-Zig.field-0 c.in_ok-arrow_places-in-Zig-2.field-0 p
    c.in_ok-numbers_of-in-Zig.ensures
    c.in_ok-arrow_places-in-Zig.ensures
    c.in_ok-arrow_places-in-Zig-2.ensures

pub returns-in-Zero : goal.returns-in-Zero
returns-in-Zero c =
    let r = c.requires in
    labels_node_is c.args.self.now r.store c.args.order.now.keys r.listing (id.Arrow c.args.a) r.stands
    c.view_arrow.result c.in-Zero.from c.in-Zero.to c.view_arrow.ensures.tree c.in-Zero.is
