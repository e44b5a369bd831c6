use Rattle.std.proofs.Common.{◌∙◌, ◌<◌, length, sym, arith}
use Rattle.std.proofs.lemmas.Result.{on_ok_weaker}
use Rattle.hashcons.specs.declared.id.AnyId.TheVariants as id
use Rattle.hashcons.proofs.ListingGrows.{visits-there, visits-insert, visits-more}
use Rattle.hashcons.proofs.FirstSlices.{entry_read}
use Rattle.hashcons.proofs.Completing.{diagram_visit, label_visit, visits_parts}
use Rattle.hashcons.proofs.store.Store.+visit_diagrams.Goals as goal

pub visit_diagram-returns-then-contains : goal.visit_diagram-returns-then-contains
visit_diagram-returns-then-contains t c =
    let r = c.requires in
    visits-there c.args.self.now r.store (id.Diagram c.args.d) r.of_store c.args.order.now.keys r.listing
    (sym c.contains.ensures ∙ c.if-contains.true)

pub visit_diagram-returns : goal.visit_diagram-returns
visit_diagram-returns t c =
    let r = c.requires in
    visits-insert c.args.self.now r.store (id.Diagram c.args.d) r.of_store c.args.order.now.keys
    c.visit_parts.new.order.keys c.insert.new.self.keys c.in_ok-visit_parts.ensures c.in_ok-insert.ensures.keys

pub visit_diagrams-loop-at-preserved : goal.visit_diagrams-loop-at-preserved
visit_diagrams-loop-at-preserved t c =
    let n = c.len-at-end.ensures in
    let l : c.loop-at.at < length c.args.ds.now = omega (arith, c.loop-at-test.true) in
    visits-more c.args.self.now c.args.self.now.diagrams c.args.order.now.keys c.loop-at.order.keys
    c.visit_diagram.new.order.keys c.args.ds.now c.loop-at.at c.at.result
    l (entry_read c.args.ds.now c.loop-at.at c.at.result l c.at.ensures) c.loop-at.invariant c.in_ok-visit_diagram.ensures

pub visit_parts-visit_diagrams-requires : goal.visit_parts-visit_diagrams-requires
visit_parts-visit_diagrams-requires t c =
    let r = c.requires in
    let v = diagram_visit c.args.self.now c.args.d c.view_diagram.result c.in-Zig.regs c.in-Zig.sings c.in-Zig.fwds
    c.in-Zig.bwds r.store r.of_store c.view_diagram.ensures.tree c.view_diagram.ensures.children c.in-Zig.is in
    let l = v.regs.low in
    (omega arith, (v.regs.one, (r.store, r.listing)))

pub visit_parts-visit_diagrams-requires-in-Zig : goal.visit_parts-visit_diagrams-requires-in-Zig
visit_parts-visit_diagrams-requires-in-Zig t c =
    let r = c.requires in
    let v = diagram_visit c.args.self.now c.args.d c.view_diagram.result c.in-Zig.regs c.in-Zig.sings c.in-Zig.fwds
    c.in-Zig.bwds r.store r.of_store c.view_diagram.ensures.tree c.view_diagram.ensures.children c.in-Zig.is in
    let l = v.sings.low in
    (omega arith, (v.sings.one, (r.store, c.in_ok-visit_diagrams-in-Zig.ensures.listing)))

pub visit_parts-visit_arrows-requires-clause-of_store : goal.visit_parts-visit_arrows-requires-clause-of_store
visit_parts-visit_arrows-requires-clause-of_store t c =
    let r = c.requires in
    let v = diagram_visit c.args.self.now c.args.d c.view_diagram.result c.in-Zig.regs c.in-Zig.sings c.in-Zig.fwds
    c.in-Zig.bwds r.store r.of_store c.view_diagram.ensures.tree c.view_diagram.ensures.children c.in-Zig.is in
    v.fwds.one

pub visit_parts-visit_arrows-requires-in-Zig-clause-of_store : goal.visit_parts-visit_arrows-requires-in-Zig-clause-of_store
visit_parts-visit_arrows-requires-in-Zig-clause-of_store t c =
    let r = c.requires in
    let v = diagram_visit c.args.self.now c.args.d c.view_diagram.result c.in-Zig.regs c.in-Zig.sings c.in-Zig.fwds
    c.in-Zig.bwds r.store r.of_store c.view_diagram.ensures.tree c.view_diagram.ensures.children c.in-Zig.is in
    v.bwds.one

pub visit_parts-returns-in-Zero : goal.visit_parts-returns-in-Zero
visit_parts-returns-in-Zero t c =
    label_visit c.args.self.now c.args.d c.view_diagram.result c.in-Zero.field-0 c.args.order.now.keys
    c.view_diagram.ensures.tree c.in-Zero.is c.requires.listing

pub visit_parts-returns-in_ok-visit_arrows-in-Zig :
    goal.visit_parts-returns-in_ok-visit_arrows-in-Zig
visit_parts-returns-in_ok-visit_arrows-in-Zig t c =
    let r = c.requires in
    let v = diagram_visit c.args.self.now c.args.d c.view_diagram.result c.in-Zig.regs c.in-Zig.sings c.in-Zig.fwds
    c.in-Zig.bwds r.store r.of_store c.view_diagram.ensures.tree c.view_diagram.ensures.children c.in-Zig.is in
    let one = c.in_ok-visit_diagrams-in-Zig.ensures in
    let two = c.in_ok-visit_diagrams-in-Zig-2.ensures in
    let three = c.in_ok-visit_arrows-in-Zig.ensures in
    let four = c.visit_arrows-in-Zig.ensures in
    on_ok_weaker c.visit_arrows-in-Zig.result
    (λ h. visits_parts c.args.self.now c.args.d _ _ _ _ v c.args.order.now.keys c.visit_diagrams.new.order.keys
    c.visit_diagrams-in-Zig.new.order.keys c.visit_arrows.new.order.keys c.visit_arrows-in-Zig.new.order.keys one
    two three h) four
