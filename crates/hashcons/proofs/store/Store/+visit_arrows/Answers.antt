use Rattle.std.proofs.Common.{◌∙◌, ◌<◌, length, sym, arith}
use Rattle.std.proofs.lemmas.Result.{on_ok_weaker}
use Rattle.hashcons.specs.declared.id.AnyId.TheVariants as id
use Rattle.hashcons.proofs.ListingGrows.{visits-there, visits-insert, visits-more}
use Rattle.hashcons.proofs.FirstSlices.{entry_read}
use Rattle.hashcons.proofs.Completing.{arrow_visit, labels_visit, visits_slices}
use Rattle.hashcons.proofs.store.Store.+visit_arrows.Goals as goal

pub visit_arrow-returns-then-contains : goal.visit_arrow-returns-then-contains
visit_arrow-returns-then-contains t c =
    let r = c.requires in
    visits-there c.args.self.now r.store (id.Arrow c.args.a) r.of_store c.args.order.now.keys r.listing
    (sym c.contains.ensures ∙ c.if-contains.true)

pub visit_arrow-returns : goal.visit_arrow-returns
visit_arrow-returns t c =
    let r = c.requires in
    visits-insert c.args.self.now r.store (id.Arrow c.args.a) r.of_store c.args.order.now.keys
    c.visit_slices.new.order.keys c.insert.new.self.keys c.in_ok-visit_slices.ensures c.in_ok-insert.ensures.keys

pub visit_arrows-loop-at-preserved : goal.visit_arrows-loop-at-preserved
visit_arrows-loop-at-preserved t c =
    let n = c.len-at-end.ensures in
    let l : c.loop-at.at < length c.args.arrows.now = omega (arith, c.loop-at-test.true) in
    visits-more c.args.self.now c.args.self.now.arrows c.args.order.now.keys c.loop-at.order.keys
    c.visit_arrow.new.order.keys c.args.arrows.now c.loop-at.at c.at.result
    l (entry_read c.args.arrows.now c.loop-at.at c.at.result l c.at.ensures) c.loop-at.invariant c.in_ok-visit_arrow.ensures

pub visit_slices-visit_arrows-requires : goal.visit_slices-visit_arrows-requires
visit_slices-visit_arrows-requires t c =
    let r = c.requires in
    let v = arrow_visit c.args.self.now c.args.a c.view_arrow.result c.in-Zig.heights c.in-Zig.regs c.in-Zig.sings
    r.store r.of_store c.view_arrow.ensures.tree c.view_arrow.ensures.children c.in-Zig.is in
    let l = v.regs.low in
    (omega arith, (v.regs.one, (r.store, r.listing)))

pub visit_slices-visit_arrows-requires-in-Zig : goal.visit_slices-visit_arrows-requires-in-Zig
visit_slices-visit_arrows-requires-in-Zig t c =
    let r = c.requires in
    let v = arrow_visit c.args.self.now c.args.a c.view_arrow.result c.in-Zig.heights c.in-Zig.regs c.in-Zig.sings
    r.store r.of_store c.view_arrow.ensures.tree c.view_arrow.ensures.children c.in-Zig.is in
    let l = v.sings.low in
    (omega arith, (v.sings.one, (r.store, c.in_ok-visit_arrows-in-Zig.ensures.listing)))

pub visit_slices-returns-in-Zero : goal.visit_slices-returns-in-Zero
visit_slices-returns-in-Zero t c =
    labels_visit c.args.self.now c.args.a c.view_arrow.result c.in-Zero.field-0 c.in-Zero.field-1
    c.args.order.now.keys c.view_arrow.ensures.tree c.in-Zero.is c.requires.listing

pub visit_slices-returns-in_ok-visit_arrows-in-Zig :
    goal.visit_slices-returns-in_ok-visit_arrows-in-Zig
visit_slices-returns-in_ok-visit_arrows-in-Zig t c =
    let r = c.requires in
    let v = arrow_visit c.args.self.now c.args.a c.view_arrow.result c.in-Zig.heights c.in-Zig.regs c.in-Zig.sings
    r.store r.of_store c.view_arrow.ensures.tree c.view_arrow.ensures.children c.in-Zig.is in
    let first = c.in_ok-visit_arrows-in-Zig.ensures in
    let last = c.visit_arrows-in-Zig.ensures in
    on_ok_weaker c.visit_arrows-in-Zig.result
    (λ h. visits_slices c.args.self.now c.args.a _ _ v c.args.order.now.keys c.visit_arrows.new.order.keys
    c.visit_arrows-in-Zig.new.order.keys first h) last
