use Rattle.std.proofs.Common.{arith}
use Rattle.hashcons.proofs.FirstSlices.{entry_read, first_arrow}
use Rattle.hashcons.proofs.store.Store.+arrow_dim.Goals as goal

pub at-requires : goal.at-requires
at-requires t c =
    let f = first_arrow c.args.self.now c.args.a c.view_arrow.result _ c.in-Zig.regs _ c.view_arrow.ensures.store
    c.requires.of_store c.view_arrow.ensures.tree c.view_arrow.ensures.children c.in-Zig.is in
    f.nonempty

pub arrow_dim-requires : goal.arrow_dim-requires
arrow_dim-requires t c =
    let f = first_arrow c.args.self.now c.args.a c.view_arrow.result _ c.in-Zig.regs _ c.view_arrow.ensures.store
    c.requires.of_store c.view_arrow.ensures.tree c.view_arrow.ensures.children c.in-Zig.is in
    let e = entry_read _ 0 c.at.result f.nonempty c.at.ensures in
    (omega (arith, f.dimension c.at.result e), f.of_store c.at.result e)

pub overflow_add-result : goal.overflow_add-result
overflow_add-result t c =
    let f = first_arrow c.args.self.now c.args.a c.view_arrow.result _ c.in-Zig.regs _ c.view_arrow.ensures.store
    c.requires.of_store c.view_arrow.ensures.tree c.view_arrow.ensures.children c.in-Zig.is in
    let e = entry_read _ 0 c.at.result f.nonempty c.at.ensures in
    let low = c.view_arrow.ensures.store.arrow_dims c.args.a c.requires.of_store in
    omega (arith, f.dimension c.at.result e)

pub returns-in-Zig-clause-dim : goal.returns-in-Zig-clause-dim
returns-in-Zig-clause-dim t c =
    let f = first_arrow c.args.self.now c.args.a c.view_arrow.result _ c.in-Zig.regs _ c.view_arrow.ensures.store
    c.requires.of_store c.view_arrow.ensures.tree c.view_arrow.ensures.children c.in-Zig.is in
    let e = entry_read _ 0 c.at.result f.nonempty c.at.ensures in
    omega (arith, f.dimension c.at.result e)
