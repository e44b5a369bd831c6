use Rattle.std.proofs.Common.{arith}
use Rattle.hashcons.proofs.FirstSlices.{entry_read, first_slice}
use Rattle.hashcons.proofs.store.Store.+diagram_dim.Goals as goal

pub at-requires : goal.at-requires
at-requires t c =
    let f = first_slice c.args.self.now c.args.d c.view_diagram.result c.in-Zig.regs _ _ _
    c.view_diagram.ensures.store c.requires.of_store c.view_diagram.ensures.tree c.view_diagram.ensures.children
    c.in-Zig.is in
    f.nonempty

pub diagram_dim-requires : goal.diagram_dim-requires
diagram_dim-requires t c =
    let f = first_slice c.args.self.now c.args.d c.view_diagram.result c.in-Zig.regs _ _ _
    c.view_diagram.ensures.store c.requires.of_store c.view_diagram.ensures.tree c.view_diagram.ensures.children
    c.in-Zig.is in
    let e = entry_read _ 0 c.at.result f.nonempty c.at.ensures in
    (omega (arith, f.dimension c.at.result e), f.of_store c.at.result e)

pub overflow_add-result : goal.overflow_add-result
overflow_add-result t c =
    let f = first_slice c.args.self.now c.args.d c.view_diagram.result c.in-Zig.regs _ _ _
    c.view_diagram.ensures.store c.requires.of_store c.view_diagram.ensures.tree c.view_diagram.ensures.children
    c.in-Zig.is in
    let e = entry_read _ 0 c.at.result f.nonempty c.at.ensures in
    let low = c.view_diagram.ensures.store.diagram_dims c.args.d c.requires.of_store in
    omega (arith, f.dimension c.at.result e)

pub returns-in-Zig-clause-dim : goal.returns-in-Zig-clause-dim
returns-in-Zig-clause-dim t c =
    let f = first_slice c.args.self.now c.args.d c.view_diagram.result c.in-Zig.regs _ _ _
    c.view_diagram.ensures.store c.requires.of_store c.view_diagram.ensures.tree c.view_diagram.ensures.children
    c.in-Zig.is in
    let e = entry_read _ 0 c.at.result f.nonempty c.at.ensures in
    omega (arith, f.dimension c.at.result e)
