use Rattle.std.proofs.Common.{arith}
use Rattle.hashcons.proofs.FirstSlices.{first_slice}
use Rattle.hashcons.proofs.store.Store.label.Goals as goal

pub unreachable-requires : goal.unreachable-requires
unreachable-requires c =
    let f = first_slice c.args.self.now c.args.d c.view_diagram.result c.in-Zig.regs _ _ _
    c.view_diagram.ensures.store c.requires.of_store c.view_diagram.ensures.tree c.view_diagram.ensures.children
    c.in-Zig.is in
    omega (arith, f.above)
