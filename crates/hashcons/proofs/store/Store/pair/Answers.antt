use Rattle.std.proofs.Common.{arith}
use Rattle.hashcons.proofs.FirstSlices.{first_arrow}
use Rattle.hashcons.proofs.store.Store.pair.Goals as goal

pub unreachable-requires : goal.unreachable-requires
unreachable-requires c =
    let f = first_arrow c.args.self.now c.args.a c.view_arrow.result _ c.in-Zig.regs _ c.view_arrow.ensures.store
    c.requires.of_store c.view_arrow.ensures.tree c.view_arrow.ensures.children c.in-Zig.is in
    omega (arith, f.above)
