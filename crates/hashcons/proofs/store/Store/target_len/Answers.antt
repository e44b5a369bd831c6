use Rattle.std.proofs.Common.{arith}
use Rattle.hashcons.proofs.FirstSlices.{first_arrow}
use Rattle.hashcons.proofs.store.Store.target_len.Goals as goal

pub overflow_sub-result : goal.overflow_sub-result
overflow_sub-result c =
    let f = first_arrow c.args.self.now c.args.a c.view_arrow.result _ c.in-Zig.regs _ c.view_arrow.ensures.store
    c.requires.of_store c.view_arrow.ensures.tree c.view_arrow.ensures.children c.in-Zig.is in
    let n = f.nonempty in
    let v = c.len.ensures in
    omega arith

pub returns-clause-length : goal.returns-clause-length
returns-clause-length c =
    let f = first_arrow c.args.self.now c.args.a c.view_arrow.result _ c.in-Zig.regs _ c.view_arrow.ensures.store
    c.requires.of_store c.view_arrow.ensures.tree c.view_arrow.ensures.children c.in-Zig.is in
    let n = f.nonempty in
    let v = c.len.ensures in
    omega (arith, f.count)
