use Rattle.std.proofs.Common.{[], ◌∷◌}
use Rattle.block_lists.proofs.Distinct.{get-from_slice}
use Rattle.hashcons.proofs.Entries.{gains-trans, gains_second, among_first}
use Rattle.hashcons.proofs.tables.NodeLists.put_arrow.Goals as goal

pub returns-in_ok-regs-in-Zig-clause-gains : goal.returns-in_ok-regs-in-Zig-clause-gains
returns-in_ok-regs-in-Zig-clause-gains c =
    let rs = c.in-Zig.regs.items in
    let ss = c.in-Zig.sings.items in
    let g = c.put_arrow_over.ensures.gains in
    rw c.in-Zig.is (record {
      diagrams = g.diagrams;
      arrows = gains-trans c.args.self.now.arrows c.put_arrows.new.lists c.put_arrow_over.new.self.arrows (rs ∷ ss ∷ [])
          (c.put_arrows.ensures.gains (rs ∷ ss ∷ []) (among_first rs ss _ c.as_slice.ensures))
          (gains_second c.put_arrows.new.lists c.put_arrow_over.new.self.arrows rs ss
          (rw c.as_slice-in-Zig-2.ensures at g.arrows));
      heights = rw c.as_slice-in-Zig.ensures at g.heights;
    })

pub returns-in_ok-regs-in-Zig-clause-shows : goal.returns-in_ok-regs-in-Zig-clause-shows
returns-in_ok-regs-in-Zig-clause-shows c =
    let held = rw c.as_slice.ensures at c.in_ok-regs-in-Zig.ensures.held in
    let e = get-from_slice c.put_arrows.new.lists c.in_ok-regs-in-Zig.regs c.in-Zig.regs.items [] held in
    rw c.in-Zig.is
    (rw (c.as_slice-in-Zig.ensures, c.as_slice-in-Zig-2.ensures, e) at c.put_arrow_over.ensures.shows)
