use Rattle.std.proofs.Common.{[], ◌∷◌}
use Rattle.hashcons.proofs.Entries.{gains-none, gains-trans, gained, gains_diagram, among_first, among_second}
use Rattle.hashcons.proofs.tables.NodeLists.put_diagram.Goals as goal

pub returns-in_err-put_diagrams-in-Zig-2-clause-gains : goal.returns-in_err-put_diagrams-in-Zig-2-clause-gains
returns-in_err-put_diagrams-in-Zig-2-clause-gains c =
    let rs = c.in-Zig.regs.items in
    let ss = c.in-Zig.sings.items in
    gains_diagram c.args.self.now c.args.node.now c.in-Zig.regs c.in-Zig.sings c.in-Zig.fwds c.in-Zig.bwds c.in-Zig.is
    c.put_diagrams-in-Zig.new.lists c.args.self.now.arrows
    (gains-trans c.args.self.now.diagrams c.put_diagrams.new.lists c.put_diagrams-in-Zig.new.lists (rs ∷ ss ∷ [])
    (c.put_diagrams.ensures.gains (rs ∷ ss ∷ []) (among_first rs ss _ c.as_slice.ensures))
    (c.put_diagrams-in-Zig.ensures.gains (rs ∷ ss ∷ []) (among_second rs ss _ c.as_slice-in-Zig.ensures)))
    (gains-none c.args.self.now.arrows _)

pub returns-in_err-put_arrows-in-Zig-clause-gains : goal.returns-in_err-put_arrows-in-Zig-clause-gains
returns-in_err-put_arrows-in-Zig-clause-gains c =
    let rs = c.in-Zig.regs.items in
    let ss = c.in-Zig.sings.items in
    let fs = c.in-Zig.fwds.items in
    let bs = c.in-Zig.bwds.items in
    gains_diagram c.args.self.now c.args.node.now c.in-Zig.regs c.in-Zig.sings c.in-Zig.fwds c.in-Zig.bwds c.in-Zig.is
    c.put_diagrams-in-Zig.new.lists c.put_arrows.new.lists
    (gains-trans c.args.self.now.diagrams c.put_diagrams.new.lists c.put_diagrams-in-Zig.new.lists (rs ∷ ss ∷ [])
    (c.put_diagrams.ensures.gains (rs ∷ ss ∷ []) (among_first rs ss _ c.as_slice.ensures))
    (c.put_diagrams-in-Zig.ensures.gains (rs ∷ ss ∷ []) (among_second rs ss _ c.as_slice-in-Zig.ensures)))
    (c.put_arrows.ensures.gains (fs ∷ bs ∷ []) (among_first fs bs _ c.as_slice-in-Zig-2.ensures))

pub returns-in_err-put_arrows-in-Zig-2-clause-gains : goal.returns-in_err-put_arrows-in-Zig-2-clause-gains
returns-in_err-put_arrows-in-Zig-2-clause-gains c =
    let rs = c.in-Zig.regs.items in
    let ss = c.in-Zig.sings.items in
    let fs = c.in-Zig.fwds.items in
    let bs = c.in-Zig.bwds.items in
    gains_diagram c.args.self.now c.args.node.now c.in-Zig.regs c.in-Zig.sings c.in-Zig.fwds c.in-Zig.bwds c.in-Zig.is
    c.put_diagrams-in-Zig.new.lists c.put_arrows-in-Zig.new.lists
    (gains-trans c.args.self.now.diagrams c.put_diagrams.new.lists c.put_diagrams-in-Zig.new.lists (rs ∷ ss ∷ [])
    (c.put_diagrams.ensures.gains (rs ∷ ss ∷ []) (among_first rs ss _ c.as_slice.ensures))
    (c.put_diagrams-in-Zig.ensures.gains (rs ∷ ss ∷ []) (among_second rs ss _ c.as_slice-in-Zig.ensures)))
    (gains-trans c.args.self.now.arrows c.put_arrows.new.lists c.put_arrows-in-Zig.new.lists (fs ∷ bs ∷ [])
    (c.put_arrows.ensures.gains (fs ∷ bs ∷ []) (among_first fs bs _ c.as_slice-in-Zig-2.ensures))
    (c.put_arrows-in-Zig.ensures.gains (fs ∷ bs ∷ []) (among_second fs bs _ c.as_slice-in-Zig-3.ensures)))

pub returns-in_ok-put_arrows-in-Zig-2-clause-gains : goal.returns-in_ok-put_arrows-in-Zig-2-clause-gains
returns-in_ok-put_arrows-in-Zig-2-clause-gains c =
    let rs = c.in-Zig.regs.items in
    let ss = c.in-Zig.sings.items in
    let fs = c.in-Zig.fwds.items in
    let bs = c.in-Zig.bwds.items in
    gains_diagram c.args.self.now c.args.node.now c.in-Zig.regs c.in-Zig.sings c.in-Zig.fwds c.in-Zig.bwds c.in-Zig.is
    c.put_diagrams-in-Zig.new.lists c.put_arrows-in-Zig.new.lists
    (gains-trans c.args.self.now.diagrams c.put_diagrams.new.lists c.put_diagrams-in-Zig.new.lists (rs ∷ ss ∷ [])
    (c.put_diagrams.ensures.gains (rs ∷ ss ∷ []) (among_first rs ss _ c.as_slice.ensures))
    (c.put_diagrams-in-Zig.ensures.gains (rs ∷ ss ∷ []) (among_second rs ss _ c.as_slice-in-Zig.ensures)))
    (gains-trans c.args.self.now.arrows c.put_arrows.new.lists c.put_arrows-in-Zig.new.lists (fs ∷ bs ∷ [])
    (c.put_arrows.ensures.gains (fs ∷ bs ∷ []) (among_first fs bs _ c.as_slice-in-Zig-2.ensures))
    (c.put_arrows-in-Zig.ensures.gains (fs ∷ bs ∷ []) (among_second fs bs _ c.as_slice-in-Zig-3.ensures)))

pub returns-in_ok-put_arrows-in-Zig-2-clause-shows : goal.returns-in_ok-put_arrows-in-Zig-2-clause-shows
returns-in_ok-put_arrows-in-Zig-2-clause-shows c =
    let rs = c.in-Zig.regs.items in
    let ss = c.in-Zig.sings.items in
    let fs = c.in-Zig.fwds.items in
    let bs = c.in-Zig.bwds.items in
    let second = c.put_diagrams-in-Zig.ensures.gains (rs ∷ ss ∷ []) (among_second rs ss _ c.as_slice-in-Zig.ensures) in
    let fourth = c.put_arrows-in-Zig.ensures.gains (fs ∷ bs ∷ []) (among_second fs bs _ c.as_slice-in-Zig-3.ensures) in
    rw c.in-Zig.is (record {
      regs = gained c.put_diagrams.new.lists c.put_diagrams-in-Zig.new.lists (rs ∷ ss ∷ []) _ rs second
          (rw c.as_slice.ensures at c.in_ok-put_diagrams-in-Zig.ensures.held);
      sings = rw c.as_slice-in-Zig.ensures at c.in_ok-put_diagrams-in-Zig-2.ensures.held;
      fwds = gained c.put_arrows.new.lists c.put_arrows-in-Zig.new.lists (fs ∷ bs ∷ []) _ fs fourth
          (rw c.as_slice-in-Zig-2.ensures at c.in_ok-put_arrows-in-Zig.ensures.held);
      bwds = rw c.as_slice-in-Zig-3.ensures at c.in_ok-put_arrows-in-Zig-2.ensures.held;
    })
