use Rattle.std.proofs.Common.{Some, ap, sym, ◌∙◌, [], get_or, ◌≡◌}
use Rattle.hashcons.specs.Entries.{arrow_view}
use Rattle.block_lists.proofs.Distinct.{slice-below, slice-map}
use Rattle.hashcons.proofs.Entries.{arrow_held}
use Rattle.hashcons.proofs.tables.Tables.regs_of.Goals as goal

pub unreachable-requires : goal.unreachable-requires
unreachable-requires c =
    c.requires.above _ _
    (slice-map (arrow_view c.args.self.now.lists) c.args.self.now.arrows.keys c.args.like c.index.result.now c.index.ensures
    ∙ ap (λ e. Some (arrow_view c.args.self.now.lists e)) c.in-Zero.is)

pub returns-clause-number : goal.returns-clause-number
returns-clause-number c =
    let l = c.args.self.now.lists in
    let h = arrow_held l c.args.self.now.diagrams.keys c.args.self.now.arrows.keys c.args.like c.index.result.now
    _ c.in-Zig.regs _ c.requires.held c.index.ensures c.in-Zig.is in
    slice-below l.arrows c.in-Zig.regs _ h.regs

pub returns-clause-list : goal.returns-clause-list
returns-clause-list c hs rs ss e =
    let l = c.args.self.now.lists in
    let f = sym (slice-map (arrow_view l) c.args.self.now.arrows.keys c.args.like c.index.result.now c.index.ensures
    ∙ ap (λ e. Some (arrow_view l e)) c.in-Zig.is) ∙ e in
    let g : get_or l.arrows c.in-Zig.regs [] ≡ rs = cc in
    g
