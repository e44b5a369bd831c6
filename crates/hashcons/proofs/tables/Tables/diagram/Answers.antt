use Rattle.std.proofs.Common.{Some, ap, ◌∙◌}
use Rattle.hashcons.specs.Entries.{diagram_view}
use Rattle.block_lists.proofs.Distinct.{slice-below, slice-map}
use Rattle.hashcons.proofs.Entries.{diagram_held}
use Rattle.hashcons.proofs.tables.Tables.diagram.Goals as goal

pub new-requires : goal.new-requires
new-requires c =
    let l = c.args.self.now.lists in
    let h = diagram_held l c.args.self.now.diagrams.keys c.args.self.now.arrows.keys c.args.index c.index.result.now
    c.in-Zig.regs c.in-Zig.sings c.in-Zig.fwds c.in-Zig.bwds c.requires.held c.index.ensures c.in-Zig.is in
    slice-below l.diagrams c.in-Zig.regs _ h.regs

pub new-requires-in-Zig : goal.new-requires-in-Zig
new-requires-in-Zig c =
    let l = c.args.self.now.lists in
    let h = diagram_held l c.args.self.now.diagrams.keys c.args.self.now.arrows.keys c.args.index c.index.result.now
    c.in-Zig.regs c.in-Zig.sings c.in-Zig.fwds c.in-Zig.bwds c.requires.held c.index.ensures c.in-Zig.is in
    slice-below l.diagrams c.in-Zig.sings _ h.sings

pub new-requires-in-Zig-2 : goal.new-requires-in-Zig-2
new-requires-in-Zig-2 c =
    let l = c.args.self.now.lists in
    let h = diagram_held l c.args.self.now.diagrams.keys c.args.self.now.arrows.keys c.args.index c.index.result.now
    c.in-Zig.regs c.in-Zig.sings c.in-Zig.fwds c.in-Zig.bwds c.requires.held c.index.ensures c.in-Zig.is in
    slice-below l.arrows c.in-Zig.fwds _ h.fwds

pub new-requires-in-Zig-3 : goal.new-requires-in-Zig-3
new-requires-in-Zig-3 c =
    let l = c.args.self.now.lists in
    let h = diagram_held l c.args.self.now.diagrams.keys c.args.self.now.arrows.keys c.args.index c.index.result.now
    c.in-Zig.regs c.in-Zig.sings c.in-Zig.fwds c.in-Zig.bwds c.requires.held c.index.ensures c.in-Zig.is in
    slice-below l.arrows c.in-Zig.bwds _ h.bwds

pub returns-in-Zero : goal.returns-in-Zero
returns-in-Zero c =
    slice-map (diagram_view c.args.self.now.lists) c.args.self.now.diagrams.keys c.args.index c.index.result.now c.index.ensures
    ∙ ap (λ e. Some (diagram_view c.args.self.now.lists e)) c.in-Zero.is

pub returns-in-Zig : goal.returns-in-Zig
returns-in-Zig c =
    rw (c.new.ensures, c.new-in-Zig.ensures, c.new-in-Zig-2.ensures, c.new-in-Zig-3.ensures)
    (slice-map (diagram_view c.args.self.now.lists) c.args.self.now.diagrams.keys c.args.index c.index.result.now c.index.ensures
    ∙ ap (λ e. Some (diagram_view c.args.self.now.lists e)) c.in-Zig.is)
