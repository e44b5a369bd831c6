use Rattle.std.proofs.Common.{[], ◌∙◌, sym, subst}
use Rattle.hashcons.specs.Entries.{AreHeldBy, diagram_parts, leg_parts}
use Rattle.hashcons.specs.Nodes.{viewed_diagram}
use Rattle.hashcons.proofs.Entries.{PutsDiagramView, puts_diagram_view, taken_back}
use Rattle.hashcons.proofs.tables.Tables.put_diagram.Goals as goal

puts : (c : goal.In-Ok) → PutsDiagramView c.args.self.now.lists c.put_diagram_entry.new.lists c.args.self.now.diagrams.keys
    c.put_diagram_entry.new.diagrams.keys c.args.self.now.arrows.keys (viewed_diagram c.args.node.now) c.in-Ok.index
puts c =
    puts_diagram_view c.args.self.now.lists c.put_diagram_entry.new.lists c.args.self.now.diagrams.keys
    c.put_diagram_entry.new.diagrams.keys c.args.self.now.arrows.keys (viewed_diagram c.args.node.now) c.in-Ok.index
    c.requires c.in-Ok.ensures.gains c.in-Ok.ensures.put

pub returns-in-Ok-clause-held : goal.returns-in-Ok-clause-held
returns-in-Ok-clause-held c = (puts c).held

pub returns-in-Ok-clause-put : goal.returns-in-Ok-clause-put
returns-in-Ok-clause-put c = (puts c).put

pub returns-in-Ok-clause-arrows : goal.returns-in-Ok-clause-arrows
returns-in-Ok-clause-arrows c = (puts c).arrows

pub returns-in-Err-clause-held : goal.returns-in-Err-clause-held
returns-in-Err-clause-held c =
    let v = viewed_diagram c.args.node.now in
    let back = c.truncate.ensures
    ∙ taken_back c.args.self.now.lists c.put_diagram_entry.new.lists (diagram_parts v) (leg_parts v) [] c.counts-counts.result
    c.in-Err.ensures.gains c.counts-counts.ensures in
    subst (λ l. AreHeldBy l c.put_diagram_entry.new.diagrams.keys c.args.self.now.arrows.keys) (sym back)
    (subst (λ ds. AreHeldBy c.args.self.now.lists ds c.args.self.now.arrows.keys) (sym c.in-Err.ensures.err) c.requires)
