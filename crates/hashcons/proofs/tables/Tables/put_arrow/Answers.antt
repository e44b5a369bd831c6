use Rattle.std.proofs.Common.{[], ◌∙◌, sym, subst}
use Rattle.hashcons.specs.Entries.{AreHeldBy, slice_parts, height_parts}
use Rattle.hashcons.specs.Nodes.{viewed_arrow}
use Rattle.hashcons.proofs.Entries.{PutsArrowView, puts_arrow_view, taken_back}
use Rattle.hashcons.proofs.tables.Tables.put_arrow.Goals as goal

puts : (c : goal.In-Ok) → PutsArrowView c.args.self.now.lists c.put_arrow_entry.new.lists c.args.self.now.diagrams.keys
    c.args.self.now.arrows.keys c.put_arrow_entry.new.arrows.keys (viewed_arrow c.args.node.now) c.in-Ok.index
puts c =
    puts_arrow_view c.args.self.now.lists c.put_arrow_entry.new.lists c.args.self.now.diagrams.keys
    c.args.self.now.arrows.keys c.put_arrow_entry.new.arrows.keys (viewed_arrow c.args.node.now) c.in-Ok.index
    c.requires (slice_parts (viewed_arrow c.args.node.now)) (λ q a. a) c.in-Ok.ensures.gains c.in-Ok.ensures.put

pub returns-in-Ok-clause-held : goal.returns-in-Ok-clause-held
returns-in-Ok-clause-held c = (puts c).held

pub returns-in-Ok-clause-put : goal.returns-in-Ok-clause-put
returns-in-Ok-clause-put c = (puts c).put

pub returns-in-Ok-clause-diagrams : goal.returns-in-Ok-clause-diagrams
returns-in-Ok-clause-diagrams c = (puts c).diagrams

pub returns-in-Err-clause-held : goal.returns-in-Err-clause-held
returns-in-Err-clause-held c =
    let v = viewed_arrow c.args.node.now in
    let back = c.truncate.ensures
    ∙ taken_back c.args.self.now.lists c.put_arrow_entry.new.lists [] (slice_parts v) (height_parts v) c.counts-counts.result
    c.in-Err.ensures.gains c.counts-counts.ensures in
    subst (λ l. AreHeldBy l c.args.self.now.diagrams.keys c.put_arrow_entry.new.arrows.keys) (sym back)
    (subst (λ xs. AreHeldBy c.args.self.now.lists c.args.self.now.diagrams.keys xs) (sym c.in-Err.ensures.err) c.requires)
