use Rattle.std.proofs.Common.{[], ◌∷◌, get_or, ◌∙◌, sym, subst}
use Rattle.hashcons.specs.Entries.{AreHeldBy}
use Rattle.hashcons.specs.declared.view.ArrowView.TheVariants as shown
use Rattle.block_lists.proofs.Distinct.{among-tail}
use Rattle.hashcons.proofs.Entries.{PutsArrowView, puts_arrow_view, taken_back}
use Rattle.hashcons.proofs.tables.Tables.put_arrow_like.Goals as goal

puts : (c : goal.In-Ok) → PutsArrowView c.args.self.now.lists c.put_entry_over.new.lists c.args.self.now.diagrams.keys
    c.args.self.now.arrows.keys c.put_entry_over.new.arrows.keys (shown.Zig c.args.heights.now (get_or c.args.self.now.lists.arrows c.regs_of-regs.result []) c.args.sings.now) c.in-Ok.index
puts c =
    puts_arrow_view c.args.self.now.lists c.put_entry_over.new.lists c.args.self.now.diagrams.keys
    c.args.self.now.arrows.keys c.put_entry_over.new.arrows.keys (shown.Zig c.args.heights.now (get_or c.args.self.now.lists.arrows c.regs_of-regs.result []) c.args.sings.now) c.in-Ok.index
    c.requires.held (c.args.sings.now ∷ []) (λ q a. among-tail _ (c.args.sings.now ∷ []) q a) c.in-Ok.ensures.gains c.in-Ok.ensures.put

pub returns-in-Ok-clause-held : goal.returns-in-Ok-clause-held
returns-in-Ok-clause-held c = (puts c).held

pub returns-in-Ok-clause-put : goal.returns-in-Ok-clause-put
returns-in-Ok-clause-put c hs rs ss e =
    let l = c.regs_of-regs.ensures.list hs rs ss e in
    rw l at (puts c).put

pub returns-in-Ok-clause-diagrams : goal.returns-in-Ok-clause-diagrams
returns-in-Ok-clause-diagrams c = (puts c).diagrams

pub returns-in-Err-clause-held : goal.returns-in-Err-clause-held
returns-in-Err-clause-held c =
    let back = c.truncate.ensures
    ∙ taken_back c.args.self.now.lists c.put_entry_over.new.lists [] (c.args.sings.now ∷ []) (c.args.heights.now ∷ []) c.counts-counts.result
    c.in-Err.ensures.gains c.counts-counts.ensures in
    subst (λ l. AreHeldBy l c.args.self.now.diagrams.keys c.put_entry_over.new.arrows.keys) (sym back)
    (subst (λ xs. AreHeldBy c.args.self.now.lists c.args.self.now.diagrams.keys xs) (sym c.in-Err.ensures.err) c.requires.held)
