use Rattle.std.proofs.Common.{[], ◌∷◌}
use Rattle.block_lists.proofs.Distinct.{among-head, slice-from_get}
use Rattle.hashcons.proofs.Entries.{gains-none, gained}
use Rattle.hashcons.proofs.tables.NodeLists.put_arrow_over.Goals as goal

pub returns-in_err-put_arrows-clause-gains : goal.returns-in_err-put_arrows-clause-gains
returns-in_err-put_arrows-clause-gains c = record {
  diagrams = gains-none c.args.self.now.diagrams [];
  arrows = c.put_arrows.ensures.gains (c.args.sings.now ∷ []) (among-head c.args.sings.now []);
  heights = c.put_heights.ensures.gains (c.args.heights.now ∷ []) (among-head c.args.heights.now []);
}

pub returns-clause-gains : goal.returns-clause-gains
returns-clause-gains c = record {
  diagrams = gains-none c.args.self.now.diagrams [];
  arrows = c.put_arrows.ensures.gains (c.args.sings.now ∷ []) (among-head c.args.sings.now []);
  heights = c.put_heights.ensures.gains (c.args.heights.now ∷ []) (among-head c.args.heights.now []);
}

pub returns-clause-shows : goal.returns-clause-shows
returns-clause-shows c = record {
  heights = c.in_ok-put_heights.ensures.held;
  regs = gained c.args.self.now.arrows c.put_arrows.new.lists (c.args.sings.now ∷ []) c.args.regs _
      (c.put_arrows.ensures.gains (c.args.sings.now ∷ []) (among-head c.args.sings.now []))
      (slice-from_get c.args.self.now.arrows c.args.regs [] c.requires);
  sings = c.in_ok-put_arrows.ensures.held;
}
