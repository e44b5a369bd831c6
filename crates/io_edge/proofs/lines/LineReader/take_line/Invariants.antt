use Rattle.std.proofs.Common.{◌≡◌, ◌≤◌, ◌+◌, ◌-◌, true, length, is_some}
use Rattle.io_edge.specs.declared.limits.TheConstants.{LINE_LIMIT}
use Rattle.io_edge.specs.Lines.{holds_line}
use Rattle.io_edge.proofs.Readers.{IsMidLine}
use Rattle.io_edge.proofs.lines.LineReader.take_line.Given as goal

abbrev pub invariant-pieces : goal.invariant-pieces
invariant-pieces g l = record {
  mid : IsMidLine l.fn.self l.self (g.S.Source.left l.fn.source) (g.S.Source.left l.source) l.line.items;
  short : length l.line.items ≤ LINE_LIMIT;
  unread : l.fn.self.ended ≡ true → l.source ≡ l.fn.source;
  waits : holds_line l.fn.self ≡ true → l.source ≡ l.fn.source;
  told : is_some (g.S.Source.left l.source) ≡ is_some (g.S.Source.left l.fn.source);
  later : g.S.Source.faults l.fn.source ≤ g.S.Source.faults l.source;
}

-- a piece makes the line longer, and only the first may be empty
abbrev pub decreases-pieces : goal.decreases-pieces
decreases-pieces g l = LINE_LIMIT - length l.line.items + (1 - length l.self.pending)
