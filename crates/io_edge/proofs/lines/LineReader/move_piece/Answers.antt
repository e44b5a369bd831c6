use Rattle.std.proofs.Common.{arith, rules}
use Rattle.io_edge.proofs.Readers.{piece_moved}
use Rattle.io_edge.proofs.lines.LineReader.move_piece.Goals as goal

pub returns-clause-state : goal.returns-clause-state
returns-clause-state c =
    let s = c.self.inside in
    piece_moved c.args.self.now s.buffer.items s.at s.filled s.passed c.min-extent.result s.ended s.fault
    (omega arith) (omega arith) (search rules) c.self.view_is
