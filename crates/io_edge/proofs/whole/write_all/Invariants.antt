use Rattle.std.proofs.Common.{length, take, ◌-◌, ◌≡◌, ◌≤◌, is_some}
use Rattle.std.specs.Io.KnownBytes.{Appends}
use Rattle.io_edge.proofs.whole.write_all.Given as goal

abbrev pub invariant-writes : goal.invariant-writes
invariant-writes g l = record {
  within : l.at ≤ length l.piece;
  appended : Appends (g.K.Sink.written l.fn.sink) (g.K.Sink.written l.sink) (take l.at l.piece);
  told : is_some (g.K.Sink.written l.sink) ≡ is_some (g.K.Sink.written l.fn.sink);
  later : g.K.Sink.faults l.fn.sink ≤ g.K.Sink.faults l.sink;
}

abbrev pub decreases-writes : goal.decreases-writes
decreases-writes g l = length l.piece - l.at
