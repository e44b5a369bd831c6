use Rattle.std.proofs.Common.{◌-◌, ◌≤◌}
use Rattle.io_edge.specs.declared.limits.TheConstants.{INPUT_LIMIT}
use Rattle.hom_run.proofs.Answerings.{IsAnswering}
use Rattle.hom_run.proofs.replay.replay.Given as goal

abbrev pub invariant-lines : goal.invariant-lines
invariant-lines g l = record {
  answering : IsAnswering (g.S.Source.left l.fn.input) (g.S.Source.left l.input) l.reader l.session.session l.good
      (g.K.Sink.written l.fn.output) (g.K.Sink.written l.output);
  input_later : g.S.Source.faults l.fn.input ≤ g.S.Source.faults l.input;
  output_later : g.K.Sink.faults l.fn.output ≤ g.K.Sink.faults l.output;
}

abbrev pub decreases-lines : goal.decreases-lines
decreases-lines g l = INPUT_LIMIT - l.reader.passed
