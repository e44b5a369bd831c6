use Rattle.std.proofs.Common.{◌∙◌, arith}
use Rattle.io_edge.proofs.Bytes.{appended_more, left_less, left_prefix}
use Rattle.io_edge.proofs.whole.write_all.Goals as goal

pub writes-preserved : goal.writes-preserved
writes-preserved g c = record {
  within = omega (arith, c.in-Ok.ensures.bound);
  appended =
      appended_more _ _ _ c.args.piece.now c.writes.at c.in-Ok.count (omega (arith, c.in-Ok.ensures.bound))
      c.writes.invariant.appended c.in-Ok.ensures.bytes;
  told = c.write.ensures.told ∙ c.writes.invariant.told;
  later = omega arith;
}

pub returns-in-Err-Failed-clause-err : goal.returns-in-Err-Failed-clause-err
returns-in-Err-Failed-clause-err g c =
    left_prefix _ _ _ c.args.piece.now c.writes.at c.writes.invariant.appended c.in-Err-Failed.ensures.bytes

pub returns-in-Err-NoMemory-clause-err : goal.returns-in-Err-NoMemory-clause-err
returns-in-Err-NoMemory-clause-err g c =
    left_prefix _ _ _ c.args.piece.now c.writes.at c.writes.invariant.appended c.in-Err-NoMemory.ensures.bytes

pub returns-in-Err-Failed-clause-less : goal.returns-in-Err-Failed-clause-less
returns-in-Err-Failed-clause-less g c e =
    left_less _ _ _ c.args.piece.now c.writes.at (omega arith) c.writes.invariant.appended c.in-Err-Failed.ensures.bytes
