use Rattle.std.proofs.Common.{◌≡◌, ◌≤◌, ◌+◌, ◌++◌, length, take, arith, length-append, length-take, refl}
use Rattle.std.proofs.KnownBytes.{Consumes-trans}
use Rattle.io_edge.proofs.whole.read_all.Goals as goal

pub returns-then-limit-len-clause-bytes : goal.returns-then-limit-len-clause-bytes
returns-then-limit-len-clause-bytes g c =
    let so_far = c.reads.bytes.items in
    let more = take c.in-Ok.count c.read.new.into in
    let long : length (so_far ++ more) ≡ c.args.limit + 1 =
    omega (arith, length-append so_far more, length-take c.min-room.result c.reads.chunk, c.in-Ok.ensures.bound) in
    record {
      taken = so_far ++ more;
      consumed = Consumes-trans _ _ _ _ _ c.reads.invariant.consumed c.in-Ok.ensures.bytes.0;
      whole = tt;
      too_long = λ _. long;
      within = λ other. absurd (other refl);
    }

pub returns-then-is_err-clause-bytes : goal.returns-then-is_err-clause-bytes
returns-then-is_err-clause-bytes g c =
    let so_far = c.reads.bytes.items in
    let more = take c.in-Ok.count c.read.new.into in
    let short : length (so_far ++ more) ≤ c.args.limit =
    omega (arith, length-append so_far more, length-take c.min-room.result c.reads.chunk, c.in-Ok.ensures.bound) in
    record {
      taken = so_far ++ more;
      consumed = Consumes-trans _ _ _ _ _ c.reads.invariant.consumed c.in-Ok.ensures.bytes.0;
      whole = tt;
      too_long = λ e. cc;
      within = λ _. short;
    }
