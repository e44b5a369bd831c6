use Rattle.std.proofs.Common.{arith}
use Rattle.store_bench.proofs.put.Goals as goal

pub returns : goal.returns
returns c =
    let held = c.in_ok-ids.ensures.ids in
    record { of_store = λ i l. let e = held.len in held.of_store i (omega arith) }
