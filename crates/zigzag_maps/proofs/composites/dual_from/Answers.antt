use Rattle.std.proofs.Common.{arith}
use Rattle.zigzag_maps.proofs.CompositeSlices.{monotone_heights, dual_more, dual_done}
use Rattle.zigzag_maps.proofs.composites.dual_from.Goals as goal

pub loop-at-preserved : goal.loop-at-preserved
loop-at-preserved c =
    let m = monotone_heights _ (c.source_len-end.ensures.store.arrows c.args.a c.requires.of_store) c.requires.above in
    dual_more _ c.loop-at.at c.args.k m (omega arith) (omega arith)

pub returns-else-height-k : goal.returns-else-height-k
returns-else-height-k c =
    let m = monotone_heights _ (c.source_len-end.ensures.store.arrows c.args.a c.requires.of_store) c.requires.above in
    dual_done _ c.loop-at.at c.args.k m c.loop-at.invariant (λ l. omega arith)

pub returns-after-loop-at : goal.returns-after-loop-at
returns-after-loop-at c =
    let m = monotone_heights _ (c.source_len-end.ensures.store.arrows c.args.a c.requires.of_store) c.requires.above in
    dual_done _ c.loop-at.at c.args.k m c.loop-at.invariant (λ l. absurd (omega arith))
