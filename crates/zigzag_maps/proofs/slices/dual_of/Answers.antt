use Rattle.std.proofs.Common.{◌+◌, ◌-◌, ◌/◌, ◌≤◌, inl, inr, arith}
use Rattle.std.proofs.lemmas.Bool.{cases_lt}
use Rattle.diagram_terms.specs.Dual.{dual}
use Rattle.diagram_terms.specs.Tree.{heights}
use Rattle.diagram_terms.proofs.Duals.{dual-le-length, lt-dual, dual-lt}
use Rattle.hashcons.specs.Contents.{arrow_at}
use Rattle.zigzag_maps.proofs.CompositeSlices.{monotone_heights}
use Rattle.zigzag_maps.proofs.slices.dual_of.Goals as goal

pub loop-low-init : goal.loop-low-init
loop-low-init c =
    let hs = heights (arrow_at c.args.store.now c.args.a) in
    let most = dual-le-length hs c.args.k in
    record { least = omega arith; most = omega arith; within = omega arith }

pub loop-low-preserved-then-height-k : goal.loop-low-preserved-then-height-k
loop-low-preserved-then-height-k c =
    let hs = heights (arrow_at c.args.store.now c.args.a) in
    let m = monotone_heights _ (c.source_len-high.ensures.store.arrows c.args.a c.requires.of_store) c.requires.above in
    let at = c.loop-low.low + (c.loop-low.high - c.loop-low.low) / 2 in
    let inv = c.loop-low.invariant in
    let below = lt-dual hs m at c.args.k (omega arith) (omega arith) in
    record { least = omega arith; most = inv.most; within = inv.within }

pub loop-low-preserved : goal.loop-low-preserved
loop-low-preserved c =
    let hs = heights (arrow_at c.args.store.now c.args.a) in
    let m = monotone_heights _ (c.source_len-high.ensures.store.arrows c.args.a c.requires.of_store) c.requires.above in
    let at = c.loop-low.low + (c.loop-low.high - c.loop-low.low) / 2 in
    let inv = c.loop-low.invariant in
    let most : dual hs c.args.k ≤ at = elim (cases_lt at (dual hs c.args.k)) [
      | inl l ↦ let below = dual-lt hs m at c.args.k l in absurd (omega arith)
      | inr l ↦ l
    ] in
    record { least = inv.least; most = most; within = omega arith }
