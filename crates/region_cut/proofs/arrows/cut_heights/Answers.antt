use Rattle.std.proofs.Common.{◌≡◌, ◌+◌, ◌-◌, suc, arith}
use Rattle.diagram_terms.specs.Tree.{heights}
use Rattle.hashcons.specs.Contents.{arrow_at}
use Rattle.region_cut.specs.RegionValues.{region_of}
use Rattle.region_cut.specs.CutTrees.{cut_height}
use Rattle.region_cut.proofs.CutSteps.{heights_more}
use Rattle.region_cut.proofs.SlicesOver.{heights_within, rises, from_height}
use Rattle.region_cut.proofs.PreimageSteps.{arrow_above}
use Rattle.region_cut.proofs.arrows.cut_heights.Goals as goal

pub overflow_sub-i-end : goal.overflow_sub-i-end
overflow_sub-i-end c =
    let r = c.requires in
    let m = rises _ _ _ _ r.over.over in
    omega (arith, r.first, r.last)

pub height-requires-clause-above : goal.height-requires-clause-above
height-requires-clause-above c = arrow_above _ _ c.requires.over.over.shape

pub height-requires-clause-within : goal.height-requires-clause-within
height-requires-clause-within c =
    let r = c.requires in
    let n = heights_within _ _ _ _ r.over.over in
    omega (arith, r.first, r.last)

pub overflow_sub-height : goal.overflow_sub-height
overflow_sub-height c =
    let r = c.requires in
    let n = from_height _ _ _ _ r.over.over (c.args.first + c.loop-i.i) (omega (arith, r.first)) (omega (arith, r.last)) in
    omega (arith, c.height.ensures, c.from-from.ensures c.args.below)

pub loop-i-preserved : goal.loop-i-preserved
unfolding heights cut_height
loop-i-preserved c =
    let W = region_of (suc c.args.below) c.args.region.now in
    let from = c.from-from.ensures c.args.below in
    let is : c.height.result - c.from-from.result ≡ cut_height c.args.below (arrow_at c.args.store.now c.args.f) W (c.args.first + c.loop-i.i) = (λ i. c.height.ensures i - from i) in
    rw c.in_ok-push.ensures.ok (heights_more c.args.below c.args.first c.loop-i.i (c.args.first + c.loop-i.i) (arrow_at c.args.store.now c.args.f) W _ _ c.loop-i.invariant (omega arith) is)
