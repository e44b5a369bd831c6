use Rattle.std.proofs.Common.{sym, ◌∙◌}
use Rattle.monotone_dual.proofs.Scans.{after_none, after_more}
use Rattle.monotone_dual.proofs.composite.composite_heights.Goals as goal

pub loop-height-init : goal.loop-height-init
loop-height-init c = c.new-heights.ensures ∙ sym (after_none c.args.g.now)

pub loop-height-preserved : goal.loop-height-preserved
loop-height-preserved c =
    let pushed = c.in_ok-push.ensures.ok in
    let more = after_more c.args.g.now c.args.f.now c.loop-height.height-index c.loop-height-test.true in
    let so_far = c.loop-height.invariant in
    cc
