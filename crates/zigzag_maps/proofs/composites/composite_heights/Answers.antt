use Rattle.std.proofs.Common.{sym, ◌∙◌, ap, get_or, arith}
use Rattle.diagram_terms.specs.Tree.{heights}
use Rattle.hashcons.specs.Contents.{arrow_at}
use Rattle.zigzag_maps.proofs.CompositeSlices.{after-none, after-more}
use Rattle.zigzag_maps.proofs.composites.composite_heights.Goals as goal

pub loop-i-init : goal.loop-i-init
loop-i-init c = c.new-heights.ensures.items ∙ sym (after-none _)

pub loop-i-preserved : goal.loop-i-preserved
loop-i-preserved c =
    let gs = heights (arrow_at c.args.store.now c.args.g) in
    let fs = heights (arrow_at c.args.store.now c.args.f) in
    let pushed = c.in_ok-push.ensures.ok in
    let more = after-more gs fs c.loop-i.i c.height-in-loop-i.result (omega arith)
    (c.height-in-loop-i.ensures ∙ ap (λ n. get_or gs n 0) c.height.ensures) in
    let so_far = c.loop-i.invariant in
    cc
