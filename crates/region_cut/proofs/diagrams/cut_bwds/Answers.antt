use Rattle.std.proofs.Common.{rules, ◌+◌, suc, ap, ◌∙◌, arith}
use Rattle.diagram_terms.specs.Shape.{bwd_at}
use Rattle.hashcons.specs.Contents.{diagram_at}
use Rattle.hashcons.proofs.Growth.{Grows-trans, makes-more}
use Rattle.region_cut.specs.RegionValues.{region_of}
use Rattle.region_cut.proofs.DiagramSteps.{interval, interval_end, bwd_step}
use Rattle.region_cut.proofs.PreimageSteps.{sing_is, sings_count}
use Rattle.region_cut.proofs.diagrams.cut_bwds.Goals as goal

pub arrow_cut-requires-clause-over : goal.arrow_cut-requires-clause-over
arrow_cut-requires-clause-over c =
    let r = c.requires in
    let old = c.args.store.now in
    let d = c.args.below in
    let u = diagram_at old c.args.d in
    let W = region_of (suc d) c.args.region.now in
    let h = r.has in
    let from = c.from-from.ensures d in
    let to = c.to.ensures d in
    let w = interval _ _ _ h in
    let l = interval_end _ _ _ h in
    let e = c.sings-inner.ensures d in
    let n = sings_count d c.args.region.now _ _ e h.closed.region in
    let now = c.loop-k.store in
    let inv = c.loop-k.invariant in
    let same = inv.grows.diagram_trees c.args.d r.of_store in
    let k = W.from + c.loop-k.k in
    let at = sing_is d c.args.region.now _ c.loop-k.k k c.index-inner-k.result e (omega arith) (omega arith) c.index-inner-k.is in
    let step = bwd_step d u (diagram_at now c.args.d) W h same k _ _ (omega arith) (omega arith) (c.bwd-leg.ensures.tree ∙ ap (λ m. bwd_at (diagram_at now c.args.d) (m + c.loop-k.k)) from) at in
    step.over

pub loop-k-preserved : goal.loop-k-preserved
loop-k-preserved c =
    let r = c.requires in
    let old = c.args.store.now in
    let d = c.args.below in
    let u = diagram_at old c.args.d in
    let W = region_of (suc d) c.args.region.now in
    let h = r.has in
    let from = c.from-from.ensures d in
    let to = c.to.ensures d in
    let w = interval _ _ _ h in
    let l = interval_end _ _ _ h in
    let e = c.sings-inner.ensures d in
    let n = sings_count d c.args.region.now _ _ e h.closed.region in
    let now = c.loop-k.store in
    let inv = c.loop-k.invariant in
    let same = inv.grows.diagram_trees c.args.d r.of_store in
    let k = W.from + c.loop-k.k in
    let at = sing_is d c.args.region.now _ c.loop-k.k k c.index-inner-k.result e (omega arith) (omega arith) c.index-inner-k.is in
    let step = bwd_step d u (diagram_at now c.args.d) W h same k _ _ (omega arith) (omega arith) (c.bwd-leg.ensures.tree ∙ ap (λ m. bwd_at (diagram_at now c.args.d) (m + c.loop-k.k)) from) at in
    let made = c.in_ok-arrow_cut.ensures in
    record {
      grows = Grows-trans _ _ _ inv.grows made.grows;
      gathers = rw c.in_ok-push.ensures.ok (makes-more _ _ _ _ _ _ _ inv.gathers made step.is);
    }

pub returns-in_err-push : goal.returns-in_err-push
returns-in_err-push c =
    let g = Grows-trans _ _ _ c.loop-k.invariant.grows c.arrow_cut.ensures.grows in
    search rules
