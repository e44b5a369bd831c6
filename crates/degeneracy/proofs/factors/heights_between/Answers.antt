use Rattle.std.proofs.Common.{◌<◌, [], ◌∷◌, ◌++◌, length, get_or, sym, ap, ◌∙◌, arith}
use Rattle.diagram_terms.specs.Tree.{heights}
use Rattle.diagram_terms.specs.Dual.{dual}
use Rattle.diagram_terms.proofs.Duals.{dual-le-length, dual_mono}
use Rattle.hashcons.specs.Contents.{arrow_at}
use Rattle.degeneracy.specs.FactorTrees.{is_hit}
use Rattle.zigzag_maps.proofs.CompositeSlices.{monotone_heights}
use Rattle.degeneracy.proofs.FactorsInStore.{not_hit, one_hit, none_hit, hit_more, between_more}
use Rattle.degeneracy.proofs.factors.heights_between.Goals as goal
use Rattle.degeneracy.proofs.factors.heights_between.Goals.{then-at-end-via-then-at-end, then-at-end-via-else-at-end+then-height-k}

pub height-requires-clause-within : goal.height-requires-clause-within
height-requires-clause-within c =
    let l = dual-le-length (heights (arrow_at c.args.store.now c.args.e)) c.height-k.result in
    omega arith

pub returns-then-at-end : goal.returns-then-at-end
returns-then-at-end c =
    let es = heights (arrow_at c.args.store.now c.args.e) in
    let h = c.height-k.result in
    let m = monotone_heights _ (c.source_len-end.ensures.store.arrows c.args.e c.requires.outer) c.requires.outer_above in
    let at = c.dual_from-at.ensures in
    none_hit es _ c.loop-i.i (omega arith) (ap (is_hit es) (sym c.height-k.ensures) ∙ not_hit es h m (λ l e. elim c.then-at-end.branch [
      | then-at-end-via-then-at-end w ↦ let past = w.if-at-end.true in omega arith
      | then-at-end-via-else-at-end+then-height-k w ↦ w.if-height-k.true (w.height.ensures ∙ ap (λ i. get_or es i 0) at ∙ e)
    ]))

pub loop-i-preserved : goal.loop-i-preserved
loop-i-preserved c =
    let es = heights (arrow_at c.args.store.now c.args.e) in
    let fs = heights (arrow_at c.args.store.now c.args.f) in
    let h = c.height-k.result in
    let m = monotone_heights _ (c.source_len-end.ensures.store.arrows c.args.e c.requires.outer) c.requires.outer_above in
    let n = monotone_heights _ (c.source_len-end.ensures.store.arrows c.args.f c.requires.inner) c.requires.inner_above in
    let at = c.dual_from-at.ensures in
    let le = dual-le-length es h in
    let within : c.loop-i.i < length fs = omega arith in
    let place = at ∙ ap (dual es) c.height-k.ensures in
    let hit = one_hit es h m (omega arith) (ap (λ i. get_or es i 0) (sym at) ∙ sym c.height.ensures ∙ c.if-height-k.false) in
    record {
      low = λ i l k. (let r = dual_mono es m _ _ (n.rises c.loop-i.i i (omega arith) k) in omega arith);
      hit = hit_more es fs c.loop-i.i within c.loop-i.invariant.hit (ap (is_hit es) (sym c.height-k.ensures) ∙ hit);
      made = c.in_ok-push.ensures.ok ∙ (λ i. c.loop-i.invariant.made i ++ place i ∷ []) ∙ sym (between_more es fs c.loop-i.i within);
    }
