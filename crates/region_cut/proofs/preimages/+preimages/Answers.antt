use Rattle.std.proofs.Common.{rules, ◌-◌, ◌<◌, ◌+◌, ◌≤◌, suc, [], length, get_or, refl, ap, ◌∙◌, arith}
use Rattle.diagram_terms.specs.Decoded.{dia, arr}
use Rattle.diagram_terms.specs.Dual.{dual}
use Rattle.diagram_terms.specs.Shape.{reg_at}
use Rattle.diagram_terms.specs.Tree.{heights}
use Rattle.hashcons.specs.Contents.{arrow_at, diagram_at}
use Rattle.diagram_terms.specs.Preimages.{preimage, reg_preimage, sing_preimage}
use Rattle.region_cut.specs.RegionValues.{region_of}
use Rattle.region_cut.proofs.SlicesOver.{sings_within, heights_within, rises, from_height, to_height}
use Rattle.region_cut.proofs.PreimageSteps.{arrow_above, slices_within, sing_step, fwd_step, bwd_step, alone_step, sing_entry, entries, made_of, made_zero, shape_below, over_below, made_above, answered, retold, sing_is, reg_is, sings_count, regs_count}
use Rattle.region_cut.proofs.ReadRegions.{none_gathered, one_more, counted}
use Rattle.region_cut.proofs.preimages.+preimages.Goals as goal

-- ---- at the first regular height

pub first_preimage-reg-slice-requires-clause-within : goal.first_preimage-reg-slice-requires-clause-within
first_preimage-reg-slice-requires-clause-within t c =
    let r = c.requires in
    let n = slices_within _ _ _ _ r.shape r.over in
    let m = rises _ _ _ _ r.over in
    omega (arith, r.shape.regs_len, r.first, r.last)

pub first_preimage-fwd-leg-requires-clause-within : goal.first_preimage-fwd-leg-requires-clause-within
first_preimage-fwd-leg-requires-clause-within t c =
    let r = c.requires in
    let n = slices_within _ _ _ _ r.shape r.over in
    omega (arith, r.shape.fwds_len, r.first, r.last)

pub first_preimage-bounds-sings-0 : goal.first_preimage-bounds-sings-0
first_preimage-bounds-sings-0 t c =
    let r = c.requires in
    let n = entries _ _ _ _ r.shape r.over _ _ _ r.sings in
    omega arith

pub first_preimage-preimage_along-requires : goal.first_preimage-preimage_along-requires
first_preimage-preimage_along-requires t c =
    let r = c.requires in
    let at = sing_entry _ _ _ _ r.shape r.over _ c.index-sings-0.result c.args.first c.args.last 0 c.args.first r.sings (omega arith) (omega arith) c.index-sings-0.is in
    let step = fwd_step _ _ _ _ r.shape r.over c.args.first _ _ _ r.first (omega arith) c.reg-slice.ensures.tree c.fwd-leg.ensures.tree at in
    (search rules, (c.reg-slice.ensures.of_store, (c.fwd-leg.ensures.of_store, (step.shape, step.over))))

pub first_preimage-returns-then-first-last : goal.first_preimage-returns-then-first-last
first_preimage-returns-then-first-last t c =
    let r = c.requires in
    let at = sing_entry _ _ _ _ r.shape r.over _ c.index-sings-0.result c.args.first c.args.last 0 c.args.first r.sings (omega arith) (omega arith) c.index-sings-0.is in
    let step = fwd_step _ _ _ _ r.shape r.over c.args.first _ _ _ r.first (omega arith) c.reg-slice.ensures.tree c.fwd-leg.ensures.tree at in
    answered _ _ _ _ step.is c.preimage_along.ensures

pub first_preimage-arrow_reg-arrow-requires-clause-above : goal.first_preimage-arrow_reg-arrow-requires-clause-above
first_preimage-arrow_reg-arrow-requires-clause-above t c = arrow_above _ _ c.requires.over.shape

pub first_preimage-preimage_along-requires-2 : goal.first_preimage-preimage_along-requires-2
first_preimage-preimage_along-requires-2 t c =
    let r = c.requires in
    let e = c.regs.ensures c.args.below in
    let n = regs_count c.args.below c.args.region.now _ _ e r.over.closed.region in
    let at = reg_is c.args.below c.args.region.now _ 0 (region_of (suc c.args.below) c.args.region.now).from c.index-regs-0.result e (omega arith) (omega arith) c.index-regs-0.is in
    let arrow = c.arrow_reg-arrow.ensures.tree ∙ ap (reg_at (arrow_at c.args.store.now c.args.f)) (c.from.ensures c.args.below) in
    let step = alone_step _ _ _ _ r.shape r.over c.args.first _ _ _ r.first (omega (arith, r.last)) c.reg-slice.ensures.tree arrow at in
    (search rules, (c.reg-slice.ensures.of_store, (c.arrow_reg-arrow.ensures.of_store, (step.shape, step.over))))

pub first_preimage-returns : goal.first_preimage-returns
first_preimage-returns t c =
    let r = c.requires in
    let e = c.regs.ensures c.args.below in
    let n = regs_count c.args.below c.args.region.now _ _ e r.over.closed.region in
    let at = reg_is c.args.below c.args.region.now _ 0 (region_of (suc c.args.below) c.args.region.now).from c.index-regs-0.result e (omega arith) (omega arith) c.index-regs-0.is in
    let arrow = c.arrow_reg-arrow.ensures.tree ∙ ap (reg_at (arrow_at c.args.store.now c.args.f)) (c.from.ensures c.args.below) in
    let step = alone_step _ _ _ _ r.shape r.over c.args.first _ _ _ r.first (omega (arith, r.last)) c.reg-slice.ensures.tree arrow at in
    answered _ _ _ _ step.is c.preimage_along-2.ensures

-- ---- at all heights

pub preimage_along-returns-then-dim-eq0 : goal.preimage_along-returns-then-dim-eq0
preimage_along-returns-then-dim-eq0 t c = made_zero c.args.dim _ _ _ (omega arith)

pub preimage_along-dual_of-first-requires-clause-above : goal.preimage_along-dual_of-first-requires-clause-above
preimage_along-dual_of-first-requires-clause-above t c = arrow_above _ _ (over_below c.args.dim _ _ c.args.region.now (omega arith) c.requires.over).shape

pub preimage_along-dual_of-last-requires-clause-above : goal.preimage_along-dual_of-last-requires-clause-above
preimage_along-dual_of-last-requires-clause-above t c = arrow_above _ _ (over_below c.args.dim _ _ c.args.region.now (omega arith) c.requires.over).shape

pub preimage_along-singular_preimages-requires : goal.preimage_along-singular_preimages-requires
preimage_along-singular_preimages-requires t c =
    let r = c.requires in
    let above : 0 < c.args.dim = omega arith in
    let from = ap (dual (heights (arrow_at c.args.store.now c.args.f))) (c.from.ensures (c.args.dim - 1)) in
    let to = ap (dual (heights (arrow_at c.args.store.now c.args.f))) (c.to.ensures (c.args.dim - 1)) in
    (search rules, (r.source, (r.arrow, (shape_below _ _ (arrow_at c.args.store.now c.args.f) c.args.region.now above r.shape, (over_below _ _ _ c.args.region.now above r.over, (c.dual_of-first.ensures ∙ from, c.dual_of-last.ensures ∙ to))))))

pub preimage_along-regular_preimages-requires : goal.preimage_along-regular_preimages-requires
preimage_along-regular_preimages-requires t c =
    let r = c.requires in
    let above : 0 < c.args.dim = omega arith in
    let from = ap (dual (heights (arrow_at c.args.store.now c.args.f))) (c.from.ensures (c.args.dim - 1)) in
    let to = ap (dual (heights (arrow_at c.args.store.now c.args.f))) (c.to.ensures (c.args.dim - 1)) in
    (search rules, (r.source, (r.arrow, (shape_below _ _ (arrow_at c.args.store.now c.args.f) c.args.region.now above r.shape, (over_below _ _ _ c.args.region.now above r.over, (c.dual_of-first.ensures ∙ from, (c.dual_of-last.ensures ∙ to, rw c.deref.ensures.value c.in_ok-sings.ensures)))))))

pub preimage_along-returns : goal.preimage_along-returns
preimage_along-returns t c =
    let r = c.requires in
    let above : 0 < c.args.dim = omega arith in
    let from = ap (dual (heights (arrow_at c.args.store.now c.args.f))) (c.from.ensures (c.args.dim - 1)) in
    let to = ap (dual (heights (arrow_at c.args.store.now c.args.f))) (c.to.ensures (c.args.dim - 1)) in
    made_above _ _ _ _ above _
    (made_of _ _ _ _ (shape_below _ _ (arrow_at c.args.store.now c.args.f) c.args.region.now above r.shape) (over_below _ _ _ c.args.region.now above r.over) _ _ _ _ (c.dual_of-first.ensures ∙ from) (c.dual_of-last.ensures ∙ to)
    c.in_ok-regs.ensures c.in_ok-sings.ensures)

-- ---- at the regular heights

pub regular_preimages-overflow_sub-i-end : goal.regular_preimages-overflow_sub-i-end
regular_preimages-overflow_sub-i-end t c =
    let r = c.requires in
    let m = rises _ _ _ _ r.over in
    omega (arith, r.first, r.last)

pub regular_preimages-loop-i-init : goal.regular_preimages-loop-i-init
regular_preimages-loop-i-init t c =
    let F = reg_preimage c.args.below (preimage c.args.below) (dia (suc c.args.below) (diagram_at c.args.store.now c.args.source)) (arr (suc c.args.below) (arrow_at c.args.store.now c.args.f)) (region_of (suc c.args.below) c.args.region.now) in
    rw (c.in_ok-push.ensures.items, c.new-made.ensures.items)
    (one_more c.args.below c.args.first 0 c.args.first F [] _ (none_gathered c.args.below c.args.first F) (omega arith) c.in_ok-first_preimage.ensures)

pub regular_preimages-reg-slice-requires-clause-within : goal.regular_preimages-reg-slice-requires-clause-within
regular_preimages-reg-slice-requires-clause-within t c =
    let r = c.requires in
    let n = slices_within _ _ _ _ r.shape r.over in
    omega (arith, r.shape.regs_len, r.first, r.last)

pub regular_preimages-bwd-leg-requires-clause-within : goal.regular_preimages-bwd-leg-requires-clause-within
regular_preimages-bwd-leg-requires-clause-within t c =
    let r = c.requires in
    let n = slices_within _ _ _ _ r.shape r.over in
    omega (arith, r.shape.bwds_len, r.first, r.last)

pub regular_preimages-offset_bounds-sings-i : goal.regular_preimages-offset_bounds-sings-i
regular_preimages-offset_bounds-sings-i t c =
    let r = c.requires in
    let n = entries _ _ _ _ r.shape r.over _ _ _ r.sings in
    let l : c.loop-i.i < length c.args.sings.now = omega arith in
    search rules

pub regular_preimages-bounds-sings-i : goal.regular_preimages-bounds-sings-i
regular_preimages-bounds-sings-i t c =
    let r = c.requires in
    let n = entries _ _ _ _ r.shape r.over _ _ _ r.sings in
    omega arith

pub regular_preimages-preimage_along-requires : goal.regular_preimages-preimage_along-requires
regular_preimages-preimage_along-requires t c =
    let r = c.requires in
    let at = sing_entry _ _ _ _ r.shape r.over _ c.index-sings-i.result c.args.first c.args.last c.loop-i.i (c.args.first + c.loop-i.i) r.sings (omega arith) refl c.index-sings-i.is in
    let step = bwd_step _ _ _ _ r.shape r.over (c.args.first + c.loop-i.i) _ _ _ (omega (arith, r.first)) (omega (arith, r.last)) c.reg-slice.ensures.tree c.bwd-leg.ensures.tree at in
    (search rules, (c.reg-slice.ensures.of_store, (c.bwd-leg.ensures.of_store, (step.shape, step.over))))

pub regular_preimages-loop-i-preserved : goal.regular_preimages-loop-i-preserved
regular_preimages-loop-i-preserved t c =
    let r = c.requires in
    let at = sing_entry _ _ _ _ r.shape r.over _ c.index-sings-i.result c.args.first c.args.last c.loop-i.i (c.args.first + c.loop-i.i) r.sings (omega arith) refl c.index-sings-i.is in
    let step = bwd_step _ _ _ _ r.shape r.over (c.args.first + c.loop-i.i) _ _ _ (omega (arith, r.first)) (omega (arith, r.last)) c.reg-slice.ensures.tree c.bwd-leg.ensures.tree at in
    let F = reg_preimage c.args.below (preimage c.args.below) (dia (suc c.args.below) (diagram_at c.args.store.now c.args.source)) (arr (suc c.args.below) (arrow_at c.args.store.now c.args.f)) (region_of (suc c.args.below) c.args.region.now) in
    rw c.in_ok-push-2.ensures.items
    (one_more c.args.below c.args.first (c.loop-i.i + 1) (c.args.first + c.loop-i.i + 1) F _ _ c.loop-i.invariant (omega arith) (retold _ _ _ _ step.is c.in_ok-preimage_along.ensures))

pub regular_preimages-returns : goal.regular_preimages-returns
regular_preimages-returns t c =
    let F = reg_preimage c.args.below (preimage c.args.below) (dia (suc c.args.below) (diagram_at c.args.store.now c.args.source)) (arr (suc c.args.below) (arrow_at c.args.store.now c.args.f)) (region_of (suc c.args.below) c.args.region.now) in
    counted c.args.below c.args.first (c.loop-i.i + 1) (suc (c.args.last - c.args.first)) F _ c.loop-i.invariant (omega arith)

-- ---- at the singular heights

pub singular_preimages-overflow_sub-i-end : goal.singular_preimages-overflow_sub-i-end
singular_preimages-overflow_sub-i-end t c =
    let r = c.requires in
    let m = rises _ _ _ _ r.over in
    omega (arith, r.first, r.last)

pub singular_preimages-sing-slice-requires-clause-within : goal.singular_preimages-sing-slice-requires-clause-within
singular_preimages-sing-slice-requires-clause-within t c =
    let r = c.requires in
    let n = slices_within _ _ _ _ r.shape r.over in
    omega (arith, r.first, r.last)

pub singular_preimages-arrow_sing-arrow-requires-clause-above : goal.singular_preimages-arrow_sing-arrow-requires-clause-above
singular_preimages-arrow_sing-arrow-requires-clause-above t c = arrow_above _ _ c.requires.over.shape

pub singular_preimages-arrow_sing-arrow-requires-clause-within : goal.singular_preimages-arrow_sing-arrow-requires-clause-within
singular_preimages-arrow_sing-arrow-requires-clause-within t c =
    let r = c.requires in
    let n = sings_within _ _ _ _ r.over in
    omega (arith, r.first, r.last)

pub singular_preimages-height-requires-clause-above : goal.singular_preimages-height-requires-clause-above
singular_preimages-height-requires-clause-above t c = arrow_above _ _ c.requires.over.shape

pub singular_preimages-height-requires-clause-within : goal.singular_preimages-height-requires-clause-within
singular_preimages-height-requires-clause-within t c =
    let r = c.requires in
    let n = heights_within _ _ _ _ r.over in
    omega (arith, r.first, r.last)

pub singular_preimages-overflow_sub-at : goal.singular_preimages-overflow_sub-at
singular_preimages-overflow_sub-at t c =
    let r = c.requires in
    let n = from_height _ _ _ _ r.over (c.args.first + c.loop-i.i) (omega (arith, r.first)) (omega (arith, r.last)) in
    omega (arith, c.height.ensures, c.from-from.ensures c.args.below)

pub singular_preimages-offset_bounds-inner-at : goal.singular_preimages-offset_bounds-inner-at
singular_preimages-offset_bounds-inner-at t c =
    let r = c.requires in
    let low : dual (heights (arrow_at c.args.store.now c.args.f)) (region_of (suc c.args.below) c.args.region.now).from ≤ c.args.first + c.loop-i.i = omega (arith, r.first) in
    let high : c.args.first + c.loop-i.i < dual (heights (arrow_at c.args.store.now c.args.f)) (region_of (suc c.args.below) c.args.region.now).to = omega (arith, r.last) in
    let a = from_height _ _ _ _ r.over (c.args.first + c.loop-i.i) low high in
    let b = to_height _ _ _ _ r.over (c.args.first + c.loop-i.i) high in
    let e = c.sings-inner.ensures c.args.below in
    let n = sings_count c.args.below c.args.region.now _ _ e r.over.closed.region in
    let from = c.from-from.ensures c.args.below in
    let l : c.height.result - c.from-from.result < length c.sings-inner.result.now = omega (arith, c.height.ensures) in
    search rules

pub singular_preimages-bounds-inner-at : goal.singular_preimages-bounds-inner-at
singular_preimages-bounds-inner-at t c =
    let r = c.requires in
    let low : dual (heights (arrow_at c.args.store.now c.args.f)) (region_of (suc c.args.below) c.args.region.now).from ≤ c.args.first + c.loop-i.i = omega (arith, r.first) in
    let high : c.args.first + c.loop-i.i < dual (heights (arrow_at c.args.store.now c.args.f)) (region_of (suc c.args.below) c.args.region.now).to = omega (arith, r.last) in
    let a = from_height _ _ _ _ r.over (c.args.first + c.loop-i.i) low high in
    let b = to_height _ _ _ _ r.over (c.args.first + c.loop-i.i) high in
    let e = c.sings-inner.ensures c.args.below in
    let n = sings_count c.args.below c.args.region.now _ _ e r.over.closed.region in
    let from = c.from-from.ensures c.args.below in
    omega (arith, c.height.ensures)

pub singular_preimages-preimage_along-requires : goal.singular_preimages-preimage_along-requires
singular_preimages-preimage_along-requires t c =
    let r = c.requires in
    let low : dual (heights (arrow_at c.args.store.now c.args.f)) (region_of (suc c.args.below) c.args.region.now).from ≤ c.args.first + c.loop-i.i = omega (arith, r.first) in
    let high : c.args.first + c.loop-i.i < dual (heights (arrow_at c.args.store.now c.args.f)) (region_of (suc c.args.below) c.args.region.now).to = omega (arith, r.last) in
    let a = from_height _ _ _ _ r.over (c.args.first + c.loop-i.i) low high in
    let b = to_height _ _ _ _ r.over (c.args.first + c.loop-i.i) high in
    let e = c.sings-inner.ensures c.args.below in
    let n = sings_count c.args.below c.args.region.now _ _ e r.over.closed.region in
    let from = c.from-from.ensures c.args.below in
    let at = sing_is c.args.below c.args.region.now _ (c.height.result - c.from-from.result) (get_or (heights (arrow_at c.args.store.now c.args.f)) (c.args.first + c.loop-i.i) 0) c.index-inner-at.result e (omega (arith, c.height.ensures)) (omega (arith, c.height.ensures)) c.index-inner-at.is in
    let step = sing_step _ _ _ _ r.shape r.over (c.args.first + c.loop-i.i) _ _ _ low high c.sing-slice.ensures.tree c.arrow_sing-arrow.ensures.tree at in
    (search rules, (c.sing-slice.ensures.of_store, (c.arrow_sing-arrow.ensures.of_store, (step.shape, step.over))))

pub singular_preimages-loop-i-preserved : goal.singular_preimages-loop-i-preserved
singular_preimages-loop-i-preserved t c =
    let r = c.requires in
    let low : dual (heights (arrow_at c.args.store.now c.args.f)) (region_of (suc c.args.below) c.args.region.now).from ≤ c.args.first + c.loop-i.i = omega (arith, r.first) in
    let high : c.args.first + c.loop-i.i < dual (heights (arrow_at c.args.store.now c.args.f)) (region_of (suc c.args.below) c.args.region.now).to = omega (arith, r.last) in
    let a = from_height _ _ _ _ r.over (c.args.first + c.loop-i.i) low high in
    let b = to_height _ _ _ _ r.over (c.args.first + c.loop-i.i) high in
    let e = c.sings-inner.ensures c.args.below in
    let n = sings_count c.args.below c.args.region.now _ _ e r.over.closed.region in
    let from = c.from-from.ensures c.args.below in
    let at = sing_is c.args.below c.args.region.now _ (c.height.result - c.from-from.result) (get_or (heights (arrow_at c.args.store.now c.args.f)) (c.args.first + c.loop-i.i) 0) c.index-inner-at.result e (omega (arith, c.height.ensures)) (omega (arith, c.height.ensures)) c.index-inner-at.is in
    let step = sing_step _ _ _ _ r.shape r.over (c.args.first + c.loop-i.i) _ _ _ low high c.sing-slice.ensures.tree c.arrow_sing-arrow.ensures.tree at in
    let F = sing_preimage c.args.below (preimage c.args.below) (dia (suc c.args.below) (diagram_at c.args.store.now c.args.source)) (arr (suc c.args.below) (arrow_at c.args.store.now c.args.f)) (region_of (suc c.args.below) c.args.region.now) in
    rw c.in_ok-push.ensures.items (one_more c.args.below c.args.first c.loop-i.i (c.args.first + c.loop-i.i) F _ _ c.loop-i.invariant (omega arith) (retold _ _ _ _ step.is c.in_ok-preimage_along.ensures))
