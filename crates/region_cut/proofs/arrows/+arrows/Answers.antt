use Rattle.std.proofs.Common.{rules, ◌≡◌, ◌+◌, ◌-◌, ◌<◌, ◌≤◌, suc, length, get_or, sym, ap, subst, ◌∙◌, arith, ℕ}
use Rattle.diagram_terms.specs.Decoded.{arr_tree}
use Rattle.diagram_terms.specs.Dimension.{IsArrowTree}
use Rattle.diagram_terms.specs.Dual.{dual}
use Rattle.diagram_terms.specs.Shape.{reg_at}
use Rattle.diagram_terms.specs.Tree.{heights, regs, sings}
use Rattle.hashcons.specs.Contents.{arrow_at}
use Rattle.hashcons.proofs.Growth.{Grows-trans, made-children, Makes-last, gathers-none, makes-more}
use Rattle.region_cut.specs.CutTrees.{cut_arrow_reg}
use Rattle.region_cut.specs.RegionValues.{region_of}
use Rattle.region_cut.proofs.CutSteps.{over_some, reg_cut, sing_cut, described_cut, cut_arrow_shape, cut_at_zero, above_in, Makes-same, Makes-told, cut_above}
use Rattle.region_cut.proofs.SlicesOver.{regs_within, sings_within, heights_within, order, rises, from_height, to_height}
use Rattle.region_cut.proofs.PreimageSteps.{arrow_above, sing_is, reg_is, sings_count, regs_count}
use Rattle.region_cut.proofs.arrows.+arrows.Goals as goal

-- src/arrows.rt:36:9
pub arrow_cut-returns-then-dim-eq0 : goal.arrow_cut-returns-then-dim-eq0
arrow_cut-returns-then-dim-eq0 t c =
    Makes-same _ _ _ c.requires.of_store (cut_at_zero c.args.dim (arrow_at c.args.store.now c.args.f) (region_of c.args.dim c.args.region.now) (omega arith) c.requires.over)

-- src/arrows.rt:20:1
pub arrow_cut-returns : goal.arrow_cut-returns
arrow_cut-returns t c =
    Makes-told _ _ _ _ _ (cut_above c.args.dim (arrow_at c.args.store.now c.args.f) c.args.region.now (omega arith)) c.zag_cut.ensures

-- src/arrows.rt:116:9
pub cut_arrow_regs-arrow_reg-head-requires-clause-above :
    goal.cut_arrow_regs-arrow_reg-head-requires-clause-above
cut_arrow_regs-arrow_reg-head-requires-clause-above t c =
    arrow_above _ _ c.requires.over.over.shape

-- src/arrows.rt:117:14
pub cut_arrow_regs-arrow_cut-requires : goal.cut_arrow_regs-arrow_cut-requires
cut_arrow_regs-arrow_cut-requires t c =
    let r = c.requires in
    let old = c.args.store.now in
    let d = c.args.below in
    let f = arrow_at old c.args.f in
    let W = region_of (suc d) c.args.region.now in
    let o = r.over.over in
    let from = c.from-from.ensures d in
    let w = order _ _ _ _ o in
    let l = regs_within _ _ _ _ o in
    let e = c.regs-inner.ensures d in
    let n = regs_count d c.args.region.now _ _ e o.closed.region in
    let at = reg_is d c.args.region.now _ 0 W.from c.index-inner-0.result e (omega arith) (omega arith) c.index-inner-0.is in
    let step = reg_cut d f f W r.over (λ _. f) W.from _ _ (omega arith) w (c.arrow_reg-head.ensures.tree ∙ ap (reg_at f) from) at in
    (search rules, (c.arrow_reg-head.ensures.of_store, (r.store, step.over)))

-- src/arrows.rt:118:5
pub cut_arrow_regs-loop-j-init : goal.cut_arrow_regs-loop-j-init
cut_arrow_regs-loop-j-init t c =
    let r = c.requires in
    let old = c.args.store.now in
    let d = c.args.below in
    let f = arrow_at old c.args.f in
    let W = region_of (suc d) c.args.region.now in
    let o = r.over.over in
    let from = c.from-from.ensures d in
    let w = order _ _ _ _ o in
    let l = regs_within _ _ _ _ o in
    let e = c.regs-inner.ensures d in
    let n = regs_count d c.args.region.now _ _ e o.closed.region in
    let at = reg_is d c.args.region.now _ 0 W.from c.index-inner-0.result e (omega arith) (omega arith) c.index-inner-0.is in
    let step = reg_cut d f f W r.over (λ _. f) W.from _ _ (omega arith) w (c.arrow_reg-head.ensures.tree ∙ ap (reg_at f) from) at in
    let made = c.in_ok-arrow_cut.ensures in
    let G = λ (j : ℕ). arr_tree d (cut_arrow_reg d f W (W.from + j)) in
    let zero : W.from ≡ W.from + 0 = omega arith in
    record {
      grows = made.grows;
      gathers = rw (c.in_ok-push.ensures.ok, c.new-ids.ensures.items) (makes-more _ _ _ _ _ G _ (gathers-none _ G) made (step.is ∙ ap (λ k. arr_tree d (cut_arrow_reg d f W k)) zero));
    }

-- src/arrows.rt:119:13
pub cut_arrow_regs-arrow_reg-slice-requires-clause-above :
    goal.cut_arrow_regs-arrow_reg-slice-requires-clause-above
cut_arrow_regs-arrow_reg-slice-requires-clause-above t c =
    let r = c.requires in
    let old = c.args.store.now in
    let d = c.args.below in
    let f = arrow_at old c.args.f in
    let W = region_of (suc d) c.args.region.now in
    let o = r.over.over in
    let now = c.loop-j.store in
    let inv = c.loop-j.invariant in
    let same = inv.grows.arrow_trees c.args.f r.of_store in
    above_in _ _ same (arrow_above _ _ o.shape)

-- src/arrows.rt:119:13
pub cut_arrow_regs-arrow_reg-slice-requires-clause-within :
    goal.cut_arrow_regs-arrow_reg-slice-requires-clause-within
cut_arrow_regs-arrow_reg-slice-requires-clause-within t c =
    let r = c.requires in
    let old = c.args.store.now in
    let d = c.args.below in
    let f = arrow_at old c.args.f in
    let W = region_of (suc d) c.args.region.now in
    let o = r.over.over in
    let from = c.from-from.ensures d in
    let to = c.to.ensures d in
    let w = order _ _ _ _ o in
    let l = regs_within _ _ _ _ o in
    let e = c.regs-inner.ensures d in
    let n = regs_count d c.args.region.now _ _ e o.closed.region in
    let now = c.loop-j.store in
    let inv = c.loop-j.invariant in
    let same = inv.grows.arrow_trees c.args.f r.of_store in
    let m = ap (λ u. length (regs u)) same in
    omega arith

-- src/arrows.rt:120:56
pub cut_arrow_regs-offset_bounds-inner-j : goal.cut_arrow_regs-offset_bounds-inner-j
cut_arrow_regs-offset_bounds-inner-j t c =
    let r = c.requires in
    let old = c.args.store.now in
    let d = c.args.below in
    let f = arrow_at old c.args.f in
    let W = region_of (suc d) c.args.region.now in
    let o = r.over.over in
    let from = c.from-from.ensures d in
    let to = c.to.ensures d in
    let w = order _ _ _ _ o in
    let l = regs_within _ _ _ _ o in
    let e = c.regs-inner.ensures d in
    let n = regs_count d c.args.region.now _ _ e o.closed.region in
    let m : c.loop-j.j + 1 < length c.regs-inner.result.now = omega arith in
    search rules

-- src/arrows.rt:120:18
pub cut_arrow_regs-arrow_cut-requires-in-loop-j : goal.cut_arrow_regs-arrow_cut-requires-in-loop-j
cut_arrow_regs-arrow_cut-requires-in-loop-j t c =
    let r = c.requires in
    let old = c.args.store.now in
    let d = c.args.below in
    let f = arrow_at old c.args.f in
    let W = region_of (suc d) c.args.region.now in
    let o = r.over.over in
    let from = c.from-from.ensures d in
    let to = c.to.ensures d in
    let w = order _ _ _ _ o in
    let l = regs_within _ _ _ _ o in
    let e = c.regs-inner.ensures d in
    let n = regs_count d c.args.region.now _ _ e o.closed.region in
    let now = c.loop-j.store in
    let inv = c.loop-j.invariant in
    let same = inv.grows.arrow_trees c.args.f r.of_store in
    let k = W.from + (c.loop-j.j + 1) in
    let at = reg_is d c.args.region.now _ (c.loop-j.j + 1) k c.index-inner-j.result e (omega arith) (omega arith) c.index-inner-j.is in
    let step = reg_cut d f (arrow_at now c.args.f) W r.over same k _ _ (omega arith) (omega arith) (c.arrow_reg-slice.ensures.tree ∙ ap (λ m. reg_at (arrow_at now c.args.f) (m + (c.loop-j.j + 1))) from) at in
    (search rules, (c.arrow_reg-slice.ensures.of_store, (inv.grows.store r.store, step.over)))

-- src/arrows.rt:118:5
pub cut_arrow_regs-loop-j-preserved : goal.cut_arrow_regs-loop-j-preserved
cut_arrow_regs-loop-j-preserved t c =
    let r = c.requires in
    let old = c.args.store.now in
    let d = c.args.below in
    let f = arrow_at old c.args.f in
    let W = region_of (suc d) c.args.region.now in
    let o = r.over.over in
    let from = c.from-from.ensures d in
    let to = c.to.ensures d in
    let w = order _ _ _ _ o in
    let l = regs_within _ _ _ _ o in
    let e = c.regs-inner.ensures d in
    let n = regs_count d c.args.region.now _ _ e o.closed.region in
    let now = c.loop-j.store in
    let inv = c.loop-j.invariant in
    let same = inv.grows.arrow_trees c.args.f r.of_store in
    let k = W.from + (c.loop-j.j + 1) in
    let at = reg_is d c.args.region.now _ (c.loop-j.j + 1) k c.index-inner-j.result e (omega arith) (omega arith) c.index-inner-j.is in
    let step = reg_cut d f (arrow_at now c.args.f) W r.over same k _ _ (omega arith) (omega arith) (c.arrow_reg-slice.ensures.tree ∙ ap (λ m. reg_at (arrow_at now c.args.f) (m + (c.loop-j.j + 1))) from) at in
    let made = c.in_ok-arrow_cut-2.ensures in
    record {
      grows = Grows-trans _ _ _ inv.grows made.grows;
      gathers = rw c.in_ok-push-2.ensures.ok (makes-more _ _ _ _ _ _ _ inv.gathers made step.is);
    }

-- src/arrows.rt:148:17
pub cut_arrow_sings-overflow_sub-i-end : goal.cut_arrow_sings-overflow_sub-i-end
cut_arrow_sings-overflow_sub-i-end t c =
    let r = c.requires in
    let old = c.args.store.now in
    let d = c.args.below in
    let f = arrow_at old c.args.f in
    let W = region_of (suc d) c.args.region.now in
    let o = r.over.over in
    let m = rises _ _ _ _ o in
    omega (arith, r.first, r.last)

-- src/arrows.rt:149:13
pub cut_arrow_sings-arrow_sing-slice-requires-clause-above :
    goal.cut_arrow_sings-arrow_sing-slice-requires-clause-above
cut_arrow_sings-arrow_sing-slice-requires-clause-above t c =
    let r = c.requires in
    let old = c.args.store.now in
    let d = c.args.below in
    let f = arrow_at old c.args.f in
    let W = region_of (suc d) c.args.region.now in
    let o = r.over.over in
    let now = c.loop-i.store in
    let inv = c.loop-i.invariant in
    let same = inv.grows.arrow_trees c.args.f r.of_store in
    above_in _ _ same (arrow_above _ _ o.shape)

-- src/arrows.rt:149:13
pub cut_arrow_sings-arrow_sing-slice-requires-clause-within :
    goal.cut_arrow_sings-arrow_sing-slice-requires-clause-within
cut_arrow_sings-arrow_sing-slice-requires-clause-within t c =
    let r = c.requires in
    let old = c.args.store.now in
    let d = c.args.below in
    let f = arrow_at old c.args.f in
    let W = region_of (suc d) c.args.region.now in
    let o = r.over.over in
    let now = c.loop-i.store in
    let inv = c.loop-i.invariant in
    let same = inv.grows.arrow_trees c.args.f r.of_store in
    let m = ap (λ u. length (sings u)) same in
    let n = sings_within _ _ _ _ o in
    omega (arith, r.first, r.last)

-- src/arrows.rt:150:18
pub cut_arrow_sings-height-requires-clause-above :
    goal.cut_arrow_sings-height-requires-clause-above
cut_arrow_sings-height-requires-clause-above t c =
    let r = c.requires in
    let old = c.args.store.now in
    let d = c.args.below in
    let f = arrow_at old c.args.f in
    let W = region_of (suc d) c.args.region.now in
    let o = r.over.over in
    let now = c.loop-i.store in
    let inv = c.loop-i.invariant in
    let same = inv.grows.arrow_trees c.args.f r.of_store in
    above_in _ _ same (arrow_above _ _ o.shape)

-- src/arrows.rt:150:18
pub cut_arrow_sings-height-requires-clause-within :
    goal.cut_arrow_sings-height-requires-clause-within
cut_arrow_sings-height-requires-clause-within t c =
    let r = c.requires in
    let old = c.args.store.now in
    let d = c.args.below in
    let f = arrow_at old c.args.f in
    let W = region_of (suc d) c.args.region.now in
    let o = r.over.over in
    let now = c.loop-i.store in
    let inv = c.loop-i.invariant in
    let same = inv.grows.arrow_trees c.args.f r.of_store in
    let m = ap (λ u. length (heights u)) same in
    let n = heights_within _ _ _ _ o in
    omega (arith, r.first, r.last)

-- src/arrows.rt:150:18
pub cut_arrow_sings-overflow_sub-at : goal.cut_arrow_sings-overflow_sub-at
cut_arrow_sings-overflow_sub-at t c =
    let r = c.requires in
    let old = c.args.store.now in
    let d = c.args.below in
    let f = arrow_at old c.args.f in
    let W = region_of (suc d) c.args.region.now in
    let o = r.over.over in
    let now = c.loop-i.store in
    let inv = c.loop-i.invariant in
    let same = inv.grows.arrow_trees c.args.f r.of_store in
    let k = c.args.first + c.loop-i.i in
    let low : dual (heights f) W.from ≤ k = omega (arith, r.first) in
    let high : k < dual (heights f) W.to = omega (arith, r.last) in
    let a = from_height _ _ _ _ o k low high in
    let b = to_height _ _ _ _ o k high in
    let e = c.sings-inner.ensures d in
    let n = sings_count d c.args.region.now _ _ e o.closed.region in
    let from = c.from-from.ensures d in
    let h = c.height.ensures ∙ ap (λ u. get_or (heights u) k 0) same in
    omega arith

-- src/arrows.rt:151:56
pub cut_arrow_sings-offset_bounds-inner-at : goal.cut_arrow_sings-offset_bounds-inner-at
cut_arrow_sings-offset_bounds-inner-at t c =
    let r = c.requires in
    let old = c.args.store.now in
    let d = c.args.below in
    let f = arrow_at old c.args.f in
    let W = region_of (suc d) c.args.region.now in
    let o = r.over.over in
    let now = c.loop-i.store in
    let inv = c.loop-i.invariant in
    let same = inv.grows.arrow_trees c.args.f r.of_store in
    let k = c.args.first + c.loop-i.i in
    let low : dual (heights f) W.from ≤ k = omega (arith, r.first) in
    let high : k < dual (heights f) W.to = omega (arith, r.last) in
    let a = from_height _ _ _ _ o k low high in
    let b = to_height _ _ _ _ o k high in
    let e = c.sings-inner.ensures d in
    let n = sings_count d c.args.region.now _ _ e o.closed.region in
    let from = c.from-from.ensures d in
    let h = c.height.ensures ∙ ap (λ u. get_or (heights u) k 0) same in
    let m : c.height.result - c.from-from.result < length c.sings-inner.result.now = omega arith in
    search rules

-- src/arrows.rt:151:56
pub cut_arrow_sings-bounds-inner-at : goal.cut_arrow_sings-bounds-inner-at
cut_arrow_sings-bounds-inner-at t c =
    let r = c.requires in
    let old = c.args.store.now in
    let d = c.args.below in
    let f = arrow_at old c.args.f in
    let W = region_of (suc d) c.args.region.now in
    let o = r.over.over in
    let now = c.loop-i.store in
    let inv = c.loop-i.invariant in
    let same = inv.grows.arrow_trees c.args.f r.of_store in
    let k = c.args.first + c.loop-i.i in
    let low : dual (heights f) W.from ≤ k = omega (arith, r.first) in
    let high : k < dual (heights f) W.to = omega (arith, r.last) in
    let a = from_height _ _ _ _ o k low high in
    let b = to_height _ _ _ _ o k high in
    let e = c.sings-inner.ensures d in
    let n = sings_count d c.args.region.now _ _ e o.closed.region in
    let from = c.from-from.ensures d in
    let h = c.height.ensures ∙ ap (λ u. get_or (heights u) k 0) same in
    omega arith

-- src/arrows.rt:151:18
pub cut_arrow_sings-arrow_cut-requires : goal.cut_arrow_sings-arrow_cut-requires
cut_arrow_sings-arrow_cut-requires t c =
    let r = c.requires in
    let old = c.args.store.now in
    let d = c.args.below in
    let f = arrow_at old c.args.f in
    let W = region_of (suc d) c.args.region.now in
    let o = r.over.over in
    let now = c.loop-i.store in
    let inv = c.loop-i.invariant in
    let same = inv.grows.arrow_trees c.args.f r.of_store in
    let k = c.args.first + c.loop-i.i in
    let low : dual (heights f) W.from ≤ k = omega (arith, r.first) in
    let high : k < dual (heights f) W.to = omega (arith, r.last) in
    let a = from_height _ _ _ _ o k low high in
    let b = to_height _ _ _ _ o k high in
    let e = c.sings-inner.ensures d in
    let n = sings_count d c.args.region.now _ _ e o.closed.region in
    let from = c.from-from.ensures d in
    let h = c.height.ensures ∙ ap (λ u. get_or (heights u) k 0) same in
    let at = sing_is d c.args.region.now _ (c.height.result - c.from-from.result) (get_or (heights f) k 0) c.index-inner-at.result e (omega arith) (omega arith) c.index-inner-at.is in
    let step = sing_cut d f (arrow_at now c.args.f) W r.over same k _ _ low high c.arrow_sing-slice.ensures.tree at in
    (search rules, (c.arrow_sing-slice.ensures.of_store, (inv.grows.store r.store, step.over)))

-- src/arrows.rt:151:18
pub cut_arrow_sings-returns-in_err-arrow_cut : goal.cut_arrow_sings-returns-in_err-arrow_cut
cut_arrow_sings-returns-in_err-arrow_cut t c =
    let g = Grows-trans _ _ _ c.loop-i.invariant.grows c.arrow_cut.ensures.grows in
    search rules

-- src/arrows.rt:151:9
pub cut_arrow_sings-returns-in_err-push : goal.cut_arrow_sings-returns-in_err-push
cut_arrow_sings-returns-in_err-push t c =
    let g = Grows-trans _ _ _ c.loop-i.invariant.grows c.arrow_cut.ensures.grows in
    search rules

-- src/arrows.rt:148:5
pub cut_arrow_sings-loop-i-preserved : goal.cut_arrow_sings-loop-i-preserved
cut_arrow_sings-loop-i-preserved t c =
    let r = c.requires in
    let old = c.args.store.now in
    let d = c.args.below in
    let f = arrow_at old c.args.f in
    let W = region_of (suc d) c.args.region.now in
    let o = r.over.over in
    let now = c.loop-i.store in
    let inv = c.loop-i.invariant in
    let same = inv.grows.arrow_trees c.args.f r.of_store in
    let k = c.args.first + c.loop-i.i in
    let low : dual (heights f) W.from ≤ k = omega (arith, r.first) in
    let high : k < dual (heights f) W.to = omega (arith, r.last) in
    let a = from_height _ _ _ _ o k low high in
    let b = to_height _ _ _ _ o k high in
    let e = c.sings-inner.ensures d in
    let n = sings_count d c.args.region.now _ _ e o.closed.region in
    let from = c.from-from.ensures d in
    let h = c.height.ensures ∙ ap (λ u. get_or (heights u) k 0) same in
    let at = sing_is d c.args.region.now _ (c.height.result - c.from-from.result) (get_or (heights f) k 0) c.index-inner-at.result e (omega arith) (omega arith) c.index-inner-at.is in
    let step = sing_cut d f (arrow_at now c.args.f) W r.over same k _ _ low high c.arrow_sing-slice.ensures.tree at in
    let made = c.in_ok-arrow_cut.ensures in
    record {
      grows = Grows-trans _ _ _ inv.grows made.grows;
      gathers = rw c.in_ok-push.ensures.ok (makes-more _ _ _ _ _ _ _ inv.gathers made step.is);
    }

-- src/arrows.rt:57:9
pub zag_cut-dual_of-first-requires-clause-above : goal.zag_cut-dual_of-first-requires-clause-above
zag_cut-dual_of-first-requires-clause-above t c =
    arrow_above _ _ c.requires.over.over.shape

-- src/arrows.rt:58:9
pub zag_cut-dual_of-last-requires-clause-above : goal.zag_cut-dual_of-last-requires-clause-above
zag_cut-dual_of-last-requires-clause-above t c =
    arrow_above _ _ c.requires.over.over.shape

-- src/arrows.rt:61:17
pub zag_cut-cut_arrow_sings-requires : goal.zag_cut-cut_arrow_sings-requires
zag_cut-cut_arrow_sings-requires t c =
    let r = c.requires in
    let old = c.args.store.now in
    let d = c.args.below in
    let f = arrow_at old c.args.f in
    let W = region_of (suc d) c.args.region.now in
    let o = r.over.over in
    let from = c.dual_of-first.ensures ∙ ap (dual (heights f)) (c.from.ensures d) in
    let to = c.dual_of-last.ensures ∙ ap (dual (heights f)) (c.to.ensures d) in
    let regs_made = c.in_ok-regs.ensures in
    let same = regs_made.grows.arrow_trees c.args.f r.of_store in (
      search rules,
      (
        regs_made.grows.arrows c.args.f r.of_store,
        (
          regs_made.grows.store r.store,
          (
            over_some (suc d) _ _ W W (sym same) (λ _. W) r.over,
            (from ∙ ap (λ u. dual (heights u) W.from) (sym same), to ∙ ap (λ u. dual (heights u) W.to) (sym same)),
          ),
        ),
      ),
    )

-- src/arrows.rt:61:17
pub zag_cut-returns-in_err-sings : goal.zag_cut-returns-in_err-sings
zag_cut-returns-in_err-sings t c =
    let g = Grows-trans _ _ _ c.cut_arrow_regs.ensures.grows c.cut_arrow_sings.ensures.grows in
    search rules

-- src/arrows.rt:62:5
pub zag_cut-put_arrow-requires-clause-children : goal.zag_cut-put_arrow-requires-clause-children
zag_cut-put_arrow-requires-clause-children t c =
    made-children _ _ _ _ _ _ _ _ _ c.in_ok-regs.ensures c.in_ok-sings.ensures

-- src/arrows.rt:62:5
pub zag_cut-put_arrow-requires-clause-shape : goal.zag_cut-put_arrow-requires-clause-shape
zag_cut-put_arrow-requires-clause-shape t c =
    let r = c.requires in
    let old = c.args.store.now in
    let d = c.args.below in
    let f = arrow_at old c.args.f in
    let W = region_of (suc d) c.args.region.now in
    let o = r.over.over in
    let from = c.dual_of-first.ensures ∙ ap (dual (heights f)) (c.from.ensures d) in
    let to = c.dual_of-last.ensures ∙ ap (dual (heights f)) (c.to.ensures d) in
    let regs_made = c.in_ok-regs.ensures in
    let same = regs_made.grows.arrow_trees c.args.f r.of_store in
    let is =
    described_cut old c.cut_arrow_regs.new.store c.cut_arrow_sings.new.store d c.args.f c.dual_of-first.result c.dual_of-last.result c.in_ok-heights.heights.items _ _ W r.of_store from to
    c.in_ok-heights.ensures c.in_ok-regs.ensures c.in_ok-sings.ensures
    in
    subst IsArrowTree (sym is) (cut_arrow_shape (suc d) f W r.over)

-- src/arrows.rt:42:1
pub zag_cut-returns : goal.zag_cut-returns
zag_cut-returns t c =
    let r = c.requires in
    let old = c.args.store.now in
    let d = c.args.below in
    let f = arrow_at old c.args.f in
    let W = region_of (suc d) c.args.region.now in
    let o = r.over.over in
    let from = c.dual_of-first.ensures ∙ ap (dual (heights f)) (c.from.ensures d) in
    let to = c.dual_of-last.ensures ∙ ap (dual (heights f)) (c.to.ensures d) in
    let regs_made = c.in_ok-regs.ensures in
    let same = regs_made.grows.arrow_trees c.args.f r.of_store in
    let is =
    described_cut old c.cut_arrow_regs.new.store c.cut_arrow_sings.new.store d c.args.f c.dual_of-first.result c.dual_of-last.result c.in_ok-heights.heights.items _ _ W r.of_store from to
    c.in_ok-heights.ensures c.in_ok-regs.ensures c.in_ok-sings.ensures
    in
    Makes-last _ _ _ _ _ _ _ (Grows-trans _ _ _ c.in_ok-regs.ensures.grows c.in_ok-sings.ensures.grows) is c.put_arrow.ensures.made
