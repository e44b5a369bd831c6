use Rattle.std.proofs.Common.{◌<◌, ◌≤◌, ◌+◌, length, get_or, refl, rules, arith, ap, ◌∙◌}
use Rattle.diagram_terms.specs.declared.tree.Arrow.TheViews.{the_lemmas}
use Rattle.diagram_terms.specs.Dual.{dual}
use Rattle.diagram_terms.specs.Family.{arrow_reg, arrow_sing, height}
use Rattle.diagram_terms.specs.Values.{trees_of_arrows}
use Rattle.diagram_terms.proofs.Composites.{composable_parts, pass_below, pass_regs, pass_sings, no_pair_before_zig, no_zig_before_pair, composite_pair, composite_whole, made_reg, made_sing, more_made, dual_later, regs_monotone, regs_inside, regs_second_at, regs_first_at, regs_composable_at, regs_whole, sings_inside, sings_second_at, sings_first_at, sings_composable_at, sings_whole}
use Rattle.diagram_terms.proofs.composite.+composites.Goals as goal

pub composite-composite_heights-requires : goal.composite-composite_heights-requires
composite-composite_heights-requires t c =
    let z = c.in-Zig-Zig in
    let r = c.requires in
    let p = composable_parts _ _ _ _ _ _ _ _ z.is-0 z.is-1 r.0 r.1 r.2 r.3 r.4 r.5 in
    pass_below p.d p.g p.f p.composable _ _ _ _ _ _ p.second p.first _ _ c.deref.ensures.value c.deref-in-Zig-Zig.ensures.value

pub composite-composite_regs-requires : goal.composite-composite_regs-requires
composite-composite_regs-requires t c =
    let z = c.in-Zig-Zig in
    let r = c.requires in
    let p = composable_parts _ _ _ _ _ _ _ _ z.is-0 z.is-1 r.0 r.1 r.2 r.3 r.4 r.5 in (
      search (rules, the_lemmas),
      (
        p.d,
        p.g,
        p.f,
        pass_regs p.d p.g p.f p.composable _ _ _ _ _ _ p.second p.first _ _ _
            c.deref-in-Zig-Zig-2.ensures.value c.deref-in-Zig-Zig-3.ensures.value c.deref-in-Zig-Zig-4.ensures.value,
      ),
    )

pub composite-composite_sings-requires : goal.composite-composite_sings-requires
composite-composite_sings-requires t c =
    let z = c.in-Zig-Zig in
    let r = c.requires in
    let p = composable_parts _ _ _ _ _ _ _ _ z.is-0 z.is-1 r.0 r.1 r.2 r.3 r.4 r.5 in (
      search (rules, the_lemmas),
      (
        p.d,
        p.g,
        p.f,
        pass_sings p.d p.g p.f p.composable _ _ _ _ _ _ p.second p.first _ _ _
            c.deref-in-Zig-Zig-5.ensures.value c.deref-in-Zig-Zig-6.ensures.value c.deref-in-Zig-Zig-7.ensures.value,
      ),
    )

pub composite-unreachable-requires : goal.composite-unreachable-requires
composite-unreachable-requires t c =
    let r = c.requires in
    no_pair_before_zig r.0 r.1 r.2 _ _ _ _ _ _ _ c.in-Zero-Zig.is-0 c.in-Zero-Zig.is-1 r.4 r.5

pub composite-unreachable-requires-in-Zig-Zero : goal.composite-unreachable-requires-in-Zig-Zero
composite-unreachable-requires-in-Zig-Zero t c =
    let r = c.requires in
    no_zig_before_pair r.0 r.1 r.2 _ _ _ _ _ _ _ c.in-Zig-Zero.is-0 c.in-Zig-Zero.is-1 r.4 r.5

pub composite-returns-in-Zero-Zero : goal.composite-returns-in-Zero-Zero
composite-returns-in-Zero-Zero t c = λ n g f e p q. composite_pair n g f _ _ _ _ _ _ c.in-Zero-Zero.is-0 c.in-Zero-Zero.is-1 p q

pub composite-returns-in_ok-sings-in-Zig-Zig : goal.composite-returns-in_ok-sings-in-Zig-Zig
composite-returns-in_ok-sings-in-Zig-Zig t c = λ n g f e p q.
    let z = c.in-Zig-Zig in
    composite_whole _ _ _ _ _ _ _ _ z.is-0 z.is-1 _ _ _ _ _ _ _ _
    c.deref.ensures.value c.deref-in-Zig-Zig.ensures.value
    c.deref-in-Zig-Zig-2.ensures.value c.deref-in-Zig-Zig-3.ensures.value c.deref-in-Zig-Zig-4.ensures.value
    c.deref-in-Zig-Zig-5.ensures.value c.deref-in-Zig-Zig-6.ensures.value c.deref-in-Zig-Zig-7.ensures.value
    _ _ _ c.in_ok-heights-in-Zig-Zig.ensures c.in_ok-regs-in-Zig-Zig.ensures c.in_ok-sings-in-Zig-Zig.ensures n g f e p q

-- where the dual of the height k is found
dual_found : goal.composite_regs-bounds-first-at
dual_found t c =
    let r = c.requires in
    let mono = regs_monotone r.0 r.1 r.2 _ _ _ r.3 in
    regs_inside r.0 r.1 r.2 _ _ _ r.3 c.loop-k.k _ (c.dual_from-at.ensures mono c.loop-k.invariant.0)

pub composite_regs-bounds-first-at : goal.composite_regs-bounds-first-at
composite_regs-bounds-first-at = dual_found

pub composite_regs-offset_bounds-first-at : goal.composite_regs-offset_bounds-first-at
composite_regs-offset_bounds-first-at t c =
    let r = c.requires in
    let mono = regs_monotone r.0 r.1 r.2 _ _ _ r.3 in
    let l : c.dual_from-at.result < length c.args.first.now = regs_inside r.0 r.1 r.2 _ _ _ r.3 c.loop-k.k _ (c.dual_from-at.ensures mono c.loop-k.invariant.0) in
    search rules

pub composite_regs-composite-requires : goal.composite_regs-composite-requires
composite_regs-composite-requires t c =
    let r = c.requires in
    let k = c.loop-k.k in
    let mono = regs_monotone r.0 r.1 r.2 _ _ _ r.3 in
    let e = c.dual_from-at.ensures mono c.loop-k.invariant.0 in (
      search (rules, the_lemmas),
      (
        r.0,
        arrow_reg r.0 r.1 k,
        arrow_reg r.0 r.2 (dual r.1.heights k),
        regs_composable_at r.0 r.1 r.2 _ _ _ r.3 k _ e c.loop-k-test.true _ _ c.index-second-k.is c.index-first-at.is,
        regs_second_at r.0 r.1 r.2 _ _ _ r.3 k _ e c.loop-k-test.true _ _ c.index-second-k.is c.index-first-at.is,
        regs_first_at r.0 r.1 r.2 _ _ _ r.3 k _ e c.loop-k-test.true _ _ c.index-second-k.is c.index-first-at.is,
      ),
    )

pub composite_regs-loop-k-preserved : goal.composite_regs-loop-k-preserved
composite_regs-loop-k-preserved t c =
    let r = c.requires in
    let k = c.loop-k.k in
    let hs = c.args.heights.now in
    let mono = regs_monotone r.0 r.1 r.2 _ _ _ r.3 in
    let e = c.dual_from-at.ensures mono c.loop-k.invariant.0 in
    let up : dual hs k ≤ dual hs (k + 1) = dual_later hs k in (
      omega arith,
      λ d g f s. ap trees_of_arrows c.in_ok-push.ensures.items
          ∙ more_made d (made_reg d g f) _ k _ (c.loop-k.invariant.1 d g f s)
          (c.in_ok-composite.ensures d _ _
          (regs_composable_at d g f _ _ _ s k _ e c.loop-k-test.true _ _ c.index-second-k.is c.index-first-at.is)
          (regs_second_at d g f _ _ _ s k _ e c.loop-k-test.true _ _ c.index-second-k.is c.index-first-at.is)
          (regs_first_at d g f _ _ _ s k _ e c.loop-k-test.true _ _ c.index-second-k.is c.index-first-at.is)),
    )

pub composite_regs-returns : goal.composite_regs-returns
composite_regs-returns t c = λ d g f s. regs_whole d g f _ _ _ s c.loop-k.k _ (omega arith) (c.loop-k.invariant.1 d g f s)

pub composite_sings-composite-requires : goal.composite_sings-composite-requires
composite_sings-composite-requires t c =
    let r = c.requires in
    let i = c.loop-i.i in
    let l : get_or c.args.heights.now i 0 < length c.args.second.now = sings_inside r.0 r.1 r.2 _ _ _ r.3 i _ c.loop-i-test.true refl in (
      search (rules, the_lemmas),
      (
        r.0,
        arrow_sing r.0 r.1 (height r.0 r.2 i),
        arrow_sing r.0 r.2 i,
        sings_composable_at r.0 r.1 r.2 _ _ _ r.3 i _ refl c.loop-i-test.true _ _ c.index-second-h.is c.index-first-i.is,
        sings_second_at r.0 r.1 r.2 _ _ _ r.3 i _ refl c.loop-i-test.true _ _ c.index-second-h.is c.index-first-i.is,
        sings_first_at r.0 r.1 r.2 _ _ _ r.3 i _ refl c.loop-i-test.true _ _ c.index-second-h.is c.index-first-i.is,
      ),
    )

pub composite_sings-loop-i-preserved : goal.composite_sings-loop-i-preserved
composite_sings-loop-i-preserved t c =
    let i = c.loop-i.i in
    λ d g f s. ap trees_of_arrows c.in_ok-push.ensures.items
    ∙ more_made d (made_sing d g f) _ i _ (c.loop-i.invariant d g f s)
    (c.in_ok-composite.ensures d _ _
    (sings_composable_at d g f _ _ _ s i _ refl c.loop-i-test.true _ _ c.index-second-h.is c.index-first-i.is)
    (sings_second_at d g f _ _ _ s i _ refl c.loop-i-test.true _ _ c.index-second-h.is c.index-first-i.is)
    (sings_first_at d g f _ _ _ s i _ refl c.loop-i-test.true _ _ c.index-second-h.is c.index-first-i.is))

pub composite_sings-returns : goal.composite_sings-returns
composite_sings-returns t c = λ d g f s. sings_whole d g f _ _ _ s c.loop-i.i _ (omega arith) (c.loop-i.invariant d g f s)
