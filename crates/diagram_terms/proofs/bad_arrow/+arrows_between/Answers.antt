use Rattle.std.proofs.Common.{◌≤◌, ◌<◌, ◌+◌, length, get_or, Some, option_map, refl, rules, sym, ◌∙◌, ap, arith}
use Rattle.diagram_terms.specs.declared.tree.Arrow.TheViews.{the_lemmas}
use Rattle.diagram_terms.specs.Dual.{dual}
use Rattle.diagram_terms.specs.Family.{reg, sing, height, arrow_reg, arrow_sing}
use Rattle.diagram_terms.specs.Levels.{square_place}
use Rattle.diagram_terms.proofs.ArrowLevels.{stands_at_zero, found_at_zero, no_label_from, no_label_to, stands_above, found_above, lengths_differ, level_fits, regs_between, sings_between, slices_valid, reg_found, sing_found, squares_decide, reg_test, reg_between, reg_fails, reg_passes, regs_pass, regs_rise, regs_leg_len, regs_from_inside, sing_test, sing_between, sing_fails, sing_passes, sings_pass, sings_from_len, sings_height_len, sings_to_inside}
use Rattle.diagram_terms.proofs.Composites.{dual_later}
use Rattle.diagram_terms.proofs.Visiting.{one_more_passes}
use Rattle.diagram_terms.proofs.bad_arrow.+arrows_between.Goals as goal

pub first_bad_in_arrow-bad_pair-requires : goal.first_bad_in_arrow-bad_pair-requires
first_bad_in_arrow-bad_pair-requires t c =
    let r = c.requires in
    let z = stands_at_zero _ _ _ _ _ c.in_default.is r.0 r.1 r.2 r.3 r.4 in
    (z.f, z.X, z.Y, z.stands)

pub first_bad_in_arrow-returns-in_default : goal.first_bad_in_arrow-returns-in_default
first_bad_in_arrow-returns-in_default t c = found_at_zero _ _ _ _ _ c.in_default.is _ c.bad_pair.ensures

pub first_bad_in_arrow-unreachable-requires : goal.first_bad_in_arrow-unreachable-requires
first_bad_in_arrow-unreachable-requires t c = let r = c.requires in no_label_from _ _ _ _ _ _ c.in-Zig.is _ c.in_default-from.is r.0 r.1 r.2 r.3 r.4

pub first_bad_in_arrow-unreachable-requires-in_default-to : goal.first_bad_in_arrow-unreachable-requires-in_default-to
first_bad_in_arrow-unreachable-requires-in_default-to t c = let r = c.requires in no_label_to _ _ _ _ _ _ c.in-Zig.is _ c.in_default-to.is r.0 r.1 r.2 r.3 r.4

pub first_bad_in_arrow-returns-then-not-counts_fit : goal.first_bad_in_arrow-returns-then-not-counts_fit
first_bad_in_arrow-returns-then-not-counts_fit t c =
    found_above _ _ _ _ _ _ c.in-Zig.is _ (λ d f X Y s. ap Some c.place_here.ensures
    ∙ lengths_differ _ _ _ _ _ _ c.in-Zig.is _ _ _ _ c.in-Zig-from.is _ _ _ _ c.in-Zig-to.is d f X Y s _ _ _ _ _ c.deref.ensures.value c.deref-2.ensures.value c.deref-3.ensures.value c.deref-4.ensures.value c.counts_fit.ensures c.if-not-counts_fit.true)

pub first_bad_in_arrow-first_bad_reg-requires : goal.first_bad_in_arrow-first_bad_reg-requires
first_bad_in_arrow-first_bad_reg-requires t c =
    let r = c.requires in
    let z = stands_above _ _ _ _ _ _ c.in-Zig.is r.0 r.1 r.2 r.3 r.4 in
    (search (rules, the_lemmas), (z.d, z.f, z.X, z.Y, regs_between _ _ _ _ _ _ c.in-Zig.is _ _ _ _ c.in-Zig-from.is _ _ _ _ c.in-Zig-to.is z.d z.f z.X z.Y z.stands _ _ _ _ _ c.deref.ensures.value c.deref-2.ensures.value c.deref-3.ensures.value c.deref-4.ensures.value c.counts_fit.ensures c.if-not-counts_fit.false _ _ _ _ c.deref-5.ensures.value c.deref-6.ensures.value c.deref-7.ensures.value c.deref-8.ensures.value))

pub first_bad_in_arrow-returns-in-Some : goal.first_bad_in_arrow-returns-in-Some
first_bad_in_arrow-returns-in-Some t c =
    found_above _ _ _ _ _ _ c.in-Zig.is _ (λ d f X Y s. reg_found _ _ _ _ _ _ c.in-Zig.is _ _ _ _ c.in-Zig-from.is _ _ _ _ c.in-Zig-to.is d f X Y s _ _ _ _ _ c.deref.ensures.value c.deref-2.ensures.value c.deref-3.ensures.value c.deref-4.ensures.value c.counts_fit.ensures c.if-not-counts_fit.false _ (sym c.in-Some.is ∙ c.in_ok-place.ensures d f X Y (regs_between _ _ _ _ _ _ c.in-Zig.is _ _ _ _ c.in-Zig-from.is _ _ _ _ c.in-Zig-to.is d f X Y s _ _ _ _ _ c.deref.ensures.value c.deref-2.ensures.value c.deref-3.ensures.value c.deref-4.ensures.value c.counts_fit.ensures c.if-not-counts_fit.false _ _ _ _ c.deref-5.ensures.value c.deref-6.ensures.value c.deref-7.ensures.value c.deref-8.ensures.value)))

pub first_bad_in_arrow-first_bad_sing-requires : goal.first_bad_in_arrow-first_bad_sing-requires
first_bad_in_arrow-first_bad_sing-requires t c =
    let r = c.requires in
    let z = stands_above _ _ _ _ _ _ c.in-Zig.is r.0 r.1 r.2 r.3 r.4 in
    (search (rules, the_lemmas), (z.d, z.f, z.X, z.Y, sings_between _ _ _ _ _ _ c.in-Zig.is _ _ _ _ c.in-Zig-from.is _ _ _ _ c.in-Zig-to.is z.d z.f z.X z.Y z.stands _ _ _ _ _ c.deref.ensures.value c.deref-2.ensures.value c.deref-3.ensures.value c.deref-4.ensures.value c.counts_fit.ensures c.if-not-counts_fit.false _ _ _ _ c.deref-9.ensures.value c.deref-10.ensures.value c.deref-11.ensures.value c.deref-12.ensures.value))

pub first_bad_in_arrow-returns-in-Some-2 : goal.first_bad_in_arrow-returns-in-Some-2
first_bad_in_arrow-returns-in-Some-2 t c =
    found_above _ _ _ _ _ _ c.in-Zig.is _ (λ d f X Y s. sing_found _ _ _ _ _ _ c.in-Zig.is _ _ _ _ c.in-Zig-from.is _ _ _ _ c.in-Zig-to.is d f X Y s _ _ _ _ _ c.deref.ensures.value c.deref-2.ensures.value c.deref-3.ensures.value c.deref-4.ensures.value c.counts_fit.ensures c.if-not-counts_fit.false _
    (sym c.in_default-2.is ∙ c.in_ok-place.ensures d f X Y (regs_between _ _ _ _ _ _ c.in-Zig.is _ _ _ _ c.in-Zig-from.is _ _ _ _ c.in-Zig-to.is d f X Y s _ _ _ _ _ c.deref.ensures.value c.deref-2.ensures.value c.deref-3.ensures.value c.deref-4.ensures.value c.counts_fit.ensures c.if-not-counts_fit.false _ _ _ _ c.deref-5.ensures.value c.deref-6.ensures.value c.deref-7.ensures.value c.deref-8.ensures.value))
    (sym c.in-Some-2.is ∙ c.in_ok-place-2.ensures d f X Y (sings_between _ _ _ _ _ _ c.in-Zig.is _ _ _ _ c.in-Zig-from.is _ _ _ _ c.in-Zig-to.is d f X Y s _ _ _ _ _ c.deref.ensures.value c.deref-2.ensures.value c.deref-3.ensures.value c.deref-4.ensures.value c.counts_fit.ensures c.if-not-counts_fit.false _ _ _ _ c.deref-9.ensures.value c.deref-10.ensures.value c.deref-11.ensures.value c.deref-12.ensures.value)))

pub first_bad_in_arrow-first_bad_square_of-requires : goal.first_bad_in_arrow-first_bad_square_of-requires
first_bad_in_arrow-first_bad_square_of-requires t c =
    let r = c.requires in
    let z = stands_above _ _ _ _ _ _ c.in-Zig.is r.0 r.1 r.2 r.3 r.4 in (
      z.d,
      z.f,
      z.X,
      z.Y,
      z.stands,
      slices_valid z.d z.f z.X z.Y (level_fits _ _ _ _ _ _ c.in-Zig.is _ _ _ _ c.in-Zig-from.is _ _ _ _ c.in-Zig-to.is z.d z.f z.X z.Y z.stands _ _ _ _ _ c.deref.ensures.value c.deref-2.ensures.value c.deref-3.ensures.value c.deref-4.ensures.value c.counts_fit.ensures c.if-not-counts_fit.false)
          (sym c.in_default-2.is ∙ c.in_ok-place.ensures z.d z.f z.X z.Y (regs_between _ _ _ _ _ _ c.in-Zig.is _ _ _ _ c.in-Zig-from.is _ _ _ _ c.in-Zig-to.is z.d z.f z.X z.Y z.stands _ _ _ _ _ c.deref.ensures.value c.deref-2.ensures.value c.deref-3.ensures.value c.deref-4.ensures.value c.counts_fit.ensures c.if-not-counts_fit.false _ _ _ _ c.deref-5.ensures.value c.deref-6.ensures.value c.deref-7.ensures.value c.deref-8.ensures.value))
          (sym c.in_default-3.is ∙ c.in_ok-place-2.ensures z.d z.f z.X z.Y (sings_between _ _ _ _ _ _ c.in-Zig.is _ _ _ _ c.in-Zig-from.is _ _ _ _ c.in-Zig-to.is z.d z.f z.X z.Y z.stands _ _ _ _ _ c.deref.ensures.value c.deref-2.ensures.value c.deref-3.ensures.value c.deref-4.ensures.value c.counts_fit.ensures c.if-not-counts_fit.false _ _ _ _ c.deref-9.ensures.value c.deref-10.ensures.value c.deref-11.ensures.value c.deref-12.ensures.value)),
    )

pub first_bad_in_arrow-returns-in-None : goal.first_bad_in_arrow-returns-in-None
first_bad_in_arrow-returns-in-None t c =
    found_above _ _ _ _ _ _ c.in-Zig.is _ (λ d f X Y s.
    let no_reg = sym c.in_default-2.is ∙ c.in_ok-place.ensures d f X Y (regs_between _ _ _ _ _ _ c.in-Zig.is _ _ _ _ c.in-Zig-from.is _ _ _ _ c.in-Zig-to.is d f X Y s _ _ _ _ _ c.deref.ensures.value c.deref-2.ensures.value c.deref-3.ensures.value c.deref-4.ensures.value c.counts_fit.ensures c.if-not-counts_fit.false _ _ _ _ c.deref-5.ensures.value c.deref-6.ensures.value c.deref-7.ensures.value c.deref-8.ensures.value) in
    let no_sing = sym c.in_default-3.is ∙ c.in_ok-place-2.ensures d f X Y (sings_between _ _ _ _ _ _ c.in-Zig.is _ _ _ _ c.in-Zig-from.is _ _ _ _ c.in-Zig-to.is d f X Y s _ _ _ _ _ c.deref.ensures.value c.deref-2.ensures.value c.deref-3.ensures.value c.deref-4.ensures.value c.counts_fit.ensures c.if-not-counts_fit.false _ _ _ _ c.deref-9.ensures.value c.deref-10.ensures.value c.deref-11.ensures.value c.deref-12.ensures.value) in
    let valid = slices_valid d f X Y (level_fits _ _ _ _ _ _ c.in-Zig.is _ _ _ _ c.in-Zig-from.is _ _ _ _ c.in-Zig-to.is d f X Y s _ _ _ _ _ c.deref.ensures.value c.deref-2.ensures.value c.deref-3.ensures.value c.deref-4.ensures.value c.counts_fit.ensures c.if-not-counts_fit.false) no_reg no_sing in
    ap (option_map square_place) (sym c.in-None.is) ∙ c.in_ok-first_bad_square_of.ensures d f X Y s valid ∙ squares_decide _ _ _ _ _ _ c.in-Zig.is _ _ _ _ c.in-Zig-from.is _ _ _ _ c.in-Zig-to.is d f X Y s _ _ _ _ _ c.deref.ensures.value c.deref-2.ensures.value c.deref-3.ensures.value c.deref-4.ensures.value c.counts_fit.ensures c.if-not-counts_fit.false no_reg no_sing)

pub first_bad_in_arrow-returns-in-Some-3 : goal.first_bad_in_arrow-returns-in-Some-3
first_bad_in_arrow-returns-in-Some-3 t c =
    found_above _ _ _ _ _ _ c.in-Zig.is _ (λ d f X Y s.
    let no_reg = sym c.in_default-2.is ∙ c.in_ok-place.ensures d f X Y (regs_between _ _ _ _ _ _ c.in-Zig.is _ _ _ _ c.in-Zig-from.is _ _ _ _ c.in-Zig-to.is d f X Y s _ _ _ _ _ c.deref.ensures.value c.deref-2.ensures.value c.deref-3.ensures.value c.deref-4.ensures.value c.counts_fit.ensures c.if-not-counts_fit.false _ _ _ _ c.deref-5.ensures.value c.deref-6.ensures.value c.deref-7.ensures.value c.deref-8.ensures.value) in
    let no_sing = sym c.in_default-3.is ∙ c.in_ok-place-2.ensures d f X Y (sings_between _ _ _ _ _ _ c.in-Zig.is _ _ _ _ c.in-Zig-from.is _ _ _ _ c.in-Zig-to.is d f X Y s _ _ _ _ _ c.deref.ensures.value c.deref-2.ensures.value c.deref-3.ensures.value c.deref-4.ensures.value c.counts_fit.ensures c.if-not-counts_fit.false _ _ _ _ c.deref-9.ensures.value c.deref-10.ensures.value c.deref-11.ensures.value c.deref-12.ensures.value) in
    let valid = slices_valid d f X Y (level_fits _ _ _ _ _ _ c.in-Zig.is _ _ _ _ c.in-Zig-from.is _ _ _ _ c.in-Zig-to.is d f X Y s _ _ _ _ _ c.deref.ensures.value c.deref-2.ensures.value c.deref-3.ensures.value c.deref-4.ensures.value c.counts_fit.ensures c.if-not-counts_fit.false) no_reg no_sing in
    ap Some c.place_here-in-Some-3.ensures ∙ ap (option_map square_place) (sym c.in-Some-3.is) ∙ c.in_ok-first_bad_square_of.ensures d f X Y s valid ∙ squares_decide _ _ _ _ _ _ c.in-Zig.is _ _ _ _ c.in-Zig-from.is _ _ _ _ c.in-Zig-to.is d f X Y s _ _ _ _ _ c.deref.ensures.value c.deref-2.ensures.value c.deref-3.ensures.value c.deref-4.ensures.value c.counts_fit.ensures c.if-not-counts_fit.false no_reg no_sing)

pub first_bad_reg-bounds-from-at : goal.first_bad_reg-bounds-from-at
first_bad_reg-bounds-from-at t c =
    let r = c.requires in
    let e = c.dual_from-at.ensures (regs_rise r.0 r.1 r.2 r.3 _ _ _ _ r.4) c.loop-k.invariant.0 in
    regs_from_inside r.0 r.1 r.2 r.3 _ _ _ _ r.4 c.loop-k.k _ e

pub first_bad_reg-offset_bounds-from-at : goal.first_bad_reg-offset_bounds-from-at
first_bad_reg-offset_bounds-from-at t c =
    let r = c.requires in
    let e = c.dual_from-at.ensures (regs_rise r.0 r.1 r.2 r.3 _ _ _ _ r.4) c.loop-k.invariant.0 in
    let l : c.dual_from-at.result < length c.args.from.now = regs_from_inside r.0 r.1 r.2 r.3 _ _ _ _ r.4 c.loop-k.k _ e in
    search rules

pub first_bad_reg-bounds-regs-k : goal.first_bad_reg-bounds-regs-k
first_bad_reg-bounds-regs-k t c =
    let r = c.requires in
    let n = regs_leg_len r.0 r.1 r.2 r.3 _ _ _ _ r.4 in
    omega arith

pub first_bad_reg-first_bad_in_arrow-requires : goal.first_bad_reg-first_bad_in_arrow-requires
first_bad_reg-first_bad_in_arrow-requires t c =
    let r = c.requires in
    let k = c.loop-k.k in
    let e = c.dual_from-at.ensures (regs_rise r.0 r.1 r.2 r.3 _ _ _ _ r.4) c.loop-k.invariant.0 in
    let n = regs_leg_len r.0 r.1 r.2 r.3 _ _ _ _ r.4 in
    let l : c.dual_from-at.result < length c.args.from.now = regs_from_inside r.0 r.1 r.2 r.3 _ _ _ _ r.4 k _ e in
    let m : k < length c.args.regs.now = omega arith in (
      search (rules, the_lemmas),
      (
        r.0,
        arrow_reg r.0 r.1 k,
        reg r.0 r.2 (dual r.1.heights k),
        reg r.0 r.3 k,
        reg_between r.0 r.1 r.2 r.3 _ _ _ _ r.4 k _ c.loop-k-test.true e _ _ _ c.index-regs-k.is c.index-from-at.is c.index-to-k.is,
      ),
    )

pub first_bad_reg-returns-in-Some : goal.first_bad_reg-returns-in-Some
first_bad_reg-returns-in-Some t c = λ d f X Y r.
    let k = c.loop-k.k in
    let i = c.loop-k.invariant in
    let e = c.dual_from-at.ensures (regs_rise d f X Y _ _ _ _ r) i.0 in
    let between = reg_between d f X Y _ _ _ _ r k _ c.loop-k-test.true e _ _ _ c.index-regs-k.is c.index-from-at.is c.index-to-k.is in
    ap Some c.in_ok-place_under.ensures
    ∙ reg_fails d f X Y _ _ _ _ r k _ c.loop-k-test.true (i.1 d f X Y r)
    (sym c.in-Some.is ∙ c.in_ok-place.ensures d _ _ _ between)

pub first_bad_reg-loop-k-preserved : goal.first_bad_reg-loop-k-preserved
first_bad_reg-loop-k-preserved t c =
    let k = c.loop-k.k in
    let i = c.loop-k.invariant in
    let q = c.requires in
    let hs = c.args.heights.now in
    let at_is = c.dual_from-at.ensures (regs_rise q.0 q.1 q.2 q.3 _ _ _ _ q.4) i.0 in
    let up : dual hs k ≤ dual hs (k + 1) = dual_later hs k in (
      omega arith,
      λ d f X Y r.
          let e = c.dual_from-at.ensures (regs_rise d f X Y _ _ _ _ r) i.0 in
          let between = reg_between d f X Y _ _ _ _ r k _ c.loop-k-test.true e _ _ _ c.index-regs-k.is c.index-from-at.is c.index-to-k.is in
          one_more_passes (reg_test d f X Y _ _ _ _ r) k (i.1 d f X Y r)
          (reg_passes d f X Y _ _ _ _ r k (sym c.in_default.is ∙ c.in_ok-place.ensures d _ _ _ between)),
    )

pub first_bad_reg-returns : goal.first_bad_reg-returns
first_bad_reg-returns t c = λ d f X Y r. regs_pass d f X Y _ _ _ _ r c.loop-k.k (omega arith) (c.loop-k.invariant.1 d f X Y r)

pub first_bad_sing-bounds-heights-i : goal.first_bad_sing-bounds-heights-i
first_bad_sing-bounds-heights-i t c =
    let r = c.requires in
    let n = sings_height_len r.0 r.1 r.2 r.3 _ _ _ _ r.4 in
    omega arith

pub first_bad_sing-bounds-from-i : goal.first_bad_sing-bounds-from-i
first_bad_sing-bounds-from-i t c =
    let r = c.requires in
    let n = sings_from_len r.0 r.1 r.2 r.3 _ _ _ _ r.4 in
    omega arith

pub first_bad_sing-bounds-to-h : goal.first_bad_sing-bounds-to-h
first_bad_sing-bounds-to-h t c =
    let r = c.requires in
    sings_to_inside r.0 r.1 r.2 r.3 _ _ _ _ r.4 c.loop-i.i _ c.loop-i-test.true refl

pub first_bad_sing-offset_bounds-to-h : goal.first_bad_sing-offset_bounds-to-h
first_bad_sing-offset_bounds-to-h t c =
    let r = c.requires in
    let l : get_or c.args.heights.now c.loop-i.i 0 < length c.args.to.now = sings_to_inside r.0 r.1 r.2 r.3 _ _ _ _ r.4 c.loop-i.i _ c.loop-i-test.true refl in
    search rules

pub first_bad_sing-first_bad_in_arrow-requires : goal.first_bad_sing-first_bad_in_arrow-requires
first_bad_sing-first_bad_in_arrow-requires t c =
    let r = c.requires in
    let i = c.loop-i.i in
    let n = sings_from_len r.0 r.1 r.2 r.3 _ _ _ _ r.4 in
    let l : get_or c.args.heights.now i 0 < length c.args.to.now = sings_to_inside r.0 r.1 r.2 r.3 _ _ _ _ r.4 i _ c.loop-i-test.true refl in
    let m : i < length c.args.from.now = omega arith in (
      search (rules, the_lemmas),
      (
        r.0,
        arrow_sing r.0 r.1 i,
        sing r.0 r.2 i,
        sing r.0 r.3 (height r.0 r.1 i),
        sing_between r.0 r.1 r.2 r.3 _ _ _ _ r.4 i _ c.loop-i-test.true refl _ _ _ c.index-sings-i.is c.index-from-i.is c.index-to-h.is,
      ),
    )

pub first_bad_sing-returns-in-Some : goal.first_bad_sing-returns-in-Some
first_bad_sing-returns-in-Some t c = λ d f X Y r.
    let i = c.loop-i.i in
    let between = sing_between d f X Y _ _ _ _ r i _ c.loop-i-test.true refl _ _ _ c.index-sings-i.is c.index-from-i.is c.index-to-h.is in
    ap Some c.in_ok-place_under.ensures
    ∙ sing_fails d f X Y _ _ _ _ r i _ c.loop-i-test.true (c.loop-i.invariant d f X Y r)
    (sym c.in-Some.is ∙ c.in_ok-place.ensures d _ _ _ between)

pub first_bad_sing-loop-i-preserved : goal.first_bad_sing-loop-i-preserved
first_bad_sing-loop-i-preserved t c = λ d f X Y r.
    let i = c.loop-i.i in
    let between = sing_between d f X Y _ _ _ _ r i _ c.loop-i-test.true refl _ _ _ c.index-sings-i.is c.index-from-i.is c.index-to-h.is in
    one_more_passes (sing_test d f X Y _ _ _ _ r) i (c.loop-i.invariant d f X Y r)
    (sing_passes d f X Y _ _ _ _ r i (sym c.in_default.is ∙ c.in_ok-place.ensures d _ _ _ between))

pub first_bad_sing-returns : goal.first_bad_sing-returns
first_bad_sing-returns t c = λ d f X Y r. sings_pass d f X Y _ _ _ _ r c.loop-i.i (omega arith) (c.loop-i.invariant d f X Y r)
