use Rattle.std.proofs.Common.{rules, ◌+◌, ◌<◌, drop, length, Some, arith}
use Rattle.diagram_terms.specs.declared.place.Height.TheVariants as height_kind
use Rattle.region_cut.proofs.WalkSteps.{at_below, height_here, next_above, none_found, regular_step, singular_step}
use Rattle.region_cut.proofs.walk.+walk.Goals as goal

pub after_regular-returns : goal.after_regular-returns
after_regular-returns t c =
    let none = none_found c.args.below _ (Some (drop (c.args.at + 1) c.args.point.now)) _ c.in_default.is c.in_ok-inside.ensures in
    regular_step c.args.below _ _ c.args.j _ c.requires.point c.reg-slice.ensures.tree none _ _ (omega (arith, c.length.ensures.length)) c.in_ok-push-2.ensures.items c.in_ok-heights.ensures

pub after_singular-returns : goal.after_singular-returns
after_singular-returns t c =
    let none = none_found c.args.below _ (Some (drop (c.args.at + 1) c.args.point.now)) _ c.in_default.is c.in_ok-inside.ensures in
    singular_step c.args.below _ _ c.args.k _ c.requires.point c.sing-slice.ensures.tree _ _ none c.in_ok-push-2.ensures.items c.in_ok-heights.ensures

pub point_after-offset_bounds-point-at : goal.point_after-offset_bounds-point-at
point_after-offset_bounds-point-at t c =
    let l : c.args.at < length c.args.point.now = height_here c.args.dim _ _ _ (omega arith) c.requires.point in
    search rules

pub point_after-bounds : goal.point_after-bounds
point_after-bounds t c = height_here c.args.dim _ _ _ (omega arith) c.requires.point

pub point_after-bounds-point-at : goal.point_after-bounds-point-at
point_after-bounds-point-at t c = height_here c.args.dim _ _ _ (omega arith) c.requires.point

pub point_after-after_regular-requires : goal.point_after-after_regular-requires
point_after-after_regular-requires t c =
    let below = at_below c.args.dim _ c.args.at c.args.point.now (height_kind.R c.in-R.j) (omega arith) c.requires.point c.in-R.is in
    (search rules, (c.requires.of_store, (below, height_here c.args.dim _ _ _ (omega arith) c.requires.point)))

pub point_after-after_singular-requires : goal.point_after-after_singular-requires
point_after-after_singular-requires t c =
    let below = at_below c.args.dim _ c.args.at c.args.point.now (height_kind.S c.in-S.k) (omega arith) c.requires.point c.in-S.is in
    (search rules, (c.requires.of_store, (below, height_here c.args.dim _ _ _ (omega arith) c.requires.point)))

pub point_after-returns-in-R : goal.point_after-returns-in-R
point_after-returns-in-R t c =
    next_above c.args.dim _ c.args.at c.args.point.now (height_kind.R c.in-R.j) (omega arith) c.requires.point c.in-R.is _ c.after_regular.ensures

pub point_after-returns-in-S : goal.point_after-returns-in-S
point_after-returns-in-S t c =
    next_above c.args.dim _ c.args.at c.args.point.now (height_kind.S c.in-S.k) (omega arith) c.requires.point c.in-S.is _ c.after_singular.ensures
