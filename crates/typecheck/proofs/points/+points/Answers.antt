use Rattle.std.proofs.Common.{◌≡◌, None, option_map, sym, ap, ◌∙◌, rules, arith}
use Rattle.hashcons.specs.declared.id.AnyId.TheVariants as id
use Rattle.hashcons.specs.Contents.{diagram_at}
use Rattle.zigzag_maps.proofs.ValiditySteps.{reg_slice, sing_slice}
use Rattle.found_ids.proofs.FoundStays.{one_more_found}
use Rattle.typecheck.specs.Points.{OfAll}
use Rattle.typecheck.specs.Walk.{failing_in, point_of}
use Rattle.typecheck.proofs.PointVisits.{visit_start, visit_reg, visit_sing, visit_passes}
use Rattle.typecheck.proofs.points.+points.Goals as goal

-- ---- a diagram, looked at once

pub failing_point-returns-then-has-clause-exact : goal.failing_point-returns-then-has-clause-exact
failing_point-returns-then-has-clause-exact t c = λ generators h. sym (c.requires.passed.are (id.Diagram c.args.d) (c.has.ensures.0 c.if-has.true) generators h)

pub failing_point-returns-in_err-keep-clause-passed : goal.failing_point-returns-in_err-keep-clause-passed
failing_point-returns-in_err-keep-clause-passed t c =
    let made = c.in_ok-point.ensures in
    let dims = c.args.test.now.dims.now in
    one_more_found _ (λ u. OfAll dims (λ generators. failing_in generators c.args.test.now.outer u ≡ None)) _ _ _ made.passed c.keep.ensures.others c.requires.diagram.of_store
    (λ generators h. sym (made.exact generators h) ∙ ap (option_map point_of) c.in_default.is)

pub failing_point-returns-clause-passed : goal.failing_point-returns-clause-passed
failing_point-returns-clause-passed t c =
    let made = c.in_ok-point.ensures in
    let dims = c.args.test.now.dims.now in
    one_more_found _ (λ u. OfAll dims (λ generators. failing_in generators c.args.test.now.outer u ≡ None)) _ _ _ made.passed c.keep.ensures.others c.requires.diagram.of_store
    (λ generators h. sym (made.exact generators h) ∙ ap (option_map point_of) c.in_default.is)

-- ---- height by height

pub failing_by_height-loop-i-init : goal.failing_by_height-loop-i-init
failing_by_height-loop-i-init t c =
    let u = diagram_at c.args.store.now c.args.d in
    record {
      passed = c.requires.passed;
      rest = λ generators h. visit_start generators c.args.test.now.outer c.args.dim u (omega arith) c.requires.diagram.shape;
    }

pub failing_by_height-returns-in-Some-clause-exact : goal.failing_by_height-returns-in-Some-clause-exact
failing_by_height-returns-in-Some-clause-exact t c = λ generators h.
    let u = diagram_at c.args.store.now c.args.d in
    visit_reg generators c.args.test.now.outer u c.loop-i.i (omega arith) (point_of c.in-Some.point)
    (sym (ap (option_map point_of) c.in-Some.is) ∙ c.in_ok-point.ensures.exact generators h)
    ∙ c.loop-i.invariant.rest generators h

pub failing_by_height-returns-in-Some-2-clause-exact : goal.failing_by_height-returns-in-Some-2-clause-exact
failing_by_height-returns-in-Some-2-clause-exact t c = λ generators h.
    let u = diagram_at c.args.store.now c.args.d in
    visit_sing generators c.args.test.now.outer u c.loop-i.i (omega arith)
    (sym (ap (option_map point_of) c.in_default.is) ∙ c.in_ok-point.ensures.exact generators h) (point_of c.in-Some-2.point)
    (sym (ap (option_map point_of) c.in-Some-2.is) ∙ c.in_ok-point-2.ensures.exact generators h)
    ∙ c.loop-i.invariant.rest generators h

pub failing_by_height-loop-i-preserved : goal.failing_by_height-loop-i-preserved
failing_by_height-loop-i-preserved t c =
    let u = diagram_at c.args.store.now c.args.d in
    record {
      passed = c.in_ok-point-2.ensures.passed;
      rest = λ generators h. visit_passes generators c.args.test.now.outer u c.loop-i.i (omega arith)
          (sym (ap (option_map point_of) c.in_default.is) ∙ c.in_ok-point.ensures.exact generators h)
          (sym (ap (option_map point_of) c.in_default-2.is) ∙ c.in_ok-point-2.ensures.exact generators h)
          ∙ c.loop-i.invariant.rest generators h;
    }

-- ---- slices

pub failing_over_reg-failing_point-requires : goal.failing_over_reg-failing_point-requires
failing_over_reg-failing_point-requires t c = (
  search rules,
  (
    reg_slice c.args.store.now c.args.d c.reg-slice.result c.reg-slice.ensures.of_store c.args.dim c.args.j c.requires.above c.requires.diagram c.requires.within c.reg-slice.ensures.tree,
    (c.requires.passed, c.requires.store),
  ),
)

pub failing_over_sing-failing_point-requires : goal.failing_over_sing-failing_point-requires
failing_over_sing-failing_point-requires t c = (
  search rules,
  (
    sing_slice c.args.store.now c.args.d c.sing-slice.result c.sing-slice.ensures.of_store c.args.dim c.args.i c.requires.above c.requires.diagram c.requires.within c.sing-slice.ensures.tree,
    (c.requires.passed, c.requires.store),
  ),
)
