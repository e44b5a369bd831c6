use Rattle.std.proofs.Common.{◌≡◌, IfSome, length, sym, ap, subst, ◌∙◌, rules, arith}
use Rattle.diagram_terms.specs.Order.{steps_on, LeadsIn, PassedBefore, regs_before, sings_before, in_order}
use Rattle.diagram_terms.specs.Places.{first_failure}
use Rattle.diagram_terms.specs.Shape.{reg_at, sing_at}
use Rattle.diagram_terms.specs.Tree.{regs}
use Rattle.diagram_terms.proofs.NextSteps.{part_fails, part_passes, passed-more, none_in_part}
use Rattle.hashcons.specs.Contents.{IsDiagramOf, diagram_at}
use Rattle.hashcons.proofs.Growth.{Grows-trans}
use Rattle.zigzag_maps.specs.Walks.{PassesTests, tests_in_part, tests_to_part}
use Rattle.zigzag_maps.proofs.ValiditySteps.{reg_slice, sing_slice}
use Rattle.zigzag_maps.proofs.SlicesBeforeLegs.{before_legs, regs_len}
use Rattle.zigzag_maps.proofs.walk.+walks.Goals as goal

pub first_in-pass-requires-clause-passes : goal.first_in-pass-requires-clause-passes
first_in-pass-requires-clause-passes g t c =
    let made = c.in_ok-place.ensures in
    subst (PassesTests g.W.Walk.tests) (sym (made.grows.diagram_trees c.args.d c.requires.diagram.of_store)) (sym c.in_default.is ∙ made.exact)

pub first_in_parts-returns-in-Some-2-clause-exact : goal.first_in_parts-returns-in-Some-2-clause-exact
first_in_parts-returns-in-Some-2-clause-exact g t c =
    let u = diagram_at (g.S.Held.contents c.args.store.now) c.args.d in
    let n = c.length-length.result in
    let inv = c.loop-next.invariant in
    let exact = subst (λ v. c.in_ok-found.found ≡ first_failure (tests_in_part g.W.Walk.tests g.W.Walk.legs v c.in-Some.step))
    (inv.grows.diagram_trees c.args.d c.requires.diagram.of_store) c.in_ok-found.ensures.exact in
    part_fails (tests_in_part g.W.Walk.tests g.W.Walk.legs u) n c.in-Some.step c.in_ok-found.found c.in_ok-place.field-0 exact c.in_ok-place.ensures c.in-Some-2.place
    (subst (λ next. IfSome next (LeadsIn n)) c.in-Some.is inv.leads) c.in-Some-2.is
    ∙ subst (λ next. first_failure (in_order (steps_on n next) (tests_to_part g.W.Walk.tests g.W.Walk.legs u)) ≡ first_failure (g.W.Walk.tests u)) c.in-Some.is inv.rest

pub first_in_parts-loop-next-preserved : goal.first_in_parts-loop-next-preserved
first_in_parts-loop-next-preserved g t c =
    let u = diagram_at (g.S.Held.contents c.args.store.now) c.args.d in
    let n = c.length-length.result in
    let inv = c.loop-next.invariant in
    let found = c.in_ok-found.ensures in
    let exact = subst (λ v. c.in_ok-found.found ≡ first_failure (tests_in_part g.W.Walk.tests g.W.Walk.legs v c.in-Some.step))
    (inv.grows.diagram_trees c.args.d c.requires.diagram.of_store) found.exact in
    record {
      right = found.right;
      grows = Grows-trans _ _ _ inv.grows found.grows;
      leads = c.next_step-next.ensures.leads;
      before = rw (c.next_step-next.ensures.regs, c.next_step-next.ensures.sings) (passed-more (tests_in_part g.W.Walk.tests g.W.Walk.legs u) n c.in-Some.step
          (subst (λ next. PassedBefore (tests_in_part g.W.Walk.tests g.W.Walk.legs u) (regs_before n next) (sings_before n next)) c.in-Some.is inv.before)
          (none_in_part c.in-Some.step _ _ (tests_in_part g.W.Walk.tests g.W.Walk.legs u c.in-Some.step) exact c.in_ok-place.ensures c.in_default-2.is));
      rest = part_passes (tests_in_part g.W.Walk.tests g.W.Walk.legs u) n c.in-Some.step c.in_ok-found.found c.in_ok-place.field-0 exact c.in_ok-place.ensures
          (steps_on n c.next_step-next.result) c.next_step-next.ensures.next c.in_default-2.is
          ∙ subst (λ next. first_failure (in_order (steps_on n next) (tests_to_part g.W.Walk.tests g.W.Walk.legs u)) ≡ first_failure (g.W.Walk.tests u)) c.in-Some.is inv.rest;
    }

-- ---- one part

pub first_at-reg-slice-requires-clause-within : goal.first_at-reg-slice-requires-clause-within
first_at-reg-slice-requires-clause-within g t c =
    let l = subst (LeadsIn _) c.in-R.is c.requires.leads in
    let same = ap (λ s. length (regs (diagram_at s c.args.d))) c.store.ensures in
    omega (arith, same, regs_len c.args.dim c.requires.above _ c.requires.diagram.shape)

pub first_at-first_in-requires : goal.first_at-first_in-requires
first_at-first_in-requires g t c κs within =
    let of_store = subst (λ s. IsDiagramOf s c.reg-slice.result) c.store.ensures c.reg-slice.ensures.of_store in
    let tree = subst (λ s. diagram_at s c.reg-slice.result ≡ reg_at (diagram_at s c.args.d) c.in-R.j) c.store.ensures c.reg-slice.ensures.tree in
    let slice = reg_slice (g.S.Held.contents c.args.store.now) c.args.d c.reg-slice.result of_store c.args.dim c.in-R.j c.requires.above c.requires.diagram
    (subst (LeadsIn _) c.in-R.is c.requires.leads) tree
    in
    (search rules, (search rules, (search rules, (c.requires.law, (slice, (c.requires.right, c.requires.store))))))

pub first_at-first_in-requires-in-S : goal.first_at-first_in-requires-in-S
first_at-first_in-requires-in-S g t c κs within =
    let of_store = subst (λ s. IsDiagramOf s c.sing-slice.result) c.store-in-S.ensures c.sing-slice.ensures.of_store in
    let tree = subst (λ s. diagram_at s c.sing-slice.result ≡ sing_at (diagram_at s c.args.d) c.in-S.i) c.store-in-S.ensures c.sing-slice.ensures.tree in
    let slice = sing_slice (g.S.Held.contents c.args.store.now) c.args.d c.sing-slice.result of_store c.args.dim c.in-S.i c.requires.above c.requires.diagram
    (subst (LeadsIn _) c.in-S.is c.requires.leads) tree
    in
    (search rules, (search rules, (search rules, (c.requires.law, (slice, (c.requires.right, c.requires.store))))))

pub first_at-leg-requires-clause-passed : goal.first_at-leg-requires-clause-passed
first_at-leg-requires-clause-passed g t c =
    before_legs (tests_in_part g.W.Walk.tests g.W.Walk.legs (diagram_at (g.S.Held.contents c.args.store.now) c.args.d)) _ c.args.step c.requires.leads c.in_default.not-R c.in_default.not-S c.requires.before
