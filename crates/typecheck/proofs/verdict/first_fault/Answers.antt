use Rattle.std.proofs.Common.{◌≡◌, Option, sym, ap, ◌∙◌}
use Rattle.std.proofs.lemmas.Result.{IfOk-weaker}
use Rattle.diagram_terms.specs.declared.place.Fault.{Fault}
use Rattle.hashcons.specs.Contents.{diagram_at}
use Rattle.plain_maps.specs.Plainness.{loose_leg}
use Rattle.zigzag_maps.specs.Visits.{fault_of}
use Rattle.diagram_terms.specs.Typing.{first_point_fault_in, first_fault_in}
use Rattle.typecheck.specs.Points.{OfAll}
use Rattle.typecheck.proofs.FaultSteps.{leg_is_first, points_decide}
use Rattle.typecheck.proofs.verdict.first_fault.Goals as goal

pub returns-in-Some-clause-exact : goal.returns-in-Some-clause-exact
returns-in-Some-clause-exact c = λ generators h.
    let same = c.in_ok-place.ensures.grows.diagram_trees c.args.d c.requires in
    leg_is_first generators (diagram_at c.args.store.now c.args.d) (sym (ap fault_of c.in_default.is) ∙ c.in_ok-place.ensures.exact) c.in-Some.steps
    (sym c.in-Some.is ∙ c.in_ok-steps.ensures.exact ∙ ap loose_leg same)

pub returns-clause-exact : goal.returns-clause-exact
returns-clause-exact c =
    let t = diagram_at c.args.store.now c.args.d in
    let u = diagram_at c.valid.new.store c.args.d in
    let same = c.in_ok-place.ensures.grows.diagram_trees c.args.d c.requires in
    IfOk-weaker c.first_failing_point.result
    (λ (fault : Option Fault). OfAll c.args.dims.now (λ generators. fault ≡ first_point_fault_in generators u))
    (λ (fault : Option Fault). OfAll c.args.dims.now (λ generators. fault ≡ first_fault_in generators t))
    (λ fault is generators h. is generators h ∙ ap (first_point_fault_in generators) same
    ∙ points_decide generators t (sym (ap fault_of c.in_default.is) ∙ c.in_ok-place.ensures.exact)
    (sym c.in_default-2.is ∙ c.in_ok-steps.ensures.exact ∙ ap loose_leg same))
    c.first_failing_point.ensures
