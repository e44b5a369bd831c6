use Rattle.std.proofs.Common.{◌≡◌, None, ap, ◌∙◌}
use Rattle.hashcons.specs.Contents.{diagram_at}
use Rattle.found_ids.proofs.FoundStays.{none_found}
use Rattle.typecheck.specs.Points.{OfAll}
use Rattle.typecheck.specs.Walk.{failing_in, fault_over}
use Rattle.typecheck.proofs.FaultSteps.{point_tells}
use Rattle.typecheck.proofs.points.first_failing_point.Goals as goal

pub returns : goal.returns
returns c = λ generators h.
    c.fault_at.ensures generators h ∙ ap (fault_over generators) (c.in_ok-found.ensures.exact generators h)
    ∙ point_tells generators c.dim-outer.result (diagram_at c.args.store.now c.args.d) c.dim-outer.ensures.dim

pub failing_point-requires-clause-passed : goal.failing_point-requires-clause-passed
failing_point-requires-clause-passed c =
    none_found _ (λ u. OfAll c.args.dims.now (λ generators. failing_in generators c.dim-outer.result u ≡ None)) _ c.new-passed.ensures
