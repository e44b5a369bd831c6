use Rattle.std.proofs.Common.{List, Some, sym, ap, ◌∙◌}
use Rattle.diagram_terms.specs.declared.place.Height.{Height}
use Rattle.diagram_terms.proofs.Dimensions.{diagram_dimension}
use Rattle.hashcons.specs.Contents.{diagram_at}
use Rattle.typecheck.proofs.PointVisits.{label_passes, label_fails}
use Rattle.typecheck.proofs.points.failing_label.Goals as goal

pub label-label-requires-clause-zero : goal.label-label-requires-clause-zero
label-label-requires-clause-zero c = diagram_dimension 0 (diagram_at c.args.store.now c.args.d) c.requires.shape

pub returns-then-passes : goal.returns-then-passes
returns-then-passes c = λ generators h.
    label_passes generators c.args.test.now.outer (diagram_at c.args.store.now c.args.d) c.label-label.result c.requires.shape c.label-label.ensures
    (sym (c.passes.ensures generators h) ∙ c.if-passes.true)

pub returns : goal.returns
returns c = λ generators h.
    ap (λ (hs : List Height). Some (record { heights = hs; label = c.label-label.result })) c.new.ensures
    ∙ label_fails generators c.args.test.now.outer (diagram_at c.args.store.now c.args.d) c.label-label.result c.requires.shape c.label-label.ensures
    (sym (c.passes.ensures generators h) ∙ c.if-passes.false)
