use Rattle.std.proofs.Common.{◌∙◌, sym}
use Rattle.diagram_terms.proofs.Decisions.{same_label_decides}
use Rattle.hashcons.specs.Contents.{arrow_at}
use Rattle.plain_maps.proofs.PlainSlices.{identity-ends}
use Rattle.plain_maps.proofs.plainness.has_equal_ends.Goals as goal

pub returns : goal.returns
returns c =
    let ends = c.pair.result in
    let is = identity-ends (arrow_at c.args.store.now c.args.a) ends.0 ends.1 c.pair.ensures in
    let same = same_label_decides ends.0 ends.1 in
    (λ yes. is.1 (same.0 (sym c.eq.ensures ∙ yes)), λ i. c.eq.ensures ∙ same.1 (is.0 i))
