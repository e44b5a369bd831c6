use Rattle.std.proofs.Common.{ap, ◌∙◌}
use Rattle.hashcons.specs.Contents.{diagram_at}
use Rattle.normalise.proofs.FormsInStore.{map_as_leg}
use Rattle.normalise.proofs.ways.way.Goals as goal

pub returns-clause-into : goal.returns-clause-into
returns-clause-into c =
    let h = c.in_ok-made.ensures in
    map_as_leg c.compose.new.store _ c.in_ok-made.made h.valid
    (ap (diagram_at c.compose.new.store) h.target ∙ h.made.grows.diagram_trees c.args.outer.target c.requires.outer.target.of_store)

pub returns-clause-trees : goal.returns-clause-trees
returns-clause-trees c =
    let h = c.in_ok-made.ensures in
    let s = ap (diagram_at c.compose.new.store) h.source ∙ h.made.grows.diagram_trees c.args.source c.requires.inner.source.of_store in
    let a = h.made.tree in
    record {
      of_store = record { source = h.valid.source.of_store; arrow = h.valid.arrow };
      trees = λ i. record { source = s i; arrow = a i };
    }
