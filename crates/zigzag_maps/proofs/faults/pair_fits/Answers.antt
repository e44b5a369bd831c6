use Rattle.std.proofs.Common.{sym, ap, ◌∙◌}
use Rattle.diagram_terms.specs.declared.place.End.TheVariants as at_end
use Rattle.diagram_terms.specs.FaultsOnTrees.{tests_between}
use Rattle.diagram_terms.specs.Places.{here}
use Rattle.diagram_terms.proofs.Dimensions.{diagram_dimension, arrow_dimension}
use Rattle.zigzag_maps.proofs.TestsOfArrows.{tests_between-ends}
use Rattle.zigzag_maps.proofs.faults.pair_fits.Goals as goal

pub pair-requires-clause-zero : goal.pair-requires-clause-zero
pair-requires-clause-zero c = arrow_dimension 0 _ c.requires.map.arrow_shape

pub label-x-requires-clause-zero : goal.label-x-requires-clause-zero
label-x-requires-clause-zero c = diagram_dimension 0 _ c.requires.map.source_valid.shape

pub label-y-requires-clause-zero : goal.label-y-requires-clause-zero
label-y-requires-clause-zero c = diagram_dimension 0 _ c.requires.map.target_valid.shape

pub returns : goal.returns
returns c =
    let p = c.label-x.ensures in
    let q = c.label-y.ensures in
    let r = c.pair.ensures in
    (λ i. tests_between (p i) (q i) (r i)) ∙ tests_between-ends _ _ _ _ ∙ ap (here at_end.Ends) (sym c.is_pair.ensures)
