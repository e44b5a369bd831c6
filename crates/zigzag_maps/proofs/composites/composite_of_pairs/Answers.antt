use Rattle.diagram_terms.proofs.Dimensions.{arrow_tree}
use Rattle.diagram_terms.proofs.Shapes.{IsArrow-ends}
use Rattle.std.proofs.Common.{sym}
use Rattle.hashcons.proofs.OneMoreTree.{Grows-refl}
use Rattle.hashcons.proofs.Growth.{Makes-last}
use Rattle.zigzag_maps.proofs.CompositeSlices.{composite_tree-ends}
use Rattle.zigzag_maps.proofs.composites.composite_of_pairs.Goals as goal

pub put_arrow-requires-clause-shape : goal.put_arrow-requires-clause-shape
put_arrow-requires-clause-shape c = arrow_tree 0 _ (IsArrow-ends _ _)

pub returns : goal.returns
returns c =
    Makes-last _ _ _ _ _ _ _ (Grows-refl _) (rw (c.pair.ensures, c.pair-2.ensures) (sym (composite_tree-ends _ _ _ _))) c.put_arrow.ensures.made
