use Rattle.std.proofs.Common.{sym, subst, ◌∙◌}
use Rattle.diagram_terms.specs.Shape.{IsArrow}
use Rattle.diagram_terms.proofs.Dimensions.{arrow_tree}
use Rattle.diagram_terms.proofs.Shapes.{IsArrow-ends}
use Rattle.degeneracy.specs.FactorTrees.{factor_tree}
use Rattle.degeneracy.proofs.FactorsBySlices.{factors_zero, factor_tree-ends}
use Rattle.degeneracy.proofs.KeptFactors.{factors-grow}
use Rattle.degeneracy.proofs.factors.factor_of_pairs.Goals as goal

pub put_arrow-requires-clause-shape : goal.put_arrow-requires-clause-shape
put_arrow-requires-clause-shape c = arrow_tree 0 _ (IsArrow-ends _ _)

pub returns : goal.returns
returns c =
    let made = c.in_ok-arrow.ensures.made in
    record {
      grows = made.grows;
      right = factors-grow _ _ _ made.grows c.requires.kept;
      found = (
        factors_zero _ _ (subst (IsArrow 0) (sym c.pair.ensures) (IsArrow-ends _ _)),
        record {
          of_store = made.of_store;
          tree = made.tree ∙ sym (factor_tree-ends _ _ _ _) ∙ (λ i. factor_tree (sym c.pair-2.ensures i) (sym c.pair.ensures i));
        },
      );
    }
