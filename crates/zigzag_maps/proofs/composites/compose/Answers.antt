use Rattle.std.proofs.Common.{sym, subst}
use Rattle.hashcons.specs.Contents.{diagram_at, arrow_at}
use Rattle.diagram_terms.specs.ValidTrees.{IsArrowBetween}
use Rattle.zigzag_maps.proofs.CompositeSlices.{composable_between}
use Rattle.zigzag_maps.proofs.ValidMaps.{composite_is_valid}
use Rattle.zigzag_maps.proofs.composites.compose.Goals as goal

pub composite-requires-clause-composable : goal.composite-requires-clause-composable
composite-requires-clause-composable c =
    let now = c.args.store.now in
    let g = c.requires.outer.between in
    composable_between _ _ _ _ _ c.requires.inner.between
    (subst (λ d. IsArrowBetween (diagram_at now d) (diagram_at now c.args.g.target) (arrow_at now c.args.g.arrow)) (sym c.requires.meet) g)

pub returns-clause-valid : goal.returns-clause-valid
returns-clause-valid c =
    let made = c.in_ok-arrow.ensures.made in
    composite_is_valid c.args.store.now c.composite.new.store made.grows c.args.g c.args.f c.in_ok-arrow.arrow
    c.requires.outer c.requires.inner c.requires.meet made.of_store made.tree
