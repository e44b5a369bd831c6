use Rattle.std.proofs.Common.{◌+◌, ◌*◌, take}
use Rattle.std.specs.List.{flat_map}
use Rattle.diagram_terms.specs.Completion.{completions}
use Rattle.diagram_terms.specs.Dimension.{dimension_of}
use Rattle.diagram_terms.specs.Nodes.{picked}
use Rattle.hashcons.specs.Contents.{arrow_at}
use Rattle.hashcons.specs.Listing.{Visits, first_dimension}
use Rattle.hashcons.proofs.store.Store.+visit_arrows.Given as goal

abbrev pub decreases-visit_arrow : goal.decreases-visit_arrow
decreases-visit_arrow l = 3 * dimension_of (arrow_at l.self.now l.a) + 2

abbrev pub decreases-visit_slices : goal.decreases-visit_slices
decreases-visit_slices l = 3 * dimension_of (arrow_at l.self.now l.a) + 1

abbrev pub decreases-visit_arrows : goal.decreases-visit_arrows
decreases-visit_arrows l = 3 * first_dimension l.self.now.arrows l.arrows.now + 3

abbrev pub invariant-visit_arrows-loop-at : goal.invariant-visit_arrows-loop-at
invariant-visit_arrows-loop-at l =
    Visits l.self l.fn.order.keys l.order.keys (flat_map completions (picked l.self.arrows (take l.at l.arrows)))
