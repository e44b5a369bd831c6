use Rattle.std.proofs.Common.{◌+◌, ◌*◌, take}
use Rattle.std.specs.List.{flat_map}
use Rattle.diagram_terms.specs.Completion.{completions}
use Rattle.diagram_terms.specs.Dimension.{dimension_of}
use Rattle.diagram_terms.specs.Nodes.{picked}
use Rattle.hashcons.specs.Contents.{diagram_at}
use Rattle.hashcons.specs.Listing.{Visits, first_dimension}
use Rattle.hashcons.proofs.store.Store.+visit_diagrams.Given as goal

abbrev pub decreases-visit_diagram : goal.decreases-visit_diagram
decreases-visit_diagram l = 3 * dimension_of (diagram_at l.self.now l.d) + 2

abbrev pub decreases-visit_parts : goal.decreases-visit_parts
decreases-visit_parts l = 3 * dimension_of (diagram_at l.self.now l.d) + 1

abbrev pub decreases-visit_diagrams : goal.decreases-visit_diagrams
decreases-visit_diagrams l = 3 * first_dimension l.self.now.diagrams l.ds.now + 3

abbrev pub invariant-visit_diagrams-loop-at : goal.invariant-visit_diagrams-loop-at
invariant-visit_diagrams-loop-at l =
    Visits l.self l.fn.order.keys l.order.keys (flat_map completions (picked l.self.diagrams (take l.at l.ds)))
