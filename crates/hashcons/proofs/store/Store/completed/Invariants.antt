use Rattle.std.proofs.Common.{[], map, take}
use Rattle.std.specs.List.{flat_map}
use Rattle.diagram_terms.specs.Completion.{completions}
use Rattle.hashcons.specs.Ids.{tree_of}
use Rattle.hashcons.specs.Listing.{Visits}
use Rattle.hashcons.proofs.store.Store.completed.Given as goal

abbrev pub invariant-loop-root : goal.invariant-loop-root
invariant-loop-root l =
    Visits l.self [] l.order.keys (flat_map completions (map (tree_of l.self) (take l.root-index l.roots)))
