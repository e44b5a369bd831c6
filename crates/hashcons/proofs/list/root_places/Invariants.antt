use Rattle.hashcons.specs.Listing.{ArePlacesOf}
use Rattle.hashcons.proofs.list.root_places.Given as goal

abbrev pub invariant-loop-root : goal.invariant-loop-root
invariant-loop-root l = ArePlacesOf l.order.keys l.roots l.root-index l.places.items
