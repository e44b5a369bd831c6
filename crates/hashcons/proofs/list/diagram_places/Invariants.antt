use Rattle.hashcons.specs.Listing.{ArePlacesOf, diagram_ids}
use Rattle.hashcons.proofs.list.diagram_places.Given as goal

abbrev pub invariant-loop-at : goal.invariant-loop-at
invariant-loop-at l = ArePlacesOf l.order.keys (diagram_ids l.ds) l.at l.places.items
