use Rattle.hashcons.specs.Listing.{ArePlacesOf, arrow_ids}
use Rattle.hashcons.proofs.list.arrow_places.Given as goal

abbrev pub invariant-loop-at : goal.invariant-loop-at
invariant-loop-at l = ArePlacesOf l.order.keys (arrow_ids l.arrows) l.at l.places.items
