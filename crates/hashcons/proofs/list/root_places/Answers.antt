use Rattle.hashcons.proofs.ListingPlaces.{root_stands, root_places-more}
use Rattle.hashcons.proofs.list.root_places.Goals as goal

pub place_of-requires : goal.place_of-requires
place_of-requires c = root_stands c.args.order.now.keys c.args.roots.now c.loop-root.root-index c.root-item.result
    c.requires c.loop-root-test.true c.root-item.is

pub loop-root-preserved : goal.loop-root-preserved
loop-root-preserved c =
    rw c.in_ok-push.ensures.items
    (root_places-more c.args.order.now.keys c.args.roots.now c.loop-root.root-index c.loop-root.places.items
    c.root-item.result c.place_of.result c.loop-root.invariant c.loop-root-test.true c.root-item.is c.place_of.ensures)
