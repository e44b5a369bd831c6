use Rattle.std.proofs.Common.{◌<◌, length, arith}
use Rattle.hashcons.proofs.ListingPlaces.{arrow_stands, arrow_places-more}
use Rattle.hashcons.proofs.FirstSlices.{entry_read}
use Rattle.hashcons.proofs.list.arrow_places.Goals as goal

pub place_of-requires : goal.place_of-requires
place_of-requires c =
    let n = c.len-at-end.ensures in
    let l : c.loop-at.at < length c.args.arrows.now = omega (arith, c.loop-at-test.true) in
    arrow_stands c.args.order.now.keys c.args.arrows.now c.loop-at.at c.at.result c.requires l
    (entry_read c.args.arrows.now c.loop-at.at c.at.result l c.at.ensures)

pub loop-at-preserved : goal.loop-at-preserved
loop-at-preserved c =
    let n = c.len-at-end.ensures in
    let l : c.loop-at.at < length c.args.arrows.now = omega (arith, c.loop-at-test.true) in
    rw c.in_ok-push.ensures.items
    (arrow_places-more c.args.order.now.keys c.args.arrows.now c.loop-at.at c.loop-at.places.items c.at.result c.place_of.result
    c.loop-at.invariant l (entry_read c.args.arrows.now c.loop-at.at c.at.result l c.at.ensures) c.place_of.ensures)
