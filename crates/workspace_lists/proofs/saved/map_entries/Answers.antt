use Rattle.std.proofs.Common.{arith}
use Rattle.workspace_lists.proofs.MapEntries.{maps-more, part_ids-length_more, places-within}
use Rattle.workspace_lists.proofs.saved.map_entries.Goals as goal

pub map_entry-entry-requires : goal.map_entry-entry-requires
map_entry-entry-requires c =
    places-within c.args.maps.now c.loop-named.named-index c.loop-named.at c.named-item.result c.args.places.now c.loop-named-test.true c.loop-named.invariant.0 c.requires

pub overflow_add-at : goal.overflow_add-at
overflow_add-at c =
    let within = places-within c.args.maps.now c.loop-named.named-index c.loop-named.at c.named-item.result c.args.places.now c.loop-named-test.true c.loop-named.invariant.0 c.requires in
    omega arith

pub loop-named-preserved : goal.loop-named-preserved
loop-named-preserved c =
    let ms = c.args.maps.now in
    let i = c.loop-named.named-index in
    let m = c.named-item.result in
    let more = part_ids-length_more ms i m c.loop-named-test.true in
    let start = c.loop-named.invariant.0 in (
      omega arith,
      λ place are. rw c.in_ok-push.ensures.items
          (maps-more place ms i c.loop-named.at m c.args.places.now c.loop-named.entries.items c.in_ok-name.name c.map_entry-entry.result
          c.loop-named-test.true c.named-item.is start are (c.loop-named.invariant.1 place are) c.in_ok-name.ensures c.map_entry-entry.ensures),
    )
