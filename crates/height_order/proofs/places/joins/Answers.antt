use Rattle.std.proofs.Common.{◌≡◌, length, get_or, take, ◌+◌, sym, ◌∙◌, ap, arith}
use Rattle.std.proofs.lemmas.List.{get_or_read, get_or-map, length-map}
use Rattle.diagram_terms.specs.HeightClasses.{IsHeightMap}
use Rattle.height_order.specs.Shapes.{as_map, shape_of}
use Rattle.std.specs.List.{flat_map}
use Rattle.height_order.specs.Places.{joins_of}
use Rattle.height_order.proofs.Joining.{map_among, one-below, other-below, joins-push, joins-map}
use Rattle.height_order.proofs.places.joins.Goals as goal

pub index-requires : goal.index-requires
index-requires c =
    let v : IsHeightMap (shape_of c.args.lengths.now c.args.maps.now) (as_map c.map-item.result) = c.requires.maps (as_map c.map-item.result) (map_among c.args.maps.now c.loop-map.map-index c.map-item.result c.loop-map-test.true c.map-item.is) in
    let a = v.from in
    let b = c.requires.members.first_len in
    let d = c.args.places.now.first.ok.0 in
    omega arith

pub index-requires-in-loop-height : goal.index-requires-in-loop-height
index-requires-in-loop-height c =
    let v : IsHeightMap (shape_of c.args.lengths.now c.args.maps.now) (as_map c.map-item.result) = c.requires.maps (as_map c.map-item.result) (map_among c.args.maps.now c.loop-map.map-index c.map-item.result c.loop-map-test.true c.map-item.is) in
    let a = v.to in
    let b = c.requires.members.first_len in
    let d = c.args.places.now.first.ok.0 in
    omega arith

pub overflow_add-index : goal.overflow_add-index
overflow_add-index c =
    let v : IsHeightMap (shape_of c.args.lengths.now c.args.maps.now) (as_map c.map-item.result) = c.requires.maps (as_map c.map-item.result) (map_among c.args.maps.now c.loop-map.map-index c.map-item.result c.loop-map-test.true c.map-item.is) in
    let a = v.from in
    let b = c.requires.members.first_len in
    let e = get_or_read c.args.places.now.first.items c.map-item.result.from c.index.result.now (omega arith) c.index.ensures 0 in
    let t = c.loop-height-test.true in
    let s = c.as_slice-image-items.ensures in
    let n = ap length s in
    let below = one-below (shape_of c.args.lengths.now c.args.maps.now) c.args.places.now.first.items c.args.places.now.members.items c.requires.members (as_map c.map-item.result) v c.loop-height.height (omega arith) in
    let small = c.args.places.now.members.small in
    let ok = c.args.places.now.members.ok.0 in
    omega arith

pub overflow_add-index-in-loop-height : goal.overflow_add-index-in-loop-height
overflow_add-index-in-loop-height c =
    let v : IsHeightMap (shape_of c.args.lengths.now c.args.maps.now) (as_map c.map-item.result) = c.requires.maps (as_map c.map-item.result) (map_among c.args.maps.now c.loop-map.map-index c.map-item.result c.loop-map-test.true c.map-item.is) in
    let a = v.to in
    let b = c.requires.members.first_len in
    let e = get_or_read c.args.places.now.first.items c.map-item.result.to c.index-in-loop-height.result.now (omega arith) c.index-in-loop-height.ensures 0 in
    let t = c.loop-height-test.true in
    let s = c.as_slice-image-items.ensures in
    let n = ap length s in
    let image = ap (λ hs. get_or hs c.loop-height.height 0) s in
    let below = other-below (shape_of c.args.lengths.now c.args.maps.now) c.args.places.now.first.items c.args.places.now.members.items c.requires.members (as_map c.map-item.result) v c.loop-height.height (omega arith) in
    let small = c.args.places.now.members.small in
    let ok = c.args.places.now.members.ok.0 in
    omega arith

pub loop-height-preserved : goal.loop-height-preserved
loop-height-preserved c =
    let v : IsHeightMap (shape_of c.args.lengths.now c.args.maps.now) (as_map c.map-item.result) = c.requires.maps (as_map c.map-item.result) (map_among c.args.maps.now c.loop-map.map-index c.map-item.result c.loop-map-test.true c.map-item.is) in
    let from = v.from in
    let to = v.to in
    let b = c.requires.members.first_len in
    let one = get_or_read c.args.places.now.first.items c.map-item.result.from c.index.result.now (omega arith) c.index.ensures 0 in
    let other = get_or_read c.args.places.now.first.items c.map-item.result.to c.index-in-loop-height.result.now (omega arith) c.index-in-loop-height.ensures 0 in
    let image = ap (λ hs. get_or hs c.loop-height.height 0) c.as_slice-image-items.ensures in
    let first = c.args.places.now.first.items in
    let h = c.loop-height.height in
    let hs = c.map-item.result.heights.heights in
    let p : c.index.result.now + h ≡ get_or first c.map-item.result.from 0 + h = omega arith in
    let q : c.index-in-loop-height.result.now + get_or c.as_slice-image-items.result.now h 0 ≡ get_or first c.map-item.result.to 0 + get_or hs h 0 = omega arith in
    joins-push (flat_map (joins_of first) (take c.loop-map.map-index (shape_of c.args.lengths.now c.args.maps.now).maps)) c.loop-height.joins.items _ first c.map-item.result.from c.map-item.result.to hs h _
    c.loop-height.invariant c.in_ok-push.ensures.items p q

pub loop-map-preserved : goal.loop-map-preserved
loop-map-preserved c =
    let m = as_map c.map-item.result in
    let l = c.loop-map-test.true in
    let t = c.loop-height-test.false in
    let n = ap length c.as_slice-image-items.ensures in
    let e = c.loop-height.auto in
    joins-map _ _ _ c.loop-map.map-index m c.loop-height.height c.loop-height.invariant
    (omega (arith, length-map c.args.maps.now as_map)) (get_or-map as_map c.args.maps.now c.loop-map.map-index c.map-item.result m l ∙ ap as_map (sym c.map-item.is)) (omega arith)
