use Rattle.std.proofs.Common.{◌≡◌, ◌+◌, List, [], ◌∷◌, ◌++◌, take, true≢false, refl, sym, ◌∙◌, ap, subst}
use Rattle.std.proofs.lemmas.List.{take_more, take_all}
use Rattle.diagram_terms.specs.HeightClasses.{IsHeightShape}
use Rattle.height_order.specs.declared.height_map.HeightMap.{HeightMap}
use Rattle.height_order.specs.Shapes.{as_map, shape_of}
use Rattle.height_order.proofs.Joining.{map_among}
use Rattle.height_order.proofs.ShapeMaps.{map-between, shape-none, shape-push}
use Rattle.height_order.proofs.shape.is_shape.Goals as goal

pub loop-map-init : goal.loop-map-init
loop-map-init c = shape-none c.args.lengths.now

pub loop-map-preserved : goal.loop-map-preserved
loop-map-preserved c =
    let i = c.loop-map.map-index in
    let m = c.map-item.result in
    let more : take (i + 1) c.args.maps.now ≡ take i c.args.maps.now ++ m ∷ [] =
    take_more c.args.maps.now i m c.loop-map-test.true ∙ ap (λ (n : HeightMap). take i c.args.maps.now ++ n ∷ []) (sym c.map-item.is) in
    subst (λ (ms : List HeightMap). IsHeightShape (shape_of c.args.lengths.now ms)) (sym more)
    (shape-push c.args.lengths.now (take i c.args.maps.now) m c.loop-map.invariant (c.is_between.ensures.0 c.if-not-is_between.false))

pub returns-then-not-is_between : goal.returns-then-not-is_between
returns-then-not-is_between c = (
  λ e. absurd (true≢false (sym e)),
  λ v. (
      let m = c.map-item.result in
      let h = v (as_map m) (map_among c.args.maps.now c.loop-map.map-index m c.loop-map-test.true c.map-item.is) in
      absurd (true≢false (sym (c.is_between.ensures.1 (map-between c.args.lengths.now c.args.maps.now [] (as_map m) h)) ∙ c.if-not-is_between.true))),
)

pub returns : goal.returns
returns c =
    let t = c.loop-map-test.false in
    let v : IsHeightShape (shape_of c.args.lengths.now c.args.maps.now) =
    subst (λ (ms : List HeightMap). IsHeightShape (shape_of c.args.lengths.now ms)) (take_all c.loop-map.map-index c.args.maps.now t) c.loop-map.invariant in
    (λ e. v, λ h. refl)
