use Rattle.std.proofs.Common.{◌<◌, sym, subst, arith}
use Rattle.std.proofs.lemmas.List.{take_all}
use Rattle.diagram_terms.specs.Dimension.{dimension_of}
use Rattle.diagram_terms.specs.Shape.{sing_at}
use Rattle.hashcons.specs.Contents.{arrow_at, diagram_at, leg_of}
use Rattle.hashcons.specs.NoteTables.{key_of}
use Rattle.zigzag_maps.specs.declared.map.Map.{Map}
use Rattle.zigzag_maps.specs.Found.{IsValidMap}
use Rattle.normalise.specs.LegSlices.{slice_trees_over, slices_to}
use Rattle.normalise.specs.NormalMaps.{as_leg}
use Rattle.normalise.specs.StoreForms.{AreLegsWith, legs_of}
use Rattle.normalise.proofs.FormsInStore.{leg_map-valid, leg_map-above}
use Rattle.normalise.proofs.LeftSteps.{legs_append, over_more}
use Rattle.normalise.proofs.slices.slices_over.Goals as goal

pub slices_of-requires-clause-valid : goal.slices_of-requires-clause-valid
slices_of-requires-clause-valid c =
    subst (IsValidMap c.args.store.now) (sym c.leg_map-leg.ensures) (leg_map-valid c.args.store.now (key_of c.args.key.now) c.loop-i.i c.requires.key (omega arith))

pub slices_of-requires-clause-above : goal.slices_of-requires-clause-above
slices_of-requires-clause-above c =
    subst (λ (m : Map). 0 < dimension_of (arrow_at c.args.store.now m.arrow)) (sym c.leg_map-leg.ensures)
    (leg_map-above c.args.store.now (key_of c.args.key.now) c.requires.key c.requires.above c.loop-i.i (omega arith))

pub loop-i-preserved : goal.loop-i-preserved
loop-i-preserved c =
    let now = c.args.store.now in
    let key = c.args.key.now in
    let k = c.args.k in
    let found = c.in_ok-found.found.items in
    let here = subst (λ (m : Map). AreLegsWith now (sing_at (diagram_at now m.target) k) (slices_to k (leg_of now (as_leg m))) found) c.leg_map-leg.ensures c.in_ok-found.ensures in
    rw (c.in_ok-extend_from_slice.ensures.items, c.as_slice.ensures, over_more now key.legs.items c.loop-i.i k (omega arith))
    (legs_append now _ _ _ _ _ c.loop-i.invariant here)

pub returns : goal.returns
returns c =
    let now = c.args.store.now in
    let key = c.args.key.now in
    subst (λ xs. AreLegsWith now (sing_at (diagram_at now key.target) c.args.k) (slice_trees_over (legs_of now xs) c.args.k) c.loop-i.slices.items)
    (take_all c.loop-i.i key.legs.items (omega arith)) c.loop-i.invariant
