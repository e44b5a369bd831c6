use Rattle.std.proofs.Common.{◌<◌, length, sym, ap, subst, ◌∙◌, arith}
use Rattle.std.proofs.lemmas.List.{take_all}
use Rattle.diagram_terms.specs.Dimension.{dimension_of}
use Rattle.diagram_terms.specs.Shape.{reg_at}
use Rattle.diagram_terms.specs.Tree.{regs}
use Rattle.hashcons.specs.Contents.{arrow_at, diagram_at, leg_of}
use Rattle.hashcons.specs.NoteTables.{key_of}
use Rattle.zigzag_maps.specs.declared.map.Map.{Map}
use Rattle.zigzag_maps.specs.Found.{IsValidMap}
use Rattle.normalise.specs.LegSlices.{reg_leg_tree, regular_slice_trees}
use Rattle.normalise.specs.NormalMaps.{as_leg}
use Rattle.normalise.specs.StoreForms.{AreLegsWith, legs_of}
use Rattle.normalise.proofs.FormsInStore.{regs_of_target, leg_map-valid, leg_map-above, leg_map-regs, map_as_leg, reg_valid}
use Rattle.normalise.proofs.LeftSteps.{legs_push, regular_more}
use Rattle.normalise.proofs.slices.regular_key.Goals as goal

pub reg-target-requires-clause-within : goal.reg-target-requires-clause-within
reg-target-requires-clause-within c = let e = regs_of_target c.args.store.now (key_of c.args.key.now) c.requires.key c.requires.above in let l = c.requires.within in omega arith

pub reg_slice-slice-requires-clause-valid : goal.reg_slice-slice-requires-clause-valid
reg_slice-slice-requires-clause-valid c =
    subst (IsValidMap c.args.store.now) (sym c.leg_map-leg.ensures) (leg_map-valid c.args.store.now (key_of c.args.key.now) c.loop-i.i c.requires.key (omega arith))

pub reg_slice-slice-requires-clause-above : goal.reg_slice-slice-requires-clause-above
reg_slice-slice-requires-clause-above c =
    subst (λ (m : Map). 0 < dimension_of (arrow_at c.args.store.now m.arrow)) (sym c.leg_map-leg.ensures)
    (leg_map-above c.args.store.now (key_of c.args.key.now) c.requires.key c.requires.above c.loop-i.i (omega arith))

pub reg_slice-slice-requires-clause-within : goal.reg_slice-slice-requires-clause-within
reg_slice-slice-requires-clause-within c =
    let e = ap (λ (m : Map). length (regs (arrow_at c.args.store.now m.arrow))) c.leg_map-leg.ensures in
    let n = leg_map-regs c.args.store.now (key_of c.args.key.now) c.requires.key c.requires.above c.loop-i.i (omega arith) in
    let l = c.requires.within in
    omega arith

pub loop-i-preserved : goal.loop-i-preserved
loop-i-preserved c =
    let now = c.args.store.now in
    let key = c.args.key.now in
    let j = c.args.j in
    let is = c.reg_slice-slice.ensures.is in
    let e = c.leg_map-leg.ensures in
    let into = map_as_leg now (reg_at (diagram_at now key.target) j) c.reg_slice-slice.result c.reg_slice-slice.ensures.valid
    (is.target ∙ ap (λ (m : Map). reg_at (diagram_at now m.target) j) e) in
    let p = is.source in
    let q = is.arrow in
    let trees = (λ i. record { source = p i; arrow = q i }) ∙ ap (λ (m : Map). reg_leg_tree j (leg_of now (as_leg m))) e in
    rw (c.in_ok-push.ensures.ok, regular_more now key.legs.items c.loop-i.i j (omega arith))
    (legs_push now _ _ _ _ _ c.loop-i.invariant into trees)

pub returns : goal.returns
returns c =
    let now = c.args.store.now in
    let key = c.args.key.now in
    let j = c.args.j in
    let all = take_all c.loop-i.i key.legs.items (omega arith) in
    record {
      target = record { of_store = c.reg-target.ensures.of_store; valid = reg_valid now (key_of key) c.requires.key c.requires.above c.reg-target.result j c.requires.within c.reg-target.ensures.tree };
      tree = c.reg-target.ensures.tree;
      legs = subst (λ xs. AreLegsWith now (reg_at (diagram_at now key.target) j) (regular_slice_trees (legs_of now xs) j) c.loop-i.legs.items) all c.loop-i.invariant;
    }
