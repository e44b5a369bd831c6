use Rattle.std.proofs.Common.{ap, ◌∙◌, arith}
use Rattle.diagram_terms.specs.Shape.{reg_at}
use Rattle.diagram_terms.proofs.Dimensions.{length-regs, length-fwds, length-bwds}
use Rattle.hashcons.specs.Contents.{diagram_at}
use Rattle.zigzag_maps.proofs.ValidArrows.{valid_legs, valid_shape}
use Rattle.zigzag_maps.proofs.SliceMaps.{map_with}
use Rattle.zigzag_maps.proofs.slices.bwd_map.Goals as goal

pub reg-requires-clause-within : goal.reg-requires-clause-within
reg-requires-clause-within c =
    let now = c.args.store.now in
    let legs = valid_legs (diagram_at now c.args.d) c.requires.valid.valid c.requires.above c.args.k c.requires.within in
    let shape = valid_shape _ c.requires.valid.valid in
    let rl = length-regs _ shape c.requires.above in
    let fl = length-fwds _ shape c.requires.above in
    let bl = length-bwds _ shape c.requires.above in
    omega arith

pub bwd-requires-clause-within : goal.bwd-requires-clause-within
bwd-requires-clause-within c =
    let now = c.args.store.now in
    let legs = valid_legs (diagram_at now c.args.d) c.requires.valid.valid c.requires.above c.args.k c.requires.within in
    let shape = valid_shape _ c.requires.valid.valid in
    let rl = length-regs _ shape c.requires.above in
    let fl = length-fwds _ shape c.requires.above in
    let bl = length-bwds _ shape c.requires.above in
    omega arith

pub returns-clause-valid : goal.returns-clause-valid
returns-clause-valid c =
    let now = c.args.store.now in
    let legs = valid_legs (diagram_at now c.args.d) c.requires.valid.valid c.requires.above c.args.k c.requires.within in
    let shape = valid_shape _ c.requires.valid.valid in
    let rl = length-regs _ shape c.requires.above in
    let fl = length-fwds _ shape c.requires.above in
    let bl = length-bwds _ shape c.requires.above in
    map_with now _ _ _ _ (record { source = c.reg.ensures.tree ∙ ap (reg_at (diagram_at now c.args.d)) (omega arith); target = c.sing.ensures.tree; arrow = c.bwd.ensures.tree }) legs.1
    c.reg.ensures.of_store c.sing.ensures.of_store c.bwd.ensures.of_store
