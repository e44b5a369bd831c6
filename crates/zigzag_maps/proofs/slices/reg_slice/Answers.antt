use Rattle.std.proofs.Common.{ap, ◌∙◌, arith}
use Rattle.diagram_terms.specs.Shape.{reg_at}
use Rattle.diagram_terms.proofs.Dimensions.{length-regs}
use Rattle.hashcons.specs.Contents.{diagram_at}
use Rattle.zigzag_maps.proofs.ValidArrows.{valid_parts, valid_shape, source_dimension, target_dimension, arrow_sings_len}
use Rattle.zigzag_maps.proofs.SliceMaps.{arrow_of_map, map_with}
use Rattle.zigzag_maps.proofs.slices.reg_slice.Goals as goal

pub reg-requires-clause-within : goal.reg-requires-clause-within
reg-requires-clause-within c =
    let now = c.args.store.now in
    let v = arrow_of_map now c.args.f c.requires.valid in
    let has = valid_parts _ _ _ v c.requires.above in
    let sd = source_dimension _ _ _ c.requires.valid.between in
    let td = target_dimension _ _ _ c.requires.valid.between in
    let sr = length-regs (diagram_at now c.args.f.source) (valid_shape _ c.requires.valid.source.valid) (omega arith) in
    let tr = length-regs (diagram_at now c.args.f.target) (valid_shape _ c.requires.valid.target.valid) (omega arith) in
    let rl = has.regs_len in
    let hl = has.heights_len in
    let sl = arrow_sings_len _ _ _ v c.requires.above in
    let d = has.dual_in c.args.k in
    omega arith

pub reg-requires-2-clause-within : goal.reg-requires-2-clause-within
reg-requires-2-clause-within c =
    let now = c.args.store.now in
    let v = arrow_of_map now c.args.f c.requires.valid in
    let has = valid_parts _ _ _ v c.requires.above in
    let sd = source_dimension _ _ _ c.requires.valid.between in
    let td = target_dimension _ _ _ c.requires.valid.between in
    let sr = length-regs (diagram_at now c.args.f.source) (valid_shape _ c.requires.valid.source.valid) (omega arith) in
    let tr = length-regs (diagram_at now c.args.f.target) (valid_shape _ c.requires.valid.target.valid) (omega arith) in
    let rl = has.regs_len in
    let hl = has.heights_len in
    let sl = arrow_sings_len _ _ _ v c.requires.above in
    omega arith

pub returns-clause-valid : goal.returns-clause-valid
returns-clause-valid c =
    let now = c.args.store.now in
    let v = arrow_of_map now c.args.f c.requires.valid in
    let has = valid_parts _ _ _ v c.requires.above in
    let sd = source_dimension _ _ _ c.requires.valid.between in
    let td = target_dimension _ _ _ c.requires.valid.between in
    let sr = length-regs (diagram_at now c.args.f.source) (valid_shape _ c.requires.valid.source.valid) (omega arith) in
    let tr = length-regs (diagram_at now c.args.f.target) (valid_shape _ c.requires.valid.target.valid) (omega arith) in
    let rl = has.regs_len in
    let hl = has.heights_len in
    let sl = arrow_sings_len _ _ _ v c.requires.above in
    map_with now _ _ _ _ (record {
      source = c.reg.ensures.tree ∙ ap (reg_at (diagram_at now c.args.f.source)) c.dual_of.ensures;
      target = c.reg-2.ensures.tree;
      arrow = c.arrow_reg.ensures.tree;
    }) (has.regs c.args.k c.requires.within) c.reg.ensures.of_store c.reg-2.ensures.of_store c.arrow_reg.ensures.of_store
