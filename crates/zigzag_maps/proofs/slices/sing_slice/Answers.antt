use Rattle.std.proofs.Common.{ap, ◌∙◌, arith}
use Rattle.diagram_terms.specs.Shape.{sing_at}
use Rattle.diagram_terms.proofs.Dimensions.{length-regs}
use Rattle.hashcons.specs.Contents.{diagram_at}
use Rattle.zigzag_maps.proofs.ValidArrows.{valid_parts, valid_shape, source_dimension, target_dimension, arrow_sings_len}
use Rattle.zigzag_maps.proofs.SliceMaps.{arrow_of_map, map_with}
use Rattle.zigzag_maps.proofs.slices.sing_slice.Goals as goal

pub sing-requires-clause-within : goal.sing-requires-clause-within
sing-requires-clause-within c =
    let now = c.args.store.now in
    let v = arrow_of_map now c.args.f c.requires.valid in
    let has = valid_parts _ _ _ v c.requires.above in
    let sd = source_dimension _ _ _ c.requires.valid.between in
    let td = target_dimension _ _ _ c.requires.valid.between in
    let sr = length-regs (diagram_at now c.args.f.source) (valid_shape _ c.requires.valid.source.valid) (omega arith) in
    let tr = length-regs (diagram_at now c.args.f.target) (valid_shape _ c.requires.valid.target.valid) (omega arith) in
    let rl = has.regs_len in
    let hl = has.heights_len in
    let sl = arrow_sings_len _ _ _ v c.requires.above in
    omega arith

pub sing-requires-2-clause-within : goal.sing-requires-2-clause-within
sing-requires-2-clause-within c =
    let now = c.args.store.now in
    let v = arrow_of_map now c.args.f c.requires.valid in
    let has = valid_parts _ _ _ v c.requires.above in
    let sd = source_dimension _ _ _ c.requires.valid.between in
    let td = target_dimension _ _ _ c.requires.valid.between in
    let sr = length-regs (diagram_at now c.args.f.source) (valid_shape _ c.requires.valid.source.valid) (omega arith) in
    let tr = length-regs (diagram_at now c.args.f.target) (valid_shape _ c.requires.valid.target.valid) (omega arith) in
    let rl = has.regs_len in
    let hl = has.heights_len in
    let sl = arrow_sings_len _ _ _ v c.requires.above in
    let b = has.below c.args.i c.requires.within in
    omega arith

pub arrow_sing-requires-clause-within : goal.arrow_sing-requires-clause-within
arrow_sing-requires-clause-within c =
    let now = c.args.store.now in
    let v = arrow_of_map now c.args.f c.requires.valid in
    let has = valid_parts _ _ _ v c.requires.above in
    let sd = source_dimension _ _ _ c.requires.valid.between in
    let td = target_dimension _ _ _ c.requires.valid.between in
    let sr = length-regs (diagram_at now c.args.f.source) (valid_shape _ c.requires.valid.source.valid) (omega arith) in
    let tr = length-regs (diagram_at now c.args.f.target) (valid_shape _ c.requires.valid.target.valid) (omega arith) in
    let rl = has.regs_len in
    let hl = has.heights_len in
    let sl = arrow_sings_len _ _ _ v c.requires.above in
    omega arith

pub returns-clause-valid : goal.returns-clause-valid
returns-clause-valid c =
    let now = c.args.store.now in
    let v = arrow_of_map now c.args.f c.requires.valid in
    let has = valid_parts _ _ _ v c.requires.above in
    let sd = source_dimension _ _ _ c.requires.valid.between in
    let td = target_dimension _ _ _ c.requires.valid.between in
    let sr = length-regs (diagram_at now c.args.f.source) (valid_shape _ c.requires.valid.source.valid) (omega arith) in
    let tr = length-regs (diagram_at now c.args.f.target) (valid_shape _ c.requires.valid.target.valid) (omega arith) in
    let rl = has.regs_len in
    let hl = has.heights_len in
    let sl = arrow_sings_len _ _ _ v c.requires.above in
    map_with now _ _ _ _ (record {
      source = c.sing.ensures.tree;
      target = c.sing-2.ensures.tree ∙ ap (sing_at (diagram_at now c.args.f.target)) c.height.ensures;
      arrow = c.arrow_sing.ensures.tree;
    }) (has.sings c.args.i c.requires.within) c.sing.ensures.of_store c.sing-2.ensures.of_store c.arrow_sing.ensures.of_store
