use Rattle.std.proofs.Common.{arith}
use Rattle.zigzag_maps.proofs.EdgeSteps.{has_edges, composable_read, dim_read}
use Rattle.zigzag_maps.proofs.commuting.enter_edge.Goals as goal

pub arrow_sing-slice-requires-clause-above : goal.arrow_sing-slice-requires-clause-above
arrow_sing-slice-requires-clause-above c =
    let has = has_edges c.args.store.now c.args.dim c.args.f.now c.requires.slicewise in
    omega (arith, has.dim)

pub arrow_sing-slice-requires-clause-within : goal.arrow_sing-slice-requires-clause-within
arrow_sing-slice-requires-clause-within c =
    let has = has_edges c.args.store.now c.args.dim c.args.f.now c.requires.slicewise in
    omega (arith, has.sings_len)

pub fwd-leg-requires-clause-within : goal.fwd-leg-requires-clause-within
fwd-leg-requires-clause-within c =
    let has = has_edges c.args.store.now c.args.dim c.args.f.now c.requires.slicewise in
    omega (arith, has.source_fwds, has.heights_len)

pub composite-requires-clause-dim : goal.composite-requires-clause-dim
composite-requires-clause-dim c =
    let has = has_edges c.args.store.now c.args.dim c.args.f.now c.requires.slicewise in
    dim_read c.args.store.now _ c.fwd-leg.result _ _ c.fwd-leg.ensures.tree (has.before c.args.i c.requires.within)

pub composite-requires-clause-composable : goal.composite-requires-clause-composable
composite-requires-clause-composable c =
    let has = has_edges c.args.store.now c.args.dim c.args.f.now c.requires.slicewise in
    composable_read c.args.store.now _ c.arrow_sing-slice.result c.fwd-leg.result _ _ c.arrow_sing-slice.ensures.tree c.fwd-leg.ensures.tree (has.before c.args.i c.requires.within)
