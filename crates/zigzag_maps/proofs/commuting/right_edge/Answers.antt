use Rattle.std.proofs.Common.{arith}
use Rattle.zigzag_maps.proofs.EdgeSteps.{has_edges, composable_read, dim_read}
use Rattle.zigzag_maps.proofs.commuting.right_edge.Goals as goal

pub bwd-leg-requires-clause-within : goal.bwd-leg-requires-clause-within
bwd-leg-requires-clause-within c =
    let has = has_edges c.args.store.now c.args.dim c.args.f.now c.requires.slicewise in
    omega (arith, has.target_bwds)

pub arrow_reg-slice-requires-clause-above : goal.arrow_reg-slice-requires-clause-above
arrow_reg-slice-requires-clause-above c =
    let has = has_edges c.args.store.now c.args.dim c.args.f.now c.requires.slicewise in
    omega (arith, has.dim)

pub composite-requires-clause-dim : goal.composite-requires-clause-dim
composite-requires-clause-dim c =
    let has = has_edges c.args.store.now c.args.dim c.args.f.now c.requires.slicewise in
    dim_read c.args.store.now _ c.arrow_reg-slice.result _ _ c.arrow_reg-slice.ensures.tree (has.last c.args.k c.requires.within)

pub composite-requires-clause-composable : goal.composite-requires-clause-composable
composite-requires-clause-composable c =
    let has = has_edges c.args.store.now c.args.dim c.args.f.now c.requires.slicewise in
    composable_read c.args.store.now _ c.bwd-leg.result c.arrow_reg-slice.result _ _ c.bwd-leg.ensures.tree c.arrow_reg-slice.ensures.tree (has.last c.args.k c.requires.within)
