use Rattle.std.proofs.Common.{subst, arith}
use Rattle.zigzag_maps.specs.Walks.{LeadsToLeg}
use Rattle.zigzag_maps.proofs.TestsByParts.{legs_len}
use Rattle.plain_maps.proofs.LooseTests.{fwd_arrow, bwd_arrow}
use Rattle.plain_maps.proofs.loose.PlainKeptWalkReading.leg.Goals as goal

pub fwd-requires-clause-within : goal.fwd-requires-clause-within
fwd-requires-clause-within c =
    let l = subst (LeadsToLeg _) c.in-F.is c.requires.leads in
    let n = legs_len c.args.dim _ c.requires.above c.requires.diagram.shape in
    omega (arith, n.0)

pub leg_fault-requires-clause-arrow : goal.leg_fault-requires-clause-arrow
leg_fault-requires-clause-arrow c =
    fwd_arrow c.args.reading.now.store.now c.fwd.result c.fwd.ensures.of_store c.args.dim c.requires.above c.args.d c.in-F.k c.requires.diagram
    (subst (LeadsToLeg _) c.in-F.is c.requires.leads) c.fwd.ensures.tree

pub bwd-requires-clause-within : goal.bwd-requires-clause-within
bwd-requires-clause-within c =
    let l = subst (LeadsToLeg _) c.in-B.is c.requires.leads in
    let n = legs_len c.args.dim _ c.requires.above c.requires.diagram.shape in
    omega (arith, n.1)

pub leg_fault-requires-in-B-clause-arrow : goal.leg_fault-requires-in-B-clause-arrow
leg_fault-requires-in-B-clause-arrow c =
    bwd_arrow c.args.reading.now.store.now c.bwd.result c.bwd.ensures.of_store c.args.dim c.requires.above c.args.d c.in-B.k c.requires.diagram
    (subst (LeadsToLeg _) c.in-B.is c.requires.leads) c.bwd.ensures.tree
