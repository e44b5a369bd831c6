use Rattle.zigzag_maps.proofs.TestsByParts.{parts_valid}
use Rattle.zigzag_maps.proofs.validity.NotingWalkStore.leg.Goals as goal

pub fwd_fault-requires-clause-parts : goal.fwd_fault-requires-clause-parts
fwd_fault-requires-clause-parts c = parts_valid c.args.dim c.requires.above _ c.requires.diagram.shape c.requires.passed

pub bwd_fault-requires-clause-parts : goal.bwd_fault-requires-clause-parts
bwd_fault-requires-clause-parts c = parts_valid c.args.dim c.requires.above _ c.requires.diagram.shape c.requires.passed
