use Rattle.std.proofs.Common.{arith}
use Rattle.region_cut.proofs.WalkSteps.{first_more}
use Rattle.region_cut.proofs.walk.+first_point.Goals as goal

pub returns : goal.returns
returns t c = first_more c.args.dim _ _ (omega arith) c.in_ok-heights.ensures c.in_ok-push.ensures.items
