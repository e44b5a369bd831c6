use Rattle.std.proofs.Common.{Some, ap, sym}
use Rattle.std.specs.List.{each_same}
use Rattle.region_cut.specs.NextPoints.{listed}
use Rattle.region_cut.proofs.WalkSteps.{walk_goes_on}
use Rattle.region_cut.proofs.walk.PointWalk.next_point.Goals as goal

pub returns-clause-walk : goal.returns-clause-walk
returns-clause-walk c =
    walk_goes_on _ c.args.self.now.diagram (listed c.args.self.now.last) _ _ _ c.requires.walk.of_store c.in-Some.is c.reverse.ensures.items c.in_ok-heights.ensures

pub returns-clause-last : goal.returns-clause-last
returns-clause-last c = ap (λ hs. Some hs) (sym (each_same _ _ c.in_ok-given.ensures.cases.0))
