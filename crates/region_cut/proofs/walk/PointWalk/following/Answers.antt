use Rattle.region_cut.proofs.WalkSteps.{last_point, walk_point, walk_first, walk_answer}
use Rattle.region_cut.proofs.walk.PointWalk.following.Goals as goal

pub point_after-requires-clause-point : goal.point_after-requires-clause-point
point_after-requires-clause-point c =
    rw c.deref.ensures.value
    (walk_point _ _ _ c.dim-dim.ensures.dim (c.dim-dim.ensures.store.diagrams _ c.requires.walk.of_store) (last_point _ _ _ c.in-Some.is c.requires.walk.last))

pub returns-in_ok-first_point-in-None : goal.returns-in_ok-first_point-in-None
returns-in_ok-first_point-in-None c = walk_first _ _ _ _ c.dim-dim.ensures.dim c.in-None.is c.in_ok-first_point-in-None.ensures

pub returns-in-Some : goal.returns-in-Some
returns-in-Some c = walk_answer _ _ _ _ _ _ c.dim-dim.ensures.dim c.in-Some.is c.deref.ensures.value c.point_after.ensures
