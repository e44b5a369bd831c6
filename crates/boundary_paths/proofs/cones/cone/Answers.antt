use Rattle.std.proofs.lemmas.Result.{IfOk-weaker}
use Rattle.boundary_paths.proofs.ConeLaws.{valid_plain_cone}
use Rattle.boundary_paths.proofs.ConeSteps.{made_cone}
use Rattle.boundary_paths.proofs.cones.cone.Goals as goal

pub cone_of-requires-clause-cones : goal.cone_of-requires-clause-cones
cone_of-requires-clause-cones c = c.new-made.ensures _ _

pub returns-clause-made : goal.returns-clause-made
returns-clause-made c = made_cone _ _ _ _ _ c.requires.diagram.valid.of_store c.cone_of.ensures.made

pub returns-clause-valid : goal.returns-clause-valid
returns-clause-valid c =
    let made = c.cone_of.ensures.made in
    IfOk-weaker _ _ _ (λ m is. valid_plain_cone _ _ _ _ m made.grows c.requires.diagram c.requires.labels is) made.cone
