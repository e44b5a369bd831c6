use Rattle.boundary_paths.proofs.ConeLaws.{valid_plain_type}
use Rattle.boundary_paths.proofs.cones.type_over.Goals as goal

pub cospan_of_cones-requires-clause-cones : goal.cospan_of_cones-requires-clause-cones
cospan_of_cones-requires-clause-cones c = c.new-made.ensures _ _

pub returns-clause-valid : goal.returns-clause-valid
returns-clause-valid c =
    let given = c.requires in
    valid_plain_type _ _ _ _ _ _ given.source given.target given.source_labels given.target_labels given.parallel c.cospan_of_cones.ensures.made
