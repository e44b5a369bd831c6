use Rattle.hashcons.specs.declared.id.AnyId.TheVariants as id
use Rattle.store_fixtures.proofs.PlacedIds.{id_of_store}
use Rattle.boundary_tests.proofs.tests.put_diagram_of.Goals as goal

pub returns : goal.returns
returns c =
    id_of_store c.put_nodes.new.self c.in_ok-ids.ids.items _ _ c.in_ok-ids.ensures.ids c.args.place (id.Diagram c.in_ok-d.d)
    (rw c.deref.ensures.value at c.in_ok-d.ensures)
