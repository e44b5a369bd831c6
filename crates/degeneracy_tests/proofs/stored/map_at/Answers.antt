use Rattle.hashcons.specs.declared.id.AnyId.TheVariants as id
use Rattle.store_fixtures.proofs.PlacedIds.{id_of_store}
use Rattle.degeneracy_tests.proofs.stored.map_at.Goals as goal

pub returns-clause-source : goal.returns-clause-source
returns-clause-source c =
    id_of_store c.put_nodes.new.self c.in_ok-ids.ids.items _ _ c.in_ok-ids.ensures.ids c.args.places.0 (id.Diagram c.in_ok-source.source)
    (rw c.deref.ensures.value at c.in_ok-source.ensures)

pub returns-clause-target : goal.returns-clause-target
returns-clause-target c =
    id_of_store c.put_nodes.new.self c.in_ok-ids.ids.items _ _ c.in_ok-ids.ensures.ids c.args.places.1 (id.Diagram c.in_ok-target.target)
    (rw c.deref-2.ensures.value at c.in_ok-target.ensures)

pub returns-clause-arrow : goal.returns-clause-arrow
returns-clause-arrow c =
    id_of_store c.put_nodes.new.self c.in_ok-ids.ids.items _ _ c.in_ok-ids.ensures.ids c.args.places.2 (id.Arrow c.in_ok-arrow.arrow)
    (rw c.deref-3.ensures.value at c.in_ok-arrow.ensures)
