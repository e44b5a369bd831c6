use Rattle.hashcons.specs.declared.id.AnyId.TheVariants as id
use Rattle.store_fixtures.proofs.PlacedIds.{id_of_store}
use Rattle.store_tests.proofs.tests.storage.put_identity.Goals as goal

pub identity-requires : goal.identity-requires
identity-requires c = record {
  of_store = id_of_store c.put_nodes.new.self c.in_ok-ids.ids.items _ _ c.in_ok-ids.ensures.ids 3 (id.Diagram c.in_ok-d.d)
      (rw c.deref.ensures.value at c.in_ok-d.ensures);
}
