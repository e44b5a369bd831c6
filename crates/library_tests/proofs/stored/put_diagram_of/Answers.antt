use Rattle.hashcons.specs.declared.id.AnyId.TheVariants as id
use Rattle.store_fixtures.proofs.PlacedIds.{id_of_store}
use Rattle.library_tests.proofs.PlacedDiagrams.{diagram_place}
use Rattle.library_tests.proofs.stored.put_diagram_of.Goals as goal

pub returns-clause-place : goal.returns-clause-place
returns-clause-place c =
    let nodes = c.in_ok-document.document.nodes in
    let ids = rw c.as_slice.ensures at c.in_ok-ids.ensures.ids in
    let found = rw c.deref.ensures.value at c.in_ok-d.ensures in
    diagram_place c.put_nodes.new.self (c.put_nodes.ensures.grows.store c.allocator.ensures) nodes c.in_ok-document.ensures
    c.in_ok-ids.ids.items ids c.args.place c.in_ok-d.d found

pub returns-clause-of_store : goal.returns-clause-of_store
returns-clause-of_store c =
    id_of_store c.put_nodes.new.self c.in_ok-ids.ids.items _ _ c.in_ok-ids.ensures.ids c.args.place (id.Diagram c.in_ok-d.d)
    (rw c.deref.ensures.value at c.in_ok-d.ensures)
