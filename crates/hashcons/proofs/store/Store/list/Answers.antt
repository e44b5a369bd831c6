use Rattle.std.proofs.Common.{◌≡◌, length, vec_len, subst, sym}
use Rattle.diagram_terms.specs.Dual.{AreBelow}
use Rattle.hashcons.proofs.ListEnd.{roots_stand, list_nodes, list_places, list_trees, list_earlier, list_roots, list_within}
use Rattle.hashcons.proofs.store.Store.list.Goals as goal

pub root_places-requires : goal.root_places-requires
root_places-requires c =
    let o = c.in_ok-order.ensures in
    roots_stand c.args.self.now o.store c.in_ok-order.order.keys c.args.roots.now o.listing c.requires o.trees

pub returns-clause-nodes : goal.returns-clause-nodes
returns-clause-nodes c =
    let o = c.in_ok-order.ensures in
    list_nodes c.args.self.now o.store c.in_ok-order.order.keys c.args.roots.now o.listing c.requires o.trees
    c.in_ok-nodes.nodes.items c.in_ok-nodes.ensures

pub returns-clause-places : goal.returns-clause-places
returns-clause-places c =
    let o = c.in_ok-order.ensures in
    list_places c.args.self.now o.store c.in_ok-order.order.keys c.args.roots.now o.listing c.requires o.trees
    c.in_ok-nodes.nodes.items c.in_ok-nodes.ensures c.in_ok-places.places.items c.in_ok-places.ensures

pub returns-clause-trees : goal.returns-clause-trees
returns-clause-trees c =
    let o = c.in_ok-order.ensures in
    list_trees c.args.self.now o.store c.in_ok-order.order.keys c.args.roots.now o.listing c.requires o.trees
    c.in_ok-nodes.nodes.items c.in_ok-nodes.ensures

pub returns-clause-earlier : goal.returns-clause-earlier
returns-clause-earlier c =
    let o = c.in_ok-order.ensures in
    list_earlier c.args.self.now o.store c.in_ok-order.order.keys c.args.roots.now o.listing c.requires o.trees
    c.in_ok-nodes.nodes.items c.in_ok-nodes.ensures

pub returns-clause-roots : goal.returns-clause-roots
returns-clause-roots c =
    let o = c.in_ok-order.ensures in
    list_roots c.args.self.now o.store c.in_ok-order.order.keys c.args.roots.now o.listing c.requires o.trees
    c.in_ok-nodes.nodes.items c.in_ok-nodes.ensures c.in_ok-places.places.items c.in_ok-places.ensures

pub returns-clause-within : goal.returns-clause-within
returns-clause-within c =
    let o = c.in_ok-order.ensures in
    let below = list_within c.args.self.now o.store c.in_ok-order.order.keys c.args.roots.now o.listing c.requires o.trees
    c.in_ok-nodes.nodes.items c.in_ok-nodes.ensures c.in_ok-places.places.items c.in_ok-places.ensures in
    let e : length c.in_ok-nodes.nodes.items ≡ vec_len c.in_ok-nodes.nodes = sym (c.in_ok-nodes.nodes.ok.0) in
    subst (AreBelow c.in_ok-places.places.items) e below
