use Rattle.std.proofs.Common.{List, length, Ok, Err, subst, rules}
use Rattle.diagram_terms.specs.declared.node.Node.{Node}
use Rattle.diagram_terms.specs.Nodes.{tree_at}
use Rattle.hashcons.specs.Ids.{GathersIds}
use Rattle.node_json.specs.declared.document.DiagramEntry.{DiagramEntry}
use Rattle.hom_run.proofs.Looks.{grown_is_store, place_within, read_kind, entry_of_store, entry_tree}
use Rattle.hom_run.proofs.SliceReplies.{root_place, slice_of, as_said}
use Rattle.hom_run.proofs.slice.slice_reply.Goals as goal

pub index-requires : goal.index-requires
index-requires c =
    let d = c.args.document.now in
    let of = subst (λ (ns : List Node). GathersIds c.put_nodes.new.self c.in_ok-ids.ids.items (length ns) (tree_at ns)) c.as_slice.ensures c.in_ok-ids.ensures.ids in
    let place = root_place d c.requires c.args.name.now c.root_named.result c.in-Some.root c.root_named.ensures c.in-Some.is in
    let within = place_within d.nodes c.requires.nodes c.put_nodes.new.self c.in_ok-ids.ids.items of (grown_is_store _ _ c.new-store.ensures c.in_ok-ids.ensures.grows) c.in-Some.root place in
    search (rules, within)

pub diagram_of-diagram-requires : goal.diagram_of-diagram-requires
diagram_of-diagram-requires c =
    let d = c.args.document.now in
    let of = subst (λ (ns : List Node). GathersIds c.put_nodes.new.self c.in_ok-ids.ids.items (length ns) (tree_at ns)) c.as_slice.ensures c.in_ok-ids.ensures.ids in
    let place = root_place d c.requires c.args.name.now c.root_named.result c.in-Some.root c.root_named.ensures c.in-Some.is in
    read_kind d.nodes c.requires.nodes c.put_nodes.new.self c.in_ok-ids.ids.items of (grown_is_store _ _ c.new-store.ensures c.in_ok-ids.ensures.grows) c.in-Some.root place c.index.result.now c.index.ensures

pub slice-requires : goal.slice-requires
slice-requires c =
    let d = c.args.document.now in
    let of = subst (λ (ns : List Node). GathersIds c.put_nodes.new.self c.in_ok-ids.ids.items (length ns) (tree_at ns)) c.as_slice.ensures c.in_ok-ids.ensures.ids in
    let place = root_place d c.requires c.args.name.now c.root_named.result c.in-Some.root c.root_named.ensures c.in-Some.is in
    let entry : DiagramEntry = record { name = c.args.name.now; root = c.in-Some.root } in
    entry_of_store d.nodes c.requires.nodes c.put_nodes.new.self c.in_ok-ids.ids.items of (grown_is_store _ _ c.new-store.ensures c.in_ok-ids.ensures.grows) entry place c.index.result.now _ c.index.ensures c.diagram_of-diagram.ensures

pub returns-in-Ok : goal.returns-in-Ok
returns-in-Ok c =
    let d = c.args.document.now in
    let of = subst (λ (ns : List Node). GathersIds c.put_nodes.new.self c.in_ok-ids.ids.items (length ns) (tree_at ns)) c.as_slice.ensures c.in_ok-ids.ensures.ids in
    let place = root_place d c.requires c.args.name.now c.root_named.result c.in-Some.root c.root_named.ensures c.in-Some.is in
    let entry : DiagramEntry = record { name = c.args.name.now; root = c.in-Some.root } in
    let tree = entry_tree d.nodes c.requires.nodes c.put_nodes.new.self c.in_ok-ids.ids.items of (grown_is_store _ _ c.new-store.ensures c.in_ok-ids.ensures.grows) entry place c.index.result.now _ c.index.ensures c.diagram_of-diagram.ensures in
    let said = slice_of d c.args.name.now c.args.path.now c.in-Some.root _ c.root_named.result c.root_named.ensures c.in-Some.is tree (Ok _) c.in-Ok.ensures.found in
    as_said c.printed.result _ _ said c.printed.ensures

pub returns : goal.returns
returns c =
    let d = c.args.document.now in
    let of = subst (λ (ns : List Node). GathersIds c.put_nodes.new.self c.in_ok-ids.ids.items (length ns) (tree_at ns)) c.as_slice.ensures c.in_ok-ids.ensures.ids in
    let place = root_place d c.requires c.args.name.now c.root_named.result c.in-Some.root c.root_named.ensures c.in-Some.is in
    let entry : DiagramEntry = record { name = c.args.name.now; root = c.in-Some.root } in
    let tree = entry_tree d.nodes c.requires.nodes c.put_nodes.new.self c.in_ok-ids.ids.items of (grown_is_store _ _ c.new-store.ensures c.in_ok-ids.ensures.grows) entry place c.index.result.now _ c.index.ensures c.diagram_of-diagram.ensures in
    slice_of d c.args.name.now c.args.path.now c.in-Some.root _ c.root_named.result c.root_named.ensures c.in-Some.is tree (Err _) c.in-Err.ensures.refused
