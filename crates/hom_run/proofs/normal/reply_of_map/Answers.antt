use Rattle.std.proofs.Common.{List, length, subst}
use Rattle.diagram_terms.specs.declared.node.Node.{Node}
use Rattle.diagram_terms.specs.Nodes.{tree_at}
use Rattle.hashcons.specs.Ids.{GathersIds}
use Rattle.session_undo.proofs.BroughtMaps.{arrow_of_store, arrow_tree, diagram_of_store, diagram_tree, is_arrow, is_diagram}
use Rattle.workspace_json.specs.Maps.{NamedMap}
use Rattle.hom_run.specs.Full.{map_normal}
use Rattle.hom_run.proofs.Looks.{grown_is_store}
use Rattle.hom_run.proofs.SliceReplies.{as_said}
use Rattle.hom_run.proofs.normal.reply_of_map.Goals as goal

pub diagram_of-requires : goal.diagram_of-requires
diagram_of-requires c =
    let ns = c.args.document.now.nodes in
    let new = c.put_nodes.new.self in
    let ids = c.in_ok-ids.ids.items in
    let of = subst (λ (xs : List Node). GathersIds new ids (length xs) (tree_at xs)) c.as_slice.ensures c.in_ok-ids.ensures.ids in
    let is_store = grown_is_store _ _ c.new-store.ensures c.in_ok-ids.ensures.grows in
    is_diagram ns c.requires.document.nodes new ids of is_store c.args.places.now.source c.requires.source c.index.result.now c.index.ensures

pub diagram_of-requires-2 : goal.diagram_of-requires-2
diagram_of-requires-2 c =
    let ns = c.args.document.now.nodes in
    let new = c.put_nodes.new.self in
    let ids = c.in_ok-ids.ids.items in
    let of = subst (λ (xs : List Node). GathersIds new ids (length xs) (tree_at xs)) c.as_slice.ensures c.in_ok-ids.ensures.ids in
    let is_store = grown_is_store _ _ c.new-store.ensures c.in_ok-ids.ensures.grows in
    is_diagram ns c.requires.document.nodes new ids of is_store c.args.places.now.target c.requires.target c.index-2.result.now c.index-2.ensures

pub arrow_of-requires : goal.arrow_of-requires
arrow_of-requires c =
    let ns = c.args.document.now.nodes in
    let new = c.put_nodes.new.self in
    let ids = c.in_ok-ids.ids.items in
    let of = subst (λ (xs : List Node). GathersIds new ids (length xs) (tree_at xs)) c.as_slice.ensures c.in_ok-ids.ensures.ids in
    let is_store = grown_is_store _ _ c.new-store.ensures c.in_ok-ids.ensures.grows in
    is_arrow ns c.requires.document.nodes new ids of is_store c.args.places.now.arrow c.requires.arrow c.index-3.result.now c.index-3.ensures

pub map_reply-requires : goal.map_reply-requires
map_reply-requires c =
    let ns = c.args.document.now.nodes in
    let new = c.put_nodes.new.self in
    let ids = c.in_ok-ids.ids.items in
    let of = subst (λ (xs : List Node). GathersIds new ids (length xs) (tree_at xs)) c.as_slice.ensures c.in_ok-ids.ensures.ids in
    let is_store = grown_is_store _ _ c.new-store.ensures c.in_ok-ids.ensures.grows in
    let at = c.args.places.now in
    record {
      source = diagram_of_store ns c.requires.document.nodes new ids of is_store at.source c.requires.source c.index.result.now c.diagram_of.result c.index.ensures c.diagram_of.ensures;
      target = diagram_of_store ns c.requires.document.nodes new ids of is_store at.target c.requires.target c.index-2.result.now c.diagram_of-2.result c.index-2.ensures c.diagram_of-2.ensures;
      arrow = arrow_of_store ns c.requires.document.nodes new ids of is_store at.arrow c.requires.arrow c.index-3.result.now c.arrow_of.result c.index-3.ensures c.arrow_of.ensures;
    }

pub returns : goal.returns
returns c =
    let ns = c.args.document.now.nodes in
    let new = c.put_nodes.new.self in
    let ids = c.in_ok-ids.ids.items in
    let of = subst (λ (xs : List Node). GathersIds new ids (length xs) (tree_at xs)) c.as_slice.ensures c.in_ok-ids.ensures.ids in
    let is_store = grown_is_store _ _ c.new-store.ensures c.in_ok-ids.ensures.grows in
    let at = c.args.places.now in
    let name = c.args.name.now in
    let s = diagram_tree ns c.requires.document.nodes new ids of is_store at.source c.requires.source c.index.result.now c.diagram_of.result c.index.ensures c.diagram_of.ensures in
    let t = diagram_tree ns c.requires.document.nodes new ids of is_store at.target c.requires.target c.index-2.result.now c.diagram_of-2.result c.index-2.ensures c.diagram_of-2.ensures in
    let a = arrow_tree ns c.requires.document.nodes new ids of is_store at.arrow c.requires.arrow c.index-3.result.now c.arrow_of.result c.index-3.ensures c.arrow_of.ensures in
    as_said c.map_reply.result _ _ (λ i. let m : NamedMap = record { name = name; source = s i; target = t i; arrow = a i } in map_normal name m) c.map_reply.ensures
