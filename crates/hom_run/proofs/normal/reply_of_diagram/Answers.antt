use Rattle.std.proofs.Common.{List, length, ap, subst}
use Rattle.diagram_terms.specs.declared.node.Node.{Node}
use Rattle.diagram_terms.specs.Nodes.{tree_at}
use Rattle.hashcons.specs.Ids.{GathersIds}
use Rattle.session_undo.proofs.BroughtMaps.{diagram_of_store, diagram_tree, is_diagram}
use Rattle.hom_run.specs.Full.{diagram_normal}
use Rattle.hom_run.proofs.Looks.{grown_is_store}
use Rattle.hom_run.proofs.SliceReplies.{as_said}
use Rattle.hom_run.proofs.normal.reply_of_diagram.Goals as goal

pub diagram_of-diagram-requires : goal.diagram_of-diagram-requires
diagram_of-diagram-requires c =
    let ns = c.args.document.now.nodes in
    let new = c.put_nodes.new.self in
    let ids = c.in_ok-ids.ids.items in
    let of = subst (λ (xs : List Node). GathersIds new ids (length xs) (tree_at xs)) c.as_slice.ensures c.in_ok-ids.ensures.ids in
    let is_store = grown_is_store _ _ c.new-store.ensures c.in_ok-ids.ensures.grows in
    is_diagram ns c.requires.document.nodes new ids of is_store c.args.root c.requires.place c.index.result.now c.index.ensures

pub diagram_reply-requires : goal.diagram_reply-requires
diagram_reply-requires c =
    let ns = c.args.document.now.nodes in
    let new = c.put_nodes.new.self in
    let ids = c.in_ok-ids.ids.items in
    let of = subst (λ (xs : List Node). GathersIds new ids (length xs) (tree_at xs)) c.as_slice.ensures c.in_ok-ids.ensures.ids in
    let is_store = grown_is_store _ _ c.new-store.ensures c.in_ok-ids.ensures.grows in
    diagram_of_store ns c.requires.document.nodes new ids of is_store c.args.root c.requires.place c.index.result.now c.diagram_of-diagram.result c.index.ensures c.diagram_of-diagram.ensures

pub returns : goal.returns
returns c =
    let ns = c.args.document.now.nodes in
    let new = c.put_nodes.new.self in
    let ids = c.in_ok-ids.ids.items in
    let of = subst (λ (xs : List Node). GathersIds new ids (length xs) (tree_at xs)) c.as_slice.ensures c.in_ok-ids.ensures.ids in
    let is_store = grown_is_store _ _ c.new-store.ensures c.in_ok-ids.ensures.grows in
    let tree = diagram_tree ns c.requires.document.nodes new ids of is_store c.args.root c.requires.place c.index.result.now c.diagram_of-diagram.result c.index.ensures c.diagram_of-diagram.ensures in
    as_said c.diagram_reply.result _ _ (ap (diagram_normal c.args.name.now) tree) c.diagram_reply.ensures
