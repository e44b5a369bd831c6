use Rattle.std.proofs.Common.{◌∙◌, ap, drop, take}
use Rattle.std.specs.Prelude.{slice_index_or}
use Rattle.workspace_json.specs.declared.reply.Reply.{Reply}
use Rattle.workspace_json.specs.declared.reply.Reply.TheVariants as reply
use Rattle.workspace_lists.proofs.NormalRoots.{normal_ids-of_store, normal_nodes, normal_places}
use Rattle.workspace_lists.proofs.printing.printed_normal.Goals as goal

pub list-requires : goal.list-requires
list-requires c =
    normal_ids-of_store c.args.store.now c.args.source c.args.arrow c.args.factors.now c.deref.result.now
    (c.deref.ensures.value ∙ c.in_ok-roots.ensures) c.requires.source c.requires.arrow c.requires.factors

pub returns : goal.returns
returns c =
    let s = c.args.store.now in
    let ids = c.deref.ensures.value ∙ c.in_ok-roots.ensures in
    let places = normal_places s c.args.source c.args.arrow c.args.factors.now c.deref.result.now c.deref-2.result.now ids (c.deref-2.ensures.value ∙ c.in_ok-nodes.ensures.places) in
    let nodes = c.from_vec.ensures ∙ normal_nodes s c.args.source c.args.arrow c.args.factors.now c.deref.result.now c.in_ok-nodes.nodes.items ids c.in_ok-nodes.ensures.nodes in
    let front = c.split_at.ensures.front ∙ ap (take 2) places in
    let factors = c.in_ok-from_slice.ensures ∙ c.split_at.ensures.back ∙ ap (drop 2) places in
    (λ i. let r : Reply = reply.Normalise (slice_index_or (front i) 1 0) (factors i) c.args.name (nodes i) (slice_index_or (front i) 0 0) in r)
