use Rattle.std.proofs.Common.{◌≡◌, ◌∙◌, List, ℕ, Ok, length}
use Rattle.hashcons.specs.Contents.{diagram_at}
use Rattle.workspace_json.specs.NormalSteps.{NormalTrees, normal_trees}
use Rattle.workspace_lists.specs.Held.{normal_over}
use Rattle.session_undo.specs.NormalForms.{maps_called, normal_in}
use Rattle.session_undo.proofs.NormalForms.{tree_answers}
use Rattle.hom_run.proofs.NormalReplies.{as_told}
use Rattle.hom_run.proofs.normal.reply_of.Goals as goal

pub returns : goal.returns
returns c =
    let old = c.args.store.now in
    let new = c.normalise.new.store in
    let legs = c.args.legs.now in
    let n = c.in_ok-map.field-0 in
    let said : NormalTrees = normal_over new n.map.source n.map.arrow c.deref.result.now in
    let wanted : List (List ℕ) → NormalTrees = λ names. normal_trees (diagram_at old c.args.target) (maps_called old names legs) in
    let r : c.deref.result.now ≡ n.factors.items = c.deref.ensures.value in
    let same : said ≡ normal_in new n = (λ i. normal_over new n.map.source n.map.arrow (r i)) in
    let told = tree_answers {E = Unit {0}} old new c.normalise.ensures.grows c.args.target legs c.requires.target.of_store c.requires.legs (Ok n) c.in_ok-map.ensures.least in
    as_told c.printed_normal.result c.args.name.now c.in_ok-name.name said wanted (length legs) c.in_ok-name.ensures c.printed_normal.ensures (λ names l. same ∙ told names l)
