use Rattle.std.proofs.Common.{◌∙◌, sym}
use Rattle.workspace_lists.specs.Held.{map_called}
use Rattle.hom_run.proofs.NormalReplies.{map_fails, one_told}
use Rattle.hom_run.proofs.normal.map_reply.Goals as goal

pub returns-in-None : goal.returns-in-None
returns-in-None c =
    one_told c.reply_of.result c.args.store.now c.first_bad_place.new.store c.in_ok-first_bad_place.ensures.grows c.args.map.now c.requires c.args.name.now
    (sym (c.in_ok-first_bad_place.ensures.exact c.args.name.now) ∙ c.in-None.is) c.reply_of.ensures

pub returns-in-Some : goal.returns-in-Some
returns-in-Some c =
    map_fails c.args.name.now (map_called c.args.store.now c.args.name.now c.args.map.now) c.in-Some.place
    (sym (c.in_ok-first_bad_place.ensures.exact c.args.name.now) ∙ c.in-Some.is)
