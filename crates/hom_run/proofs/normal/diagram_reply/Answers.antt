use Rattle.std.proofs.Common.{◌∙◌, ap, sym}
use Rattle.zigzag_maps.specs.Visits.{fault_of}
use Rattle.hom_run.proofs.NormalReplies.{none_told}
use Rattle.hom_run.proofs.normal.diagram_reply.Goals as goal

pub returns-in-Valid : goal.returns-in-Valid
returns-in-Valid c =
    none_told c.reply_of.result c.args.store.now c.valid.new.store c.in_ok-valid.ensures.grows c.args.diagram c.requires c.args.name.now
    (sym c.in_ok-valid.ensures.exact ∙ ap fault_of c.in-Valid.is) c.reply_of.ensures
