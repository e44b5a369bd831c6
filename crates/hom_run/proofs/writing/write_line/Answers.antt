use Rattle.std.proofs.Common.{◌≡◌, subst, rules}
use Rattle.io_edge.specs.Transfers.{AppendsLess}
use Rattle.hom_run.specs.Full.{line}
use Rattle.hom_run.proofs.writing.write_line.Goals as goal

pub returns-clause-less : goal.returns-clause-less
returns-clause-less g c e =
    let piece : c.deref.result.now ≡ line c.args.text.items = search rules in
    subst (AppendsLess _ _) piece (c.write_all.ensures.less e)
