use Rattle.io_edge.proofs.Parts.{not_begun}
use Rattle.hom_run.proofs.Lines.{on_err}
use Rattle.hom_run.proofs.normal.write_normal.Goals as goal

pub returns-in_err-reply-clause-err : goal.returns-in_err-reply-clause-err
returns-in_err-reply-clause-err g c = on_err _ (not_begun _ _)
