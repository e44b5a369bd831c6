use Rattle.std.proofs.Common.{sym, ◌∙◌}
use Rattle.std.proofs.lemmas.Result.{IfOk-weaker}
use Rattle.diagram_terms.proofs.FirstFaults.{no_bad_place}
use Rattle.diagram_terms.proofs.bad_square.first_bad_square.Goals as goal

pub returns-clause-none : goal.returns-clause-none
returns-clause-none c =
    IfOk-weaker c.first_bad_in_diagram.result _ _ (λ found is n h.
    let law = no_bad_place n _ h in
    (λ e. law.0 (sym (is n h) ∙ e), λ v. is n h ∙ law.1 v)) c.first_bad_in_diagram.ensures
