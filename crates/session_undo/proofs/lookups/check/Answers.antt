use Rattle.std.proofs.Common.{◌∙◌, sym, ap, subst}
use Rattle.hashcons.specs.Contents.{diagram_at}
use Rattle.diagram_terms.specs.Typing.{IsWellTyped, first_fault_in}
use Rattle.typecheck.specs.Verdicts.{fault_in}
use Rattle.workspace_json.specs.Steps.{no_fault}
use Rattle.session_state.proofs.StateGrowth.{grown_state, grown_stays, signature_good, signature_is}
use Rattle.session_undo.proofs.lookups.check.Goals as goal

pub check-requires-clause-good : goal.check-requires-clause-good
check-requires-clause-good c = signature_good c.args.state.now c.requires.state

pub returns-in_err-check-clause-state : goal.returns-in_err-check-clause-state
returns-in_err-check-clause-state c = grown_state c.args.state.now c.check.new.store c.check.new.self c.check.ensures.grows c.check.ensures.unchanged c.check.ensures.spare c.requires.state

pub returns-in_err-check-clause-stays : goal.returns-in_err-check-clause-stays
returns-in_err-check-clause-stays c = grown_stays c.args.state.now c.check.new.store c.check.new.self c.check.ensures.grows c.check.ensures.unchanged c.check.ensures.spare c.requires.state

pub returns-in-Yes-clause-state : goal.returns-in-Yes-clause-state
returns-in-Yes-clause-state c = grown_state c.args.state.now c.check.new.store c.check.new.self c.check.ensures.grows c.check.ensures.unchanged c.check.ensures.spare c.requires.state

pub returns-in-Yes-clause-stays : goal.returns-in-Yes-clause-stays
returns-in-Yes-clause-stays c = grown_stays c.args.state.now c.check.new.store c.check.new.self c.check.ensures.grows c.check.ensures.unchanged c.check.ensures.spare c.requires.state

pub returns-in-Yes-clause-answer : goal.returns-in-Yes-clause-answer
returns-in-Yes-clause-answer c =
    let s = c.args.state.now in
    let t = diagram_at s.store c.args.d in
    ap no_fault (ap (λ gs. first_fault_in gs t) (sym (signature_is s c.requires.state)) ∙ sym c.in_ok-check.ensures.exact ∙ ap fault_in c.in-Yes.is)

pub returns-in-Yes-clause-typed : goal.returns-in-Yes-clause-typed
returns-in-Yes-clause-typed c =
    let s = c.args.state.now in
    subst (λ gs. IsWellTyped gs (diagram_at s.store c.args.d)) (signature_is s c.requires.state) (c.in_ok-check.ensures.yes.0 c.in-Yes.is)

pub returns-in-No-clause-state : goal.returns-in-No-clause-state
returns-in-No-clause-state c = grown_state c.args.state.now c.check.new.store c.check.new.self c.check.ensures.grows c.check.ensures.unchanged c.check.ensures.spare c.requires.state

pub returns-in-No-clause-stays : goal.returns-in-No-clause-stays
returns-in-No-clause-stays c = grown_stays c.args.state.now c.check.new.store c.check.new.self c.check.ensures.grows c.check.ensures.unchanged c.check.ensures.spare c.requires.state

pub returns-in-No-clause-answer : goal.returns-in-No-clause-answer
returns-in-No-clause-answer c =
    let s = c.args.state.now in
    let t = diagram_at s.store c.args.d in
    ap no_fault (ap (λ gs. first_fault_in gs t) (sym (signature_is s c.requires.state)) ∙ sym c.in_ok-check.ensures.exact ∙ ap fault_in c.in-No.is)
