use Rattle.std.proofs.Common.{◌∙◌, Ok, sym, ap}
use Rattle.std.proofs.lemmas.Result.{err_from_is_err_and}
use Rattle.workspace_json.specs.declared.reply.Reply.TheVariants as reply
use Rattle.workspace_json.specs.Steps.{referred}
use Rattle.session_state.specs.States.{present_of}
use Rattle.session_undo.proofs.TestedCommands.{both_known, one_unknown, stopped_answer, two_unknown}
use Rattle.session_undo.proofs.reading.equal_command.Goals as goal

pub returns-in_err-first : goal.returns-in_err-first
returns-in_err-first c =
    let p = err_from_is_err_and c.from_residual.result c.from_residual.ensures.1 in
    let W = present_of c.args.state.now in
    rw (p.1, p.2) (stopped_answer (referred W c.args.one.now) _ c.in_err-first.field-0.0 c.in_err-first.ensures.answer (one_unknown W c.args.one.now c.args.two.now))

pub returns-in_err-second : goal.returns-in_err-second
returns-in_err-second c =
    let p = err_from_is_err_and c.from_residual-in_err-second.result c.from_residual-in_err-second.ensures.1 in
    let W = present_of c.args.state.now in
    rw (p.1, p.2) (stopped_answer (referred W c.args.two.now) _ c.in_err-second.field-0.0 c.in_err-second.ensures.answer (λ r e. two_unknown W c.args.one.now c.args.two.now _ r c.in_ok-first.ensures.answer e))

pub returns : goal.returns
returns c =
    let W = present_of c.args.state.now in
    both_known W c.args.one.now c.args.two.now _ _ c.in_ok-first.ensures.answer c.in_ok-second.ensures.answer ∙ ap (λ b. Ok (reply.Equal b)) (sym c.are_one.ensures.trees)
