use Rattle.std.proofs.Common.{◌∙◌, Ok, sym, ap}
use Rattle.std.proofs.lemmas.Result.{err_from_is_err_and}
use Rattle.workspace_json.specs.Steps.{referred}
use Rattle.hashcons.specs.Contents.{diagram_at}
use Rattle.session_state.specs.States.{present_of}
use Rattle.session_undo.proofs.TestedCommands.{slice_of, slice_unknown, stopped_answer}
use Rattle.session_undo.proofs.reading.slice_command.Goals as goal

pub returns-in_err-d : goal.returns-in_err-d
returns-in_err-d c =
    let p = err_from_is_err_and c.from_residual.result c.from_residual.ensures.1 in
    let W = present_of c.args.state.now in
    rw (p.1, p.2) (stopped_answer (referred W c.args.of.now) _ c.in_err-d.field-0.0 c.in_err-d.ensures.answer (slice_unknown W c.args.of.now c.args.path.now))

pub returns-in_err-found : goal.returns-in_err-found
returns-in_err-found c =
    let W = present_of c.args.state.now in
    let t = diagram_at c.args.state.now.store c.in_ok-d.d in
    let p = err_from_is_err_and c.from_residual-in_err-found.result c.from_residual-in_err-found.ensures.1 in
    rw (p.1, p.2) (slice_of W c.args.of.now c.args.path.now t _ c.in_ok-d.ensures.answer c.in_err-found.ensures.refused)

pub returns : goal.returns
returns c =
    let W = present_of c.args.state.now in
    let t = diagram_at c.args.state.now.store c.in_ok-d.d in
    slice_of W c.args.of.now c.args.path.now t _ c.in_ok-d.ensures.answer c.in_ok-found.ensures.found ∙ ap Ok (sym c.in_ok-printed.ensures)
