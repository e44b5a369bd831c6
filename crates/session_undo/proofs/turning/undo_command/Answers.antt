use Rattle.std.proofs.Common.{◌∙◌, sym, ap}
use Rattle.workspace_json.specs.declared.refusal.Refusal.TheVariants as refusal
use Rattle.workspace_json.specs.declared.reply.Reply.TheVariants as reply
use Rattle.workspace_json.specs.Sessions.{Stepped, go, step}
use Rattle.session_state.specs.declared.state.State.{State}
use Rattle.session_state.specs.States.{session_of}
use Rattle.session_undo.proofs.turning.undo_command.Goals as goal

pub returns-then-undo-clause-comes : goal.returns-then-undo-clause-comes
unfolding step
returns-then-undo-clause-comes c = ap (go (session_of c.args.state.now) reply.Undo refusal.NothingToUndo) (c.if-undo.ensures.undone)

pub returns-else-undo-clause-comes : goal.returns-else-undo-clause-comes
unfolding step
returns-else-undo-clause-comes c =
    let h = c.if-undo.ensures.undone in
    ap (go (session_of c.args.state.now) reply.Undo refusal.NothingToUndo) h.0
    ∙ ap (λ (s : State). let x : Stepped = record { reply = reply.Refused refusal.NothingToUndo; session = session_of s } in x) (sym h.1)
