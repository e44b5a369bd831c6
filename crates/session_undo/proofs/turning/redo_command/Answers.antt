use Rattle.std.proofs.Common.{◌∙◌, sym, ap}
use Rattle.workspace_json.specs.declared.refusal.Refusal.TheVariants as refusal
use Rattle.workspace_json.specs.declared.reply.Reply.TheVariants as reply
use Rattle.workspace_json.specs.Sessions.{Stepped, go, step}
use Rattle.session_state.specs.declared.state.State.{State}
use Rattle.session_state.specs.States.{session_of}
use Rattle.session_undo.proofs.turning.redo_command.Goals as goal

pub returns-then-redo-clause-comes : goal.returns-then-redo-clause-comes
unfolding step
returns-then-redo-clause-comes c = ap (go (session_of c.args.state.now) reply.Redo refusal.NothingToRedo) (c.if-redo.ensures.redone)

pub returns-else-redo-clause-comes : goal.returns-else-redo-clause-comes
unfolding step
returns-else-redo-clause-comes c =
    let h = c.if-redo.ensures.redone in
    ap (go (session_of c.args.state.now) reply.Redo refusal.NothingToRedo) h.0
    ∙ ap (λ (s : State). let x : Stepped = record { reply = reply.Refused refusal.NothingToRedo; session = session_of s } in x) (sym h.1)
