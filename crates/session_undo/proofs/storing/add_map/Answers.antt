use Rattle.std.proofs.Common.{Ok, refl}
use Rattle.workspace_json.specs.declared.reply.Reply.TheVariants as reply
use Rattle.workspace_json.specs.Workspaces.{with_map}
use Rattle.workspace_lists.specs.Held.{map_called}
use Rattle.session_state.specs.States.{present_of, session_of}
use Rattle.session_undo.specs.Outcomes.{changed}
use Rattle.session_undo.proofs.TestedCommands.{comes_by}
use Rattle.session_undo.proofs.storing.add_map.Goals as goal

pub returns-clause-comes : goal.returns-clause-comes
returns-clause-comes c =
    let s = c.args.state.now in
    comes_by (session_of s) (session_of s) (session_of c.put_map.new.state) _ _ c.put_map.result refl
    (λ i. Ok (changed (reply.Named (c.in_ok-said.ensures i) c.args.word) (with_map (present_of s) (map_called s.store c.args.name.now c.args.map))))
    c.put_map.ensures.comes
