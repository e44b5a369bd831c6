use Rattle.std.proofs.Common.{subst}
use Rattle.workspace_json.specs.Sessions.{IsSession}
use Rattle.session_undo.specs.Views.{SessionView}
use Rattle.session_undo.proofs.UndoneAndRedone.{session_rule}
use Rattle.session_undo.proofs.session.Session.workspace.Goals as goal

pub returns-clause-rule : goal.returns-clause-rule
returns-clause-rule c = subst (λ (v : SessionView). IsSession v.session) c.self.view_is (session_rule c.self.inside.state c.self.invariant)
