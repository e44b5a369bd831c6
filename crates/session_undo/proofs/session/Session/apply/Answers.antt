use Rattle.session_undo.proofs.UndoneAndRedone.{session_rule}
use Rattle.session_undo.proofs.session.Session.apply.Goals as goal

pub returns-clause-rule : goal.returns-clause-rule
returns-clause-rule c = session_rule c.apply.new.state c.apply.ensures.state
