use Rattle.std.proofs.Common.{refl, arith}
use Rattle.session_state.proofs.StateGrowth.{grown_state, grown_stays}
use Rattle.session_undo.proofs.maps.composite_of.Goals as goal

pub returns-clause-state : goal.returns-clause-state
returns-clause-state c = grown_state c.args.state.now c.compose.new.store c.args.state.now.signature c.compose.ensures.made.grows refl (omega arith) c.requires.state

pub returns-clause-stays : goal.returns-clause-stays
returns-clause-stays c = grown_stays c.args.state.now c.compose.new.store c.args.state.now.signature c.compose.ensures.made.grows refl (omega arith) c.requires.state
