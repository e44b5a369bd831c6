use Rattle.std.proofs.Common.{refl, arith}
use Rattle.session_state.proofs.StateGrowth.{grown_state, grown_stays}
use Rattle.session_undo.proofs.NormalForms.{held_answers, tree_answers}
use Rattle.session_undo.proofs.normal_forms.normal_of.Goals as goal

pub returns-clause-state : goal.returns-clause-state
returns-clause-state c = grown_state c.args.state.now c.normalise.new.store c.args.state.now.signature c.normalise.ensures.grows refl (omega arith) c.requires.state

pub returns-clause-stays : goal.returns-clause-stays
returns-clause-stays c = grown_stays c.args.state.now c.normalise.new.store c.args.state.now.signature c.normalise.ensures.grows refl (omega arith) c.requires.state

pub returns-clause-held : goal.returns-clause-held
returns-clause-held c = held_answers c.normalise.new.store c.args.target c.args.legs.now c.normalise.result c.normalise.ensures.valid c.normalise.ensures.least

pub returns-clause-trees : goal.returns-clause-trees
returns-clause-trees c =
    tree_answers c.args.state.now.store c.normalise.new.store c.normalise.ensures.grows c.args.target c.args.legs.now c.requires.target.of_store c.requires.legs
    c.normalise.result c.normalise.ensures.least
