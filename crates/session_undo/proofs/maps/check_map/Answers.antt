use Rattle.std.proofs.Common.{◌∙◌, option_map, refl, sym, ap, arith}
use Rattle.diagram_terms.specs.declared.place.Fault.TheVariants as fault
use Rattle.workspace_json.specs.Steps.{no_fault}
use Rattle.session_state.proofs.StateGrowth.{grown_state, grown_stays}
use Rattle.session_undo.proofs.maps.check_map.Goals as goal

pub returns-in_err-first_bad_place-clause-state : goal.returns-in_err-first_bad_place-clause-state
returns-in_err-first_bad_place-clause-state c = grown_state c.args.state.now c.first_bad_place.new.store c.args.state.now.signature c.first_bad_place.ensures.grows refl (omega arith) c.requires.state

pub returns-in_err-first_bad_place-clause-stays : goal.returns-in_err-first_bad_place-clause-stays
returns-in_err-first_bad_place-clause-stays c = grown_stays c.args.state.now c.first_bad_place.new.store c.args.state.now.signature c.first_bad_place.ensures.grows refl (omega arith) c.requires.state

pub returns-in-None-clause-state : goal.returns-in-None-clause-state
returns-in-None-clause-state c = grown_state c.args.state.now c.first_bad_place.new.store c.args.state.now.signature c.first_bad_place.ensures.grows refl (omega arith) c.requires.state

pub returns-in-None-clause-stays : goal.returns-in-None-clause-stays
returns-in-None-clause-stays c = grown_stays c.args.state.now c.first_bad_place.new.store c.args.state.now.signature c.first_bad_place.ensures.grows refl (omega arith) c.requires.state

pub returns-in-Some-clause-state : goal.returns-in-Some-clause-state
returns-in-Some-clause-state c = grown_state c.args.state.now c.first_bad_place.new.store c.args.state.now.signature c.first_bad_place.ensures.grows refl (omega arith) c.requires.state

pub returns-in-Some-clause-stays : goal.returns-in-Some-clause-stays
returns-in-Some-clause-stays c = grown_stays c.args.state.now c.first_bad_place.new.store c.args.state.now.signature c.first_bad_place.ensures.grows refl (omega arith) c.requires.state

pub returns-in-None-clause-answer : goal.returns-in-None-clause-answer
returns-in-None-clause-answer c = λ name.
    ap (λ o. no_fault (option_map (λ p. fault.SquareAt p) o)) (sym (c.in_ok-first_bad_place.ensures.exact name) ∙ c.in-None.is)

pub returns-in-Some-clause-answer : goal.returns-in-Some-clause-answer
returns-in-Some-clause-answer c = λ name.
    ap (λ o. no_fault (option_map (λ p. fault.SquareAt p) o)) (sym (c.in_ok-first_bad_place.ensures.exact name) ∙ c.in-Some.is)
