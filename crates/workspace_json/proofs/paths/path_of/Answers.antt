use Rattle.std.proofs.Common.{◌≡◌, length, codes, false, None, Some, sym, ◌∙◌}
use Rattle.std.proofs.lemmas.Iterator.Consumers.{YieldsList-turn, YieldsList-end}
use Rattle.std.proofs.lemmas.List.{length_push}
use Rattle.std.specs.Prelude.{bytes_eq}
use Rattle.workspace_json.specs.Paths.{steps_of, heights_in}
use Rattle.workspace_json.proofs.PathTurns.{none_read, height_more, no_height, all_read, by_steps, steps_come}
use Rattle.workspace_json.proofs.paths.path_of.Goals as goal

pub loop-step-init : goal.loop-step-init
loop-step-init c = none_read c.new-path.result (steps_of c.args.word.now) c.new-path.ensures

pub returns-in_default : goal.returns-in_default
returns-in_default c =
    let word = c.args.word.now in
    let split = c.split-step-items.ensures in
    let come = steps_come _ _ word c.into_iter-step-iterator.ensures.into_iter_gives split.text split.has_more split.pattern in
    let at = YieldsList-turn come c.loop-step.yielded _ c.loop-step.yielded_by _ _ c.in-Some.step c.in-Some.is c.next.ensures.steps in
    let none = no_height (steps_of word) (length c.loop-step.yielded) c.in-Some.step.now c.loop-step.path (heights_in (steps_of word)) at c.loop-step.invariant (sym c.height_of.ensures ∙ c.in_default.is) in
    let other : bytes_eq word (codes ".") ≡ false = sym c.eq.ensures ∙ c.if-eq.false in
    sym (by_steps word None other none)

pub loop-step-preserved : goal.loop-step-preserved
loop-step-preserved c =
    let word = c.args.word.now in
    let split = c.split-step-items.ensures in
    let come = steps_come _ _ word c.into_iter-step-iterator.ensures.into_iter_gives split.text split.has_more split.pattern in
    let at = YieldsList-turn come c.loop-step.yielded _ c.loop-step.yielded_by _ _ c.in-Some.step c.in-Some.is c.next.ensures.steps in
    rw (c.in_ok-push.ensures.ok, length_push c.loop-step.yielded c.in-Some.step) (height_more (steps_of word) (length c.loop-step.yielded) c.in-Some.step.now c.loop-step.path (heights_in (steps_of word)) at c.loop-step.invariant c.in-Some-height_of.height (sym c.height_of.ensures ∙ c.in-Some-height_of.is))

pub returns : goal.returns
returns c =
    let word = c.args.word.now in
    let split = c.split-step-items.ensures in
    let come = steps_come _ _ word c.into_iter-step-iterator.ensures.into_iter_gives split.text split.has_more split.pattern in
    let end = YieldsList-end come c.loop-step.yielded _ c.loop-step.yielded_by _ _ c.in-None.is c.next.ensures.steps in
    let other : bytes_eq word (codes ".") ≡ false = sym c.eq.ensures ∙ c.if-eq.false in
    sym (by_steps word (Some c.loop-step.path) other (all_read (steps_of word) (length c.loop-step.yielded) c.loop-step.path (heights_in (steps_of word)) end.1 c.loop-step.invariant))
