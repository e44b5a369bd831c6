use Rattle.std.proofs.Common.{◌≡◌, codes, false, is_some, refl, sym, ap, ◌∙◌, rules, tests}
use Rattle.std.proofs.lemmas.Iterator.Search.{all_from_yields_List}
use Rattle.std.specs.Prelude.{bytes_eq}
use Rattle.workspace_json.specs.Paths.{height_in, heights_in, steps_of}
use Rattle.workspace_json.proofs.PathTurns.{all_heights, by_steps, steps_come}
use Rattle.workspace_json.proofs.paths.is_path.Goals as goal

pub returns-else-eq : goal.returns-else-eq
returns-else-eq c =
    let word = c.args.word.now in
    let split = c.split.ensures in
    let come = steps_come _ _ word refl split.text split.has_more split.pattern in
    let each = all_from_yields_List (λ w. is_some (height_in w)) _ _ _ c.all.ensures.ran come (λ x b q k. search (rules, tests)) in
    let other : bytes_eq word (codes ".") ≡ false = sym c.eq.ensures ∙ c.if-eq.false in
    each ∙ all_heights (steps_of word) ∙ ap is_some (sym (by_steps word (heights_in (steps_of word)) other refl))
