use Rattle.std.proofs.Common.{sym, subst}
use Rattle.hashcons.specs.NoteTables.{key_of}
use Rattle.normalise.specs.NormalMaps.{key_for}
use Rattle.normalise.specs.StoreForms.{IsKeyOf}
use Rattle.normalise.proofs.AnsweredMaps.{valid_answers, degenerate_answers, least_answers, reduced_answers}
use Rattle.normalise.proofs.FormsInStore.{key-grows, maps_key}
use Rattle.normalise.proofs.normal.normalise.Goals as goal

pub note_form-requires-clause-key : goal.note_form-requires-clause-key
note_form-requires-clause-key c =
    subst (IsKeyOf c.args.store.now) (sym c.in_ok-key.ensures) (maps_key c.args.store.now c.args.target c.args.legs.now c.requires.target c.requires.legs)

pub returns-clause-valid : goal.returns-clause-valid
returns-clause-valid c =
    let old = c.args.store.now in
    let new = c.note_form.new.store in
    let ms = c.args.legs.now in
    let h = maps_key old c.args.target ms c.requires.target c.requires.legs in
    let w = key-grows old new (key_for c.args.target ms) c.in_ok-note_form.ensures.grows h in
    let answer = c.known_answer.ensures in
    valid_answers new answer.store c.args.target ms w (key_of c.in_ok-key.key) c.in_ok-key.ensures c.known_answer.result answer.target answer.noted

pub returns-clause-degeneracy : goal.returns-clause-degeneracy
returns-clause-degeneracy c =
    let old = c.args.store.now in
    let new = c.note_form.new.store in
    let ms = c.args.legs.now in
    let h = maps_key old c.args.target ms c.requires.target c.requires.legs in
    let w = key-grows old new (key_for c.args.target ms) c.in_ok-note_form.ensures.grows h in
    let answer = c.known_answer.ensures in
    degenerate_answers new answer.store c.args.target ms w (key_of c.in_ok-key.key) c.in_ok-key.ensures c.known_answer.result answer.target answer.noted

pub returns-clause-least : goal.returns-clause-least
returns-clause-least c =
    let old = c.args.store.now in
    let new = c.note_form.new.store in
    let ms = c.args.legs.now in
    let h = maps_key old c.args.target ms c.requires.target c.requires.legs in
    let w = key-grows old new (key_for c.args.target ms) c.in_ok-note_form.ensures.grows h in
    let answer = c.known_answer.ensures in
    least_answers new answer.store c.args.target ms w (key_of c.in_ok-key.key) c.in_ok-key.ensures c.known_answer.result answer.target answer.noted

pub returns-clause-reduced : goal.returns-clause-reduced
returns-clause-reduced c =
    let old = c.args.store.now in
    let new = c.note_form.new.store in
    let ms = c.args.legs.now in
    let h = maps_key old c.args.target ms c.requires.target c.requires.legs in
    let w = key-grows old new (key_for c.args.target ms) c.in_ok-note_form.ensures.grows h in
    let answer = c.known_answer.ensures in
    reduced_answers new answer.store c.args.target ms w (key_of c.in_ok-key.key) c.in_ok-key.ensures c.known_answer.result answer.target answer.noted
