use Rattle.std.proofs.Common.{◌≡◌, ◌∙◌, Ok, sym, ap}
use Rattle.std.proofs.lemmas.Result.{err_from_is_err_and}
use Rattle.typecheck.specs.Signatures.{generator_in}
use Rattle.workspace_json.specs.Steps.{both, generator_change, known_boundary, new_name}
use Rattle.session_state.specs.States.{present_of, session_of}
use Rattle.session_undo.proofs.TestedCommands.{comes_by, stopped}
use Rattle.session_undo.proofs.AddedGenerators.{generator_unknown, generator_unnamed}
use Rattle.session_undo.proofs.generators.generator_command.Goals as goal

pub returns-in_err-new_name-clause-comes : goal.returns-in_err-new_name-clause-comes
returns-in_err-new_name-clause-comes c =
    let p = err_from_is_err_and c.from_residual.result c.from_residual.ensures.1 in
    let W = present_of c.args.state.now in
    rw (p.1, p.2) (stopped (new_name W c.args.name.now) _ (session_of c.args.state.now) c.in_err-new_name.field-0.0 c.in_err-new_name.ensures
    (generator_unnamed W c.args.name.now c.args.source.now c.args.target.now))

pub returns-in_err-boundary-clause-comes : goal.returns-in_err-boundary-clause-comes
returns-in_err-boundary-clause-comes c =
    let p = err_from_is_err_and c.from_residual-in_err-boundary.result c.from_residual-in_err-boundary.ensures.1 in
    let W = present_of c.args.state.now in
    rw (p.1, p.2) (stopped (known_boundary W (both c.args.source.now c.args.target.now)) _ (session_of c.args.state.now) c.in_err-boundary.field-0.0 c.in_err-boundary.ensures.answer
    (λ r e. generator_unknown W c.args.name.now c.args.source.now c.args.target.now r c.in_ok-new_name.ensures e))

pub returns-clause-comes : goal.returns-clause-comes
returns-clause-comes c =
    let s = c.args.state.now in
    let u = c.make_room.new.self in
    let stays = c.in_ok-make_room.ensures.stays in
    let same : c.in_ok-own.own ≡ c.args.name.now = c.in_ok-own.ensures in
    let known : known_boundary (present_of u) (both c.args.source.now c.args.target.now) ≡ Ok (generator_in u.store c.in_ok-boundary.boundary) =
    ap (λ W. known_boundary W (both c.args.source.now c.args.target.now)) stays.present ∙ c.in_ok-boundary.ensures.answer
    ∙ ap (λ st. Ok (generator_in st c.in_ok-boundary.boundary)) (sym c.in_ok-make_room.ensures.store) in
    comes_by (session_of u) (session_of s) (session_of c.add_new.new.state) _ _ c.add_new.result stays.session
    (λ i. generator_change (stays.present i) (same i) c.args.source.now c.args.target.now)
    (c.add_new.ensures.comes c.args.source.now c.args.target.now known)
