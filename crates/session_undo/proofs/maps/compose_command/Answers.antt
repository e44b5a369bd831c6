use Rattle.std.proofs.Common.{◌≡◌, ◌∙◌, true, false, Ok, sym, ap, subst}
use Rattle.std.proofs.lemmas.Result.{err_from_is_err_and}
use Rattle.hashcons.proofs.Growth.{Grows-trans}
use Rattle.workspace_json.specs.declared.reply.Word.TheVariants as word
use Rattle.workspace_json.specs.Maps.{composite_map}
use Rattle.workspace_json.specs.MapSteps.{added, known_map}
use Rattle.workspace_json.specs.Sessions.{change}
use Rattle.workspace_json.specs.Steps.{new_name}
use Rattle.workspace_json.specs.Workspaces.{IsWorkspace, with_map}
use Rattle.workspace_json.proofs.MapRules.{composites_keep_rule}
use Rattle.workspace_lists.specs.Held.{map_called}
use Rattle.session_state.specs.States.{present_of, session_of}
use Rattle.session_undo.proofs.TestedCommands.{comes_by, compose_no_first, compose_no_second, compose_tested, compose_unnamed, stopped}
use Rattle.session_undo.proofs.maps.compose_command.Goals as goal

pub returns-in_err-new_name-clause-comes : goal.returns-in_err-new_name-clause-comes
returns-in_err-new_name-clause-comes c =
    let p = err_from_is_err_and c.from_residual.result c.from_residual.ensures.1 in
    let W = present_of c.args.state.now in
    rw (p.1, p.2) (stopped (new_name W c.args.name.now) _ (session_of c.args.state.now) c.in_err-new_name.field-0.0 c.in_err-new_name.ensures
    (compose_unnamed W c.args.name.now c.args.first.now c.args.second.now))

pub returns-in_err-f-clause-comes : goal.returns-in_err-f-clause-comes
returns-in_err-f-clause-comes c =
    let p = err_from_is_err_and c.from_residual-in_err-f.result c.from_residual-in_err-f.ensures.1 in
    let W = present_of c.args.state.now in
    rw (p.1, p.2) (stopped (known_map W c.args.first.now) _ (session_of c.args.state.now) c.in_err-f.field-0.0 c.in_err-f.ensures.answer
    (λ r e. compose_no_first W c.args.name.now c.args.first.now c.args.second.now r c.in_ok-new_name.ensures e))

pub returns-in_err-g-clause-comes : goal.returns-in_err-g-clause-comes
returns-in_err-g-clause-comes c =
    let p = err_from_is_err_and c.from_residual-in_err-g.result c.from_residual-in_err-g.ensures.1 in
    let W = present_of c.args.state.now in
    rw (p.1, p.2) (stopped (known_map W c.args.second.now) _ (session_of c.args.state.now) c.in_err-g.field-0.0 c.in_err-g.ensures.answer
    (λ r e. compose_no_second W c.args.name.now c.args.first.now c.args.second.now _ r c.in_ok-new_name.ensures c.in_ok-f.ensures.answer e))

pub returns-else-are_one-clause-comes : goal.returns-else-are_one-clause-comes
returns-else-are_one-clause-comes c =
    let s = c.args.state.now in
    ap (change (session_of s)) (compose_tested (present_of s) c.args.name.now c.args.first.now c.args.second.now _ _ false c.in_ok-new_name.ensures c.in_ok-f.ensures.answer c.in_ok-g.ensures.answer (sym c.if-are_one.ensures.trees))

pub add_map-requires-clause-rule : goal.add_map-requires-clause-rule
add_map-requires-clause-rule c =
    let s = c.args.state.now in
    let u = c.composite_of.new.state in
    let W = present_of s in
    let name = c.args.name.now in
    let f = map_called s.store c.args.first.now c.in_ok-f.f in
    let g = map_called s.store c.args.second.now c.in_ok-g.g in
    let done = compose_tested W name c.args.first.now c.args.second.now f g true c.in_ok-new_name.ensures c.in_ok-f.ensures.answer c.in_ok-g.ensures.answer (sym c.if-are_one.ensures.trees) in
    let called : map_called u.store name c.in_ok-map.map ≡ composite_map name g f = c.in_ok-map.ensures.map name c.args.second.now c.args.first.now in
    let present : present_of u ≡ W = c.in_ok-map.ensures.stays.present in
    let there : with_map W (composite_map name g f) ≡ with_map (present_of u) (map_called u.store name c.in_ok-map.map) = (λ i. with_map (sym present i) (sym called i)) in
    subst IsWorkspace there
    (composites_keep_rule W name c.args.first.now c.args.second.now (added W word.Compose (composite_map name g f)) c.requires.history.present.rule done)

pub returns-in_ok-map-clause-grows : goal.returns-in_ok-map-clause-grows
returns-in_ok-map-clause-grows c = Grows-trans _ _ _ c.in_ok-map.ensures.stays.grows c.add_map.ensures.grows

pub returns-in_ok-map-clause-comes : goal.returns-in_ok-map-clause-comes
returns-in_ok-map-clause-comes c =
    let s = c.args.state.now in
    let u = c.composite_of.new.state in
    let W = present_of s in
    let name = c.args.name.now in
    let f = map_called s.store c.args.first.now c.in_ok-f.f in
    let g = map_called s.store c.args.second.now c.in_ok-g.g in
    let done = compose_tested W name c.args.first.now c.args.second.now f g true c.in_ok-new_name.ensures c.in_ok-f.ensures.answer c.in_ok-g.ensures.answer (sym c.if-are_one.ensures.trees) in
    let called : map_called u.store name c.in_ok-map.map ≡ composite_map name g f = c.in_ok-map.ensures.map name c.args.second.now c.args.first.now in
    let present : present_of u ≡ W = c.in_ok-map.ensures.stays.present in
    comes_by (session_of u) (session_of s) (session_of c.add_map.new.state) _ _ c.add_map.result c.in_ok-map.ensures.stays.session
    ((λ i. Ok (added (present i) word.Compose (called i))) ∙ sym done) c.add_map.ensures.comes
