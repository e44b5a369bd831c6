use Rattle.std.proofs.Common.{◌≡◌, ◌∙◌, Result, Ok, Err, sym, ap, subst}
use Rattle.std.proofs.lemmas.Result.{err_from_is_err_and}
use Rattle.hashcons.proofs.Growth.{Grows-trans}
use Rattle.workspace_json.specs.declared.refusal.Refusal.{Refusal}
use Rattle.workspace_json.specs.declared.reply.Word.TheVariants as word
use Rattle.workspace_json.specs.Maps.{NamedMap, map_fault}
use Rattle.workspace_json.specs.MapSteps.{added, map_at}
use Rattle.workspace_json.specs.Steps.{new_name, no_fault}
use Rattle.workspace_json.specs.Workspaces.{IsWorkspace, with_map}
use Rattle.workspace_json.proofs.MapRules.{brought_maps_keep_rule}
use Rattle.workspace_lists.specs.Held.{map_called}
use Rattle.session_state.specs.States.{present_of, session_of}
use Rattle.session_undo.specs.Outcomes.{Answers}
use Rattle.session_undo.proofs.AddedGenerators.{stopped_after}
use Rattle.workspace_lists.proofs.ForCallers.{map_of-kept}
use Rattle.session_undo.proofs.StoredMaps.{called_kept}
use Rattle.session_undo.proofs.TestedCommands.{bring_invalid, bring_unnamed, bring_valid, comes_by, stopped}
use Rattle.session_undo.proofs.maps.bring_command.Goals as goal

pub returns-in_err-new_name-clause-comes : goal.returns-in_err-new_name-clause-comes
returns-in_err-new_name-clause-comes c =
    let p = err_from_is_err_and c.from_residual.result c.from_residual.ensures.1 in
    let W = present_of c.args.state.now in
    rw (p.1, p.2) (stopped (new_name W c.args.name.now) _ (session_of c.args.state.now) c.in_err-new_name.field-0.0 c.in_err-new_name.ensures
    (bring_unnamed W c.args.name.now c.args.nodes.now c.args.source c.args.target c.args.arrow))

pub returns-in_err-check_map-clause-comes : goal.returns-in_err-check_map-clause-comes
returns-in_err-check_map-clause-comes c =
    let p = err_from_is_err_and c.from_residual-in_err-check_map.result c.from_residual-in_err-check_map.ensures.1 in
    let s = c.args.state.now in
    let W = present_of s in
    let same = c.in_ok-map.ensures.map c.args.name.now in
    let wanted : Result (Unit {0}) Refusal = no_fault (map_fault (map_at c.args.name.now c.args.nodes.now c.args.source c.args.target c.args.arrow)) in
    let answer = subst (λ (m : NamedMap). Answers {A = Unit {0}} {B = Unit {0}} (λ x. x) (no_fault (map_fault m)) (Err c.in_err-check_map.field-0.0)) same (c.in_err-check_map.ensures.answer c.args.name.now) in
    rw p.1 (stopped_after _ (session_of s) _ _ _ (c.in_err-check_map.ensures.stays.session ∙ c.in_ok-map.ensures.stays.session) p.2
    (stopped wanted _ (session_of s) c.in_err-check_map.field-0.0 answer
    (λ r e. bring_invalid W c.args.name.now c.args.nodes.now c.args.source c.args.target c.args.arrow r c.in_ok-new_name.ensures e)))

pub returns-in_err-check_map-clause-grows : goal.returns-in_err-check_map-clause-grows
returns-in_err-check_map-clause-grows c = Grows-trans _ _ _ c.in_ok-map.ensures.stays.grows c.in_err-check_map.ensures.stays.grows

pub add_map-requires-clause-of_store : goal.add_map-requires-clause-of_store
add_map-requires-clause-of_store c =
    map_of-kept c.put_brought.new.state.store c.check_map.new.state.store c.in_ok-check_map.ensures.stays.grows c.in_ok-map.map c.in_ok-map.ensures.of_store

pub add_map-requires-clause-rule : goal.add_map-requires-clause-rule
add_map-requires-clause-rule c =
    let s = c.args.state.now in
    let W = present_of s in
    let name = c.args.name.now in
    let u = c.put_brought.new.state in
    let v = c.check_map.new.state in
    let m = map_at name c.args.nodes.now c.args.source c.args.target c.args.arrow in
    let same = c.in_ok-map.ensures.map name in
    let called : map_called v.store name c.in_ok-map.map ≡ m = called_kept u.store v.store c.in_ok-map.map c.in_ok-check_map.ensures.stays.grows c.in_ok-map.ensures.of_store name ∙ same in
    let present : present_of v ≡ W = c.in_ok-check_map.ensures.stays.present ∙ c.in_ok-map.ensures.stays.present in
    let valid : no_fault (map_fault m) ≡ Ok tt = ap (λ (n : NamedMap). no_fault (map_fault n)) (sym same) ∙ c.in_ok-check_map.ensures.answer name in
    let there : with_map W m ≡ with_map (present_of v) (map_called v.store name c.in_ok-map.map) = (λ i. with_map (sym present i) (sym called i)) in
    subst IsWorkspace there
    (brought_maps_keep_rule W name c.args.nodes.now c.args.source c.args.target c.args.arrow (added W word.Bring m) c.requires.state.history.present.rule c.requires.brought
    (bring_valid W name c.args.nodes.now c.args.source c.args.target c.args.arrow c.in_ok-new_name.ensures valid))

pub returns-clause-grows : goal.returns-clause-grows
returns-clause-grows c = Grows-trans _ _ _ (Grows-trans _ _ _ c.in_ok-map.ensures.stays.grows c.in_ok-check_map.ensures.stays.grows) c.add_map.ensures.grows

pub returns-clause-comes : goal.returns-clause-comes
returns-clause-comes c =
    let s = c.args.state.now in
    let W = present_of s in
    let name = c.args.name.now in
    let u = c.put_brought.new.state in
    let v = c.check_map.new.state in
    let m = map_at name c.args.nodes.now c.args.source c.args.target c.args.arrow in
    let same = c.in_ok-map.ensures.map name in
    let called : map_called v.store name c.in_ok-map.map ≡ m = called_kept u.store v.store c.in_ok-map.map c.in_ok-check_map.ensures.stays.grows c.in_ok-map.ensures.of_store name ∙ same in
    let present : present_of v ≡ W = c.in_ok-check_map.ensures.stays.present ∙ c.in_ok-map.ensures.stays.present in
    let valid : no_fault (map_fault m) ≡ Ok tt = ap (λ (n : NamedMap). no_fault (map_fault n)) (sym same) ∙ c.in_ok-check_map.ensures.answer name in
    comes_by (session_of v) (session_of s) (session_of c.add_map.new.state) _ _ c.add_map.result (c.in_ok-check_map.ensures.stays.session ∙ c.in_ok-map.ensures.stays.session)
    ((λ i. Ok (added (present i) word.Bring (called i))) ∙ sym (bring_valid W name c.args.nodes.now c.args.source c.args.target c.args.arrow c.in_ok-new_name.ensures valid))
    c.add_map.ensures.comes
