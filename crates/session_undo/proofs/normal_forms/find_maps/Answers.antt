use Rattle.std.proofs.Common.{◌≡◌, ◌+◌, All, List, Ok, Vec, Global, length, sym, subst, take, arith}
use Rattle.std.proofs.lemmas.Result.{err_from_is_err_and}
use Rattle.std.proofs.lemmas.List.{length_push}
use Rattle.std.proofs.lemmas.List.Elements.{All-push}
use Rattle.session_state.specs.States.{present_of}
use Rattle.workspace_json.specs.MapSteps.{known_map}
use Rattle.workspace_json.specs.NormalSteps.{known_maps}
use Rattle.workspace_lists.specs.Held.{map_called}
use Rattle.zigzag_maps.specs.declared.map.Map.{Map}
use Rattle.zigzag_maps.specs.Found.{IsValidMap}
use Rattle.session_undo.specs.NormalForms.{maps_called}
use Rattle.session_undo.proofs.LegMaps.{found_next, found_stops}
use Rattle.session_undo.proofs.TestedCommands.{part_stopped}
use Rattle.session_undo.proofs.normal_forms.find_maps.Goals as goal

pub returns-in_err-find_map-clause-answer : goal.returns-in_err-find_map-clause-answer
returns-in_err-find_map-clause-answer c =
    let p = err_from_is_err_and c.from_residual.result c.from_residual.ensures.1 in
    let s = c.args.state.now in
    let name = c.name-item.result in
    rw (p.1, p.2) (part_stopped (map_called s.store name) (λ (ms : Vec Map Global). maps_called s.store c.args.names.now ms.items)
    (known_map (present_of s) name) (known_maps (present_of s) c.args.names.now) c.in_err-find_map.field-0.0 c.in_err-find_map.ensures.answer
    (λ r e. found_stops (present_of s) s.store c.args.names.now c.loop-name.name-index name c.loop-name.maps.items r c.loop-name-test.true c.name-item.is c.loop-name.invariant.0 e))

pub loop-name-preserved : goal.loop-name-preserved
loop-name-preserved c =
    let s = c.args.state.now in
    let names = c.args.names.now in
    let i = c.loop-name.name-index in
    let ms = c.loop-name.maps.items in
    let m = c.in_ok-find_map.field-0 in
    let n = length_push ms m in
    let k = c.loop-name.invariant.1 in
    subst (λ (xs : List Map). (known_maps (present_of s) (take (i + 1) names) ≡ Ok (maps_called s.store (take (i + 1) names) xs)) × (length xs ≡ i + 1) × All (IsValidMap s.store) xs)
    (sym c.in_ok-push_map.ensures) (
      found_next (present_of s) s.store names i c.name-item.result ms m c.loop-name-test.true c.name-item.is k c.loop-name.invariant.0 c.in_ok-find_map.ensures.answer,
      omega arith,
      All-push (IsValidMap s.store) ms m c.loop-name.invariant.2 c.in_ok-find_map.ensures.valid,
    )
