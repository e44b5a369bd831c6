use Rattle.std.proofs.Common.{◌≡◌, ◌∙◌, List, ℕ, true, sym, subst, arith}
use Rattle.hashcons.specs.Contents.{Contents}
use Rattle.workspace_json.specs.Sessions.{Stepped}
use Rattle.workspace_json.specs.Workspaces.{IsWorkspace, with_map}
use Rattle.workspace_lists.specs.declared.workspace.NamedMap.{NamedMap}
use Rattle.workspace_lists.specs.Held.{IsMapOf, map_called}
use Rattle.workspace_lists.specs.Names.{knows}
use Rattle.session_state.specs.States.{lists_of, present_of, session_of}
use Rattle.session_undo.proofs.StoredDiagrams.{accepted}
use Rattle.session_undo.proofs.StoredMaps.{can_put_map, room_to_put_map, with_map_in}
use Rattle.session_undo.proofs.storing.put_map.Goals as goal

pub accept-requires-clause-can : goal.accept-requires-clause-can
accept-requires-clause-can c =
    let s = c.args.state.now in
    let u = c.make_room.new.self in
    let m : NamedMap = record { name = c.in_ok-name.name; map = c.args.map } in
    let same : c.in_ok-name.name ≡ c.args.name.now = c.in_ok-name.ensures in
    let present : present_of u ≡ present_of s = c.in_ok-make_room.ensures.stays.present in
    let store : u.store ≡ s.store = c.in_ok-make_room.ensures.store in
    let there : with_map (present_of s) (map_called s.store c.args.name.now c.args.map) ≡ with_map (present_of u) (map_called u.store c.in_ok-name.name c.args.map) =
    (λ i. with_map (sym present i) (map_called (sym store i) (sym same i) c.args.map)) in
    can_put_map u c.in_ok-make_room.ensures.state m c.len-place.result (omega (arith, c.len-place.ensures))
    (subst IsWorkspace there c.requires.rule)
    (subst (λ (st : Contents). IsMapOf st c.args.map) (sym store) c.requires.of_store)
    (subst (λ (name : List ℕ). knows u.entries.names name ≡ true) c.as_str.ensures c.in_ok-make_room.ensures.room.place)

pub accept-requires-clause-room : goal.accept-requires-clause-room
accept-requires-clause-room c =
    room_to_put_map c.make_room.new.self c.in_ok-make_room.ensures.state (record { name = c.in_ok-name.name; map = c.args.map }) c.len-place.result (omega (arith, c.len-place.ensures)) _ c.in_ok-make_room.ensures.room

pub returns-clause-comes : goal.returns-clause-comes
returns-clause-comes c =
    let s = c.args.state.now in
    let u = c.make_room.new.self in
    let m : NamedMap = record { name = c.in_ok-name.name; map = c.args.map } in
    let same : c.in_ok-name.name ≡ c.args.name.now = c.in_ok-name.ensures in
    let present : present_of u ≡ present_of s = c.in_ok-make_room.ensures.stays.present in
    let store : u.store ≡ s.store = c.in_ok-make_room.ensures.store in
    let session = accepted (session_of s) (session_of c.accept.new.self) (session_of u) _ c.in_ok-make_room.ensures.stays.session c.accept.ensures.session
    (with_map (present_of s) (map_called s.store c.args.name.now c.args.map))
    (with_map_in u.store (lists_of u.entries) c.len-place.result m (omega (arith, c.len-place.ensures))
    ∙ (λ i. with_map (present i) (map_called (store i) (same i) c.args.map))) in
    (λ i. let x : Stepped = record { reply = c.args.reply; session = sym session i } in x)
