use Rattle.std.proofs.Common.{◌≡◌, ◌∙◌, ◌≤◌, List, ℕ, true, sym, subst, arith}
use Rattle.diagram_terms.specs.declared.limits.TheConstants.{GREATEST_DIM}
use Rattle.diagram_terms.specs.Dimension.{dimension_of}
use Rattle.diagram_terms.specs.Tree.{Tree}
use Rattle.diagram_terms.specs.Typing.{IsWellTyped}
use Rattle.hashcons.specs.Contents.{IsDiagramOf, diagram_at}
use Rattle.workspace_json.specs.Workspaces.{Workspace, generators_of, with_diagram}
use Rattle.workspace_lists.specs.declared.workspace.Named.{Named}
use Rattle.workspace_lists.specs.Names.{knows}
use Rattle.session_state.specs.States.{lists_of, present_of, session_of}
use Rattle.session_undo.proofs.StoredDiagrams.{accepted, can_put_diagram, room_to_put_diagram, said_stored, stored_comes, with_diagram_in}
use Rattle.workspace_json.proofs.KeptRules.{IsNew, is_new}
use Rattle.session_undo.proofs.storing.store_diagram.Goals as goal

pub accept-requires-clause-can : goal.accept-requires-clause-can
accept-requires-clause-can c =
    let s = c.args.state.now in
    let u = c.make_room.new.self in
    let d : Named = record { name = c.in_ok-name.name; root = c.args.root } in
    let same : c.in_ok-name.name ≡ c.args.name.now = c.in_ok-name.ensures in
    let present : present_of u ≡ present_of s = c.in_ok-make_room.ensures.stays.present ∙ c.in_ok-check.ensures.stays.present in
    let held : IsDiagramOf c.check.new.state.store c.args.root = c.in_ok-check.ensures.stays.grows.diagrams c.args.root c.requires.of_store in
    let tree : diagram_at u.store c.args.root ≡ diagram_at s.store c.args.root =
    c.in_ok-make_room.ensures.stays.grows.diagram_trees c.args.root held ∙ c.in_ok-check.ensures.stays.grows.diagram_trees c.args.root c.requires.of_store in
    let new : IsNew (present_of u) c.in_ok-name.name =
    subst (λ (W : Workspace). IsNew W c.in_ok-name.name) (sym present) (subst (IsNew (present_of s)) (sym same) (is_new (present_of s) c.args.name.now c.requires.new)) in
    let typed : IsWellTyped (generators_of (present_of u)) (diagram_at u.store c.args.root) =
    subst (λ (t : Tree). IsWellTyped (generators_of (present_of u)) t) (sym tree)
    (subst (λ (W : Workspace). IsWellTyped (generators_of W) (diagram_at s.store c.args.root)) (sym present) c.in_ok-check.ensures.typed) in
    let low : dimension_of (diagram_at u.store c.args.root) ≤ GREATEST_DIM = subst (λ (t : Tree). dimension_of t ≤ GREATEST_DIM) (sym tree) c.requires.low in
    can_put_diagram u c.in_ok-make_room.ensures.state d c.len-place.result (omega (arith, c.len-place.ensures)) new typed low
    (c.in_ok-make_room.ensures.stays.grows.diagrams c.args.root held)
    (subst (λ (name : List ℕ). knows u.entries.names name ≡ true) c.as_str.ensures c.in_ok-make_room.ensures.room.place)

pub accept-requires-clause-room : goal.accept-requires-clause-room
accept-requires-clause-room c =
    room_to_put_diagram c.make_room.new.self c.in_ok-make_room.ensures.state (record { name = c.in_ok-name.name; root = c.args.root }) c.len-place.result (omega (arith, c.len-place.ensures)) _ c.in_ok-make_room.ensures.room

pub returns-clause-comes : goal.returns-clause-comes
returns-clause-comes c =
    let s = c.args.state.now in
    let u = c.make_room.new.self in
    let d : Named = record { name = c.in_ok-name.name; root = c.args.root } in
    let W = present_of s in
    let t = diagram_at s.store c.args.root in
    let same : c.in_ok-name.name ≡ c.args.name.now = c.in_ok-name.ensures in
    let present : present_of u ≡ W = c.in_ok-make_room.ensures.stays.present ∙ c.in_ok-check.ensures.stays.present in
    let kept : diagram_at c.check.new.state.store c.args.root ≡ t = c.in_ok-check.ensures.stays.grows.diagram_trees c.args.root c.requires.of_store in
    let held : IsDiagramOf c.check.new.state.store c.args.root = c.in_ok-check.ensures.stays.grows.diagrams c.args.root c.requires.of_store in
    let tree : diagram_at u.store c.args.root ≡ t = c.in_ok-make_room.ensures.stays.grows.diagram_trees c.args.root held ∙ kept in
    stored_comes (session_of s) (session_of c.accept.new.self) W c.args.word c.args.name.now t _ c.in_ok-check.ensures.answer
    (said_stored t (diagram_at c.check.new.state.store c.args.root) c.dim.result c.length.result c.args.name.now c.in_ok-copy.field-0 c.args.word kept c.dim.ensures.shape c.dim.ensures.dim c.length.ensures.length c.in_ok-copy.ensures)
    (accepted (session_of s) (session_of c.accept.new.self) (session_of u) _ (c.in_ok-make_room.ensures.stays.session ∙ c.in_ok-check.ensures.stays.session) c.accept.ensures.session
    (with_diagram W c.args.name.now t)
    (with_diagram_in u.store (lists_of u.entries) c.len-place.result d (omega (arith, c.len-place.ensures))
    ∙ (λ i. with_diagram (present i) (same i) (tree i))))
