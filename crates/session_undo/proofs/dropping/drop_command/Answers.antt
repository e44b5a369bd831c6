use Rattle.std.proofs.Common.{◌≡◌, ◌∙◌, ℕ, List, Some, false, true, sym, ap}
use Rattle.workspace_json.specs.declared.refusal.Refusal.TheVariants as refusal
use Rattle.workspace_json.specs.declared.reply.Reply.TheVariants as reply
use Rattle.workspace_json.specs.declared.reply.Word.TheVariants as word
use Rattle.workspace_json.specs.Sessions.{Stepped, change}
use Rattle.workspace_json.specs.Workspaces.{Workspace, can_be_dropped, without}
use Rattle.workspace_lists.specs.Held.{Lists}
use Rattle.session_state.specs.States.{lists_of, present_of, session_of}
use Rattle.session_undo.specs.Outcomes.{taking}
use Rattle.session_undo.proofs.StoredDiagrams.{accepted}
use Rattle.session_undo.proofs.TestedCommands.{drop_tested}
use Rattle.session_undo.proofs.DroppedThings.{drops, no_drop}
use Rattle.session_undo.proofs.dropping.drop_command.Goals as goal

pub returns-in_default-clause-comes : goal.returns-in_default-clause-comes
returns-in_default-clause-comes c =
    let s = c.args.state.now in
    ap (change (session_of s)) (drop_tested (present_of s) c.args.name.now false (no_drop s c.requires c.args.name.now (sym c.in_default.ensures)))
    ∙ ap (λ (name : List ℕ). let x : Stepped = record { reply = reply.Refused (refusal.Unknown name); session = session_of s } in x) (sym c.in_ok-copy.ensures)

-- the edit that was found is the one after room was made
pub accept-requires-clause-can : goal.accept-requires-clause-can
accept-requires-clause-can c =
    let u = c.make_room.new.self in
    let found : taking (lists_of u.entries) c.args.name.now ≡ Some c.in-Some.edit = ap (λ (l : Lists). taking l c.args.name.now) c.in_ok-make_room.ensures.lists ∙ sym c.in-Some.ensures in
    (drops u c.in_ok-make_room.ensures.state c.args.name.now c.in-Some.edit found).can

pub accept-requires-clause-room : goal.accept-requires-clause-room
accept-requires-clause-room c =
    let u = c.make_room.new.self in
    let found : taking (lists_of u.entries) c.args.name.now ≡ Some c.in-Some.edit = ap (λ (l : Lists). taking l c.args.name.now) c.in_ok-make_room.ensures.lists ∙ sym c.in-Some.ensures in
    (drops u c.in_ok-make_room.ensures.state c.args.name.now c.in-Some.edit found).room _ c.in_ok-make_room.ensures.room

pub returns-clause-comes : goal.returns-clause-comes
returns-clause-comes c =
    let s = c.args.state.now in
    let u = c.make_room.new.self in
    let name = c.args.name.now in
    let found : taking (lists_of u.entries) name ≡ Some c.in-Some.edit = ap (λ (l : Lists). taking l name) c.in_ok-make_room.ensures.lists ∙ sym c.in-Some.ensures in
    let gone = drops u c.in_ok-make_room.ensures.state name c.in-Some.edit found in
    let stays = c.in_ok-make_room.ensures.stays in
    let there : can_be_dropped (present_of s) name ≡ true = ap (λ (W : Workspace). can_be_dropped W name) (sym stays.present) ∙ gone.there in
    ap (change (session_of s)) (drop_tested (present_of s) name true there)
    ∙ (λ i. let x : Stepped = record {
      reply = reply.Named (sym c.in_ok-copy.ensures i) word.Drop;
      session = sym (accepted (session_of s) (session_of c.accept.new.self) (session_of u) _ stays.session c.accept.ensures.session (without (present_of s) name)
          (gone.after ∙ ap (λ (W : Workspace). without W name) stays.present)) i;
    } in x)
