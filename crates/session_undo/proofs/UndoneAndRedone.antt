-- Every workspace of a session is one by the rule; redo gives back what undo took, and undo what redo made.
use Rattle.std.proofs.Common.{◌≡◌, List, [], ◌∷◌, Some, All, map, refl, subst}
use Rattle.std.proofs.lemmas.List.Elements.{All-map, All-weaker}
use Rattle.hashcons.specs.Contents.{Contents}
use Rattle.workspace_json.specs.Sessions.{IsSession, Session, back, forth, redone, undone}
use Rattle.workspace_json.specs.Workspaces.{IsWorkspace, Workspace}
use Rattle.workspace_lists.specs.declared.names.Names.{Names}
use Rattle.session_state.specs.declared.state.State.{State}
use Rattle.workspace_lists.specs.Held.{Lists, trees_in}
use Rattle.session_state.specs.Edits.{IsGoodAt}
use Rattle.session_state.specs.States.{IsState, session_of}

all_rule : (c : Contents) (names : Names) (ls : List Lists) → All (IsGoodAt c names) ls → All IsWorkspace (map (trees_in c) ls)
all_rule c names ls all =
    All-map IsWorkspace (trees_in c) ls (All-weaker (IsGoodAt c names) (λ l. IsWorkspace (trees_in c l)) (λ l (good : IsGoodAt c names l). good.rule) ls all)

pub session_rule : (s : State) → IsState s → IsSession (session_of s)
session_rule s is = record {
  present = is.history.present.rule;
  past = all_rule s.store s.entries.names _ is.history.before;
  future = all_rule s.store s.entries.names _ is.history.after;
}

-- ---- undo and redo

back_forth : (present : Workspace) (past future : List Workspace) (T : Session) → back present past future ≡ Some T
    → redone T ≡ Some record { present = present; past = past; future = future }
back_forth present [] future T e = absurd (let z : ⊥ = cc in z)
back_forth present (before ∷ past) future T e =
    let S : Session = record { present = present; past = before ∷ past; future = future } in
    let U : Session = record { present = before; past = past; future = present ∷ future } in
    let same : U ≡ T = cc in
    subst (λ (V : Session). redone V ≡ Some S) same refl

pub redo_after_undo : (S T : Session) → undone S ≡ Some T → redone T ≡ Some S
redo_after_undo S T e = back_forth S.present S.past S.future T e

forth_back : (present : Workspace) (past future : List Workspace) (T : Session) → forth present past future ≡ Some T
    → undone T ≡ Some record { present = present; past = past; future = future }
forth_back present past [] T e = absurd (let z : ⊥ = cc in z)
forth_back present past (after ∷ future) T e =
    let S : Session = record { present = present; past = past; future = after ∷ future } in
    let U : Session = record { present = after; past = present ∷ past; future = future } in
    let same : U ≡ T = cc in
    subst (λ (V : Session). undone V ≡ Some S) same refl

pub undo_after_redo : (S T : Session) → redone S ≡ Some T → undone T ≡ Some S
undo_after_redo S T e = forth_back S.present S.past S.future T e
