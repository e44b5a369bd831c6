-- What a command comes to over what a session keeps, and what a question is answered.
use Rattle.std.specs.Prelude.{◌≡◌, ℕ, List, position, bytes_eq, Option, Some, None, Result, Ok, Err}
use Rattle.workspace_json.specs.declared.refusal.Refusal.{Refusal}
use Rattle.workspace_json.specs.declared.reply.Reply.{Reply}
use Rattle.workspace_json.specs.declared.reply.Reply.TheVariants as reply
use Rattle.workspace_json.specs.Sessions.{Session, Stepped}
use Rattle.workspace_json.specs.Steps.{Changed}
use Rattle.workspace_json.specs.Workspaces.{Workspace}
use Rattle.workspace_lists.specs.Held.{Lists}
use Rattle.session_state.specs.declared.edit.Edit.{Edit}
use Rattle.session_state.specs.declared.edit.Edit.TheVariants as edit
use Rattle.session_undo.specs.declared.stop.Stop.{Stop}
use Rattle.session_undo.specs.declared.stop.Stop.TheVariants as stop

-- what a command comes to: the wanted reply and session, or want of memory, which leaves the session
abbrev pub ComesTo : Stepped → Session → Session → Result Reply Stop → Type 0
ComesTo wanted old new (Ok r) = wanted ≡ record { reply = r; session = new }
ComesTo wanted old new (Err (stop.Refused r)) = wanted ≡ record { reply = reply.Refused r; session = new }
ComesTo wanted old new (Err stop.NoMemory) = new ≡ old

-- an accepted change with this reply
abbrev pub changed : Reply → Workspace → Changed
changed r W = record { reply = r; workspace = W }

-- the answer to a question
abbrev pub Answers : {A B : Type 0} → (A → B) → Result B Refusal → Result A Stop → Type 0
Answers view wanted (Ok x) = wanted ≡ Ok (view x)
Answers view wanted (Err (stop.Refused r)) = wanted ≡ Err r
Answers view wanted (Err stop.NoMemory) = Unit {0}

-- the edit that takes away the stored diagram of a name, or else the stored map
abbrev pub taking_by : Option ℕ → Option ℕ → Option Edit
taking_by (Some place) other = Some (edit.TakeDiagram place)
taking_by None (Some place) = Some (edit.TakeMap place)
taking_by None None = None

abbrev pub taking : Lists → List ℕ → Option Edit
taking l name = taking_by (position (λ d. bytes_eq d.name name) l.diagrams) (position (λ m. bytes_eq m.name name) l.maps)
