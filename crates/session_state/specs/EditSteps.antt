-- What making an edit asks for, and what it keeps.
use Rattle.std.specs.Prelude.{◌<◌, length}
use Rattle.std.specs.Vec.{vec_capacity}
use Rattle.hashcons.specs.Contents.{Contents}
use Rattle.workspace_json.specs.Workspaces.{IsWorkspace}
use Rattle.workspace_lists.specs.declared.workspace.Workspace.{Workspace}
use Rattle.session_state.specs.declared.edit.Edit.{Edit}
use Rattle.session_state.specs.declared.edit.Edit.TheVariants as edit
use Rattle.session_state.specs.declared.entries.Entries.{Entries}
use Rattle.workspace_lists.specs.Held.{AreHeld, trees_in}
use Rattle.session_state.specs.Edits.{HasType}
use Rattle.session_state.specs.Meanings.{Tell}
use Rattle.session_state.specs.States.{lists_of}

-- the list that an edit adds to has room
abbrev pub HasRoomFor : Workspace → Edit → Type 0
HasRoomFor w edit.TakeGenerator = Unit {0}
HasRoomFor w (edit.PutGenerator g m) = length w.generators.items < vec_capacity w.generators
HasRoomFor w (edit.TakeDiagram place) = Unit {0}
HasRoomFor w (edit.PutDiagram place d) = length w.diagrams.items < vec_capacity w.diagrams
HasRoomFor w (edit.TakeMap place) = Unit {0}
HasRoomFor w (edit.PutMap place m) = length w.maps.items < vec_capacity w.maps

-- A table that tells of the workspace before the edit tells of the one after it. Both hold ids of the store and
-- are workspaces by the rule. The edit back brings the type of the generator that went.
pub record Telling (c : Contents) (old new : Entries) (back : Edit) : Type 0 where
  pub tell : Tell c (trees_in c (lists_of new)) new.names
  pub type_of : HasType c (lists_of new) back

abbrev pub KeepsTelling : Contents → Entries → Entries → Edit → Edit → Type 0
KeepsTelling c old new e back =
    Tell c (trees_in c (lists_of old)) old.names → HasType c (lists_of old) e
    → AreHeld c (lists_of old) → AreHeld c (lists_of new)
    → IsWorkspace (trees_in c (lists_of old)) → IsWorkspace (trees_in c (lists_of new)) → Telling c old new back
