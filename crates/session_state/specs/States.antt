-- What a session keeps, and the session of trees that it stands for.
use Rattle.std.specs.Prelude.{◌≡◌, ℕ, ◌+◌, ◌≤◌, List, length, map, reverse, true}
use Rattle.std.specs.List.{All}
use Rattle.std.specs.Vec.{vec_capacity}
use Rattle.hashcons.specs.Contents.{Contents, Grows}
use Rattle.typecheck.specs.Signatures.{Entry}
use Rattle.workspace_json.specs.Sessions.{Session}
use Rattle.workspace_json.specs.Workspaces.{Workspace}
use Rattle.workspace_lists.specs.declared.names.Names.{Names}
use Rattle.workspace_lists.specs.declared.workspace.Generator.{Generator}
use Rattle.workspace_lists.specs.Names.{knows}
use Rattle.session_state.specs.declared.edit.Edit.{Edit}
use Rattle.session_state.specs.declared.entries.Entries.{Entries}
use Rattle.session_state.specs.declared.state.State.{State}
use Rattle.workspace_lists.specs.Held.{Lists, trees_in}
use Rattle.session_state.specs.Edits.{AllFit, Fits, IsGoodAt, LeadsBack, LeadsForth, edited, turns}
use Rattle.session_state.specs.Kinds.{total_put, of_diagrams, of_generators, of_maps, puts}
use Rattle.session_state.specs.Meanings.{Tell}

abbrev pub lists_of : Entries → Lists
lists_of e = record { generators = e.workspace.generators.items; diagrams = e.workspace.diagrams.items; maps = e.workspace.maps.items }

-- The session: the last edit of the past leads to the latest workspace before, and the last one of the future to the one
-- that comes next.
abbrev pub session_over : Contents → Lists → List Edit → List Edit → Session
session_over c l past future = record {
  present = trees_in c l;
  past = map (trees_in c) (turns l (reverse past));
  future = map (trees_in c) (turns l (reverse future));
}

abbrev pub session_of : State → Session
session_of s = session_over s.store (lists_of s.entries) s.past.items s.future.items

-- its present workspace
abbrev pub present_of : State → Workspace
present_of s = trees_in s.store (lists_of s.entries)

-- what a signature keeps of the generators of a workspace
abbrev pub entries_over : List Generator → List Entry
entries_over gs = map (λ g. record { boundary = g.boundary; dim = g.dim }) gs

-- ---- the invariant

-- each workspace of the session is good, and each edit fits
pub record IsHistory (c : Contents) (names : Names) (l : Lists) (past future : List Edit) : Type 0 where
  pub present : IsGoodAt c names l
  pub before : All (IsGoodAt c names) (turns l (reverse past))
  pub after : All (IsGoodAt c names) (turns l (reverse future))
  pub back_fits : AllFit c l (reverse past)
  pub forth_fits : AllFit c l (reverse future)
  pub back : All LeadsBack past
  pub forth : All LeadsForth future

-- there is room for every undo and every redo
pub record HasRoom (s : State) : Type 0 where
  pub past : length s.past.items + length s.future.items ≤ vec_capacity s.past
  pub future : length s.past.items + length s.future.items ≤ vec_capacity s.future
  pub generators : length s.entries.workspace.generators.items + total_put of_generators s.future.items ≤ vec_capacity s.entries.workspace.generators
  pub diagrams : length s.entries.workspace.diagrams.items + (total_put of_diagrams s.past.items + total_put of_diagrams s.future.items) ≤ vec_capacity s.entries.workspace.diagrams
  pub maps : length s.entries.workspace.maps.items + (total_put of_maps s.past.items + total_put of_maps s.future.items) ≤ vec_capacity s.entries.workspace.maps
  pub spare : total_put of_generators s.future.items ≤ s.signature.spare

pub record IsState (s : State) : Type 0 where
  pub generators : s.signature.entries ≡ entries_over s.entries.workspace.generators.items
  pub names : Tell s.store (trees_in s.store (lists_of s.entries)) s.entries.names
  pub history : IsHistory s.store s.entries.names (lists_of s.entries) s.past.items s.future.items
  pub room : HasRoom s

-- ---- steps

-- nothing changed but that the store and the table of names may have grown
pub record Stays (old new : State) : Type 0 where
  pub grows : Grows old.store new.store
  pub session : session_of new ≡ session_of old
  pub present : present_of new ≡ present_of old

-- there is room for one change that gives or takes this name
pub record HasRoomForOne (s : State) (name : List ℕ) : Type 0 where
  pub place : knows s.entries.names name ≡ true
  pub past : length s.past.items + 1 ≤ vec_capacity s.past
  pub future : length s.past.items + 1 ≤ vec_capacity s.future
  pub generators : length s.entries.workspace.generators.items + 1 ≤ vec_capacity s.entries.workspace.generators
  pub diagrams : length s.entries.workspace.diagrams.items + (1 + length s.past.items) ≤ vec_capacity s.entries.workspace.diagrams
  pub maps : length s.entries.workspace.maps.items + (1 + length s.past.items) ≤ vec_capacity s.entries.workspace.maps

-- what is enough of it for an edit
pub record HasRoomForEdit (s : State) (e : Edit) : Type 0 where
  pub past : length s.past.items + 1 ≤ vec_capacity s.past
  pub future : length s.past.items + 1 ≤ vec_capacity s.future
  pub generators : length (edited (lists_of s.entries) e).generators ≤ vec_capacity s.entries.workspace.generators
  pub diagrams : length s.entries.workspace.diagrams.items + (total_put of_diagrams s.past.items + puts of_diagrams e) ≤ vec_capacity s.entries.workspace.diagrams
  pub maps : length s.entries.workspace.maps.items + (total_put of_maps s.past.items + puts of_maps e) ≤ vec_capacity s.entries.workspace.maps

-- An edit may be made as a change: it leads to a good workspace, whose generators the signature has already.
pub record CanAccept (s : State) (e : Edit) : Type 0 where
  pub generators : s.signature.entries ≡ entries_over (edited (lists_of s.entries) e).generators
  pub names : Tell s.store (trees_in s.store (lists_of s.entries)) s.entries.names
  pub history : IsHistory s.store s.entries.names (lists_of s.entries) s.past.items s.future.items
  pub fits : Fits s.store (lists_of s.entries) e
  pub good : IsGoodAt s.store s.entries.names (edited (lists_of s.entries) e)
  pub forth : LeadsForth e
