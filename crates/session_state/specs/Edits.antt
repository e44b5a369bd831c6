-- Edits: the steps between neighbouring workspaces of a session, over the ids of a store.
use Rattle.std.specs.Prelude.{◌≡◌, ℕ, ◌-◌, ◌<◌, ◌≤◌, List, [], ◌∷◌, ◌++◌, length, take, true}
use Rattle.std.specs.List.{All, insert, remove}
use Rattle.diagram_terms.specs.GeneratorTypes.{type_of_generator}
use Rattle.hashcons.specs.Contents.{Contents}
use Rattle.typecheck.specs.Signatures.{generator_in}
use Rattle.workspace_json.specs.Workspaces.{IsWorkspace}
use Rattle.workspace_lists.specs.declared.names.Meaning.{Meaning}
use Rattle.workspace_lists.specs.declared.names.Names.{Names}
use Rattle.workspace_lists.specs.declared.workspace.Generator.{Generator}
use Rattle.workspace_lists.specs.Held.{AreHeld, Lists, trees_in}
use Rattle.workspace_lists.specs.Names.{knows}
use Rattle.session_state.specs.Kinds.{puts, takes, of_generators}
use Rattle.session_state.specs.Meanings.{IsMeaningOf, generator, meaning_over}
use Rattle.session_state.specs.declared.edit.Edit.{Edit}
use Rattle.session_state.specs.declared.edit.Edit.TheVariants as edit

-- what an edit makes of the lists
abbrev pub edited : Lists → Edit → Lists
edited l edit.TakeGenerator = record { generators = take (length l.generators - 1) l.generators; diagrams = l.diagrams; maps = l.maps }
edited l (edit.PutGenerator g m) = record { generators = l.generators ++ g ∷ []; diagrams = l.diagrams; maps = l.maps }
edited l (edit.TakeDiagram place) = record { generators = l.generators; diagrams = remove l.diagrams place; maps = l.maps }
edited l (edit.PutDiagram place d) = record { generators = l.generators; diagrams = insert l.diagrams place d; maps = l.maps }
edited l (edit.TakeMap place) = record { generators = l.generators; diagrams = l.diagrams; maps = remove l.maps place }
edited l (edit.PutMap place m) = record { generators = l.generators; diagrams = l.diagrams; maps = insert l.maps place m }

-- the edit names a place of the lists
abbrev pub IsWithin : Lists → Edit → Type 0
IsWithin l edit.TakeGenerator = 0 < length l.generators
IsWithin l (edit.PutGenerator g m) = Unit {0}
IsWithin l (edit.TakeDiagram place) = place < length l.diagrams
IsWithin l (edit.PutDiagram place d) = place ≤ length l.diagrams
IsWithin l (edit.TakeMap place) = place < length l.maps
IsWithin l (edit.PutMap place m) = place ≤ length l.maps

-- a generator comes with a meaning that is its type
pub record IsTypeOf (c : Contents) (number : ℕ) (g : Generator) (m : Meaning) : Type 0 where
  pub of_store : IsMeaningOf c m
  pub tree : meaning_over c m ≡ generator (type_of_generator number (generator_in c g.boundary))

abbrev pub HasType : Contents → Lists → Edit → Type 0
HasType c l edit.TakeGenerator = Unit {0}
HasType c l (edit.PutGenerator g m) = IsTypeOf c (length l.generators) g m
HasType c l (edit.TakeDiagram place) = Unit {0}
HasType c l (edit.PutDiagram place d) = Unit {0}
HasType c l (edit.TakeMap place) = Unit {0}
HasType c l (edit.PutMap place m) = Unit {0}

-- each edit fits what the edits before it made
pub record Fits (c : Contents) (l : Lists) (e : Edit) : Type 0 where
  pub within : IsWithin l e
  pub type_of : HasType c l e

abbrev pub AllFit : Contents → Lists → List Edit → Type 0
AllFit c l [] = Unit {0}
AllFit c l (e ∷ es) = Fits c l e × AllFit c (edited l e) es

-- the lists that edits lead to, one after the other
abbrev pub turns : Lists → List Edit → List Lists
turns l [] = []
turns l (e ∷ es) = edited l e ∷ turns (edited l e) es

-- ---- which edits lead back, and which lead forth

-- no generator is ever taken away but by undoing
abbrev pub LeadsBack : Edit → Type 0
LeadsBack e = puts of_generators e ≡ 0

abbrev pub LeadsForth : Edit → Type 0
LeadsForth e = takes of_generators e ≡ 0

-- ---- lists of a session

-- every name has a place in the table
pub record AreKnown (names : Names) (l : Lists) : Type 0 where
  pub generators : All (λ g. knows names g.name ≡ true) l.generators
  pub diagrams : All (λ d. knows names d.name ≡ true) l.diagrams
  pub maps : All (λ m. knows names m.name ≡ true) l.maps

-- Each workspace of a session is one by the rule.
pub record IsGoodAt (c : Contents) (names : Names) (l : Lists) : Type 0 where
  pub held : AreHeld c l
  pub known : AreKnown names l
  pub rule : IsWorkspace (trees_in c l)
