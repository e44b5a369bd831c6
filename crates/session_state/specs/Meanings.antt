-- What the names of a workspace stand for, and that a table says so.
use Rattle.std.specs.Prelude.{◌≡◌, ℕ, List, Option, Some, None}
use Rattle.diagram_terms.specs.Tree.{Tree}
use Rattle.hashcons.specs.Contents.{Contents, IsDiagramOf, arrow_at, diagram_at}
use Rattle.workspace_json.specs.Maps.{NamedMap}
use Rattle.workspace_json.specs.Workspaces.{Workspace, diagram_named, map_named, type_named}
use Rattle.workspace_lists.specs.declared.names.Meaning.{Meaning}
use Rattle.workspace_lists.specs.declared.names.Meaning.TheVariants as meaning
use Rattle.workspace_lists.specs.declared.names.Names.{Names}
use Rattle.workspace_lists.specs.Held.{IsMapOf}
use Rattle.workspace_lists.specs.Names.{meaning_in}

-- nothing, a generator by its type, a stored diagram, or a stored map by its ends and its arrow
pub data Stands : Type 0 where
  free : Stands
  generator : Tree → Stands
  diagram : Tree → Stands
  arrow_between : Tree → Tree → Tree → Stands

abbrev pub stands_by : Option Tree → Option Tree → Option NamedMap → Stands
stands_by (Some t) d m = generator t
stands_by None (Some t) m = diagram t
stands_by None None (Some m) = arrow_between m.source m.target m.arrow
stands_by None None None = free

-- what the name stands for
abbrev pub stands_for : Workspace → List ℕ → Stands
stands_for W name = stands_by (type_named 0 W.generators name) (diagram_named W.diagrams name) (map_named W.maps name)

-- what a meaning says over a store, whose ids are of the store
abbrev pub meaning_over : Contents → Meaning → Stands
meaning_over c meaning.Free = free
meaning_over c (meaning.Generator t) = generator (diagram_at c t)
meaning_over c (meaning.Diagram d) = diagram (diagram_at c d)
meaning_over c (meaning.Map m) = arrow_between (diagram_at c m.source) (diagram_at c m.target) (arrow_at c m.arrow)

abbrev pub IsMeaningOf : Contents → Meaning → Type 0
IsMeaningOf c meaning.Free = Unit {0}
IsMeaningOf c (meaning.Generator t) = IsDiagramOf c t
IsMeaningOf c (meaning.Diagram d) = IsDiagramOf c d
IsMeaningOf c (meaning.Map m) = IsMapOf c m

-- the table says of each name what it stands for
pub record Tell (c : Contents) (W : Workspace) (names : Names) : Type 0 where
  pub of_store : (name : List ℕ) → IsMeaningOf c (meaning_in names name)
  pub means : (name : List ℕ) → meaning_over c (meaning_in names name) ≡ stands_for W name
