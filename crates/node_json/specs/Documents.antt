-- The form of a document.
use Rattle.std.specs.Prelude.{◌≡◌, ℕ, ◌<◌, ◌≤◌, List, ◌++◌, length, true, Option, Some, None, bytes_eq}
use Rattle.std.specs.List.{All, IsDistinct}
use Rattle.diagram_terms.specs.declared.limits.TheConstants.{MAX_GENERATORS}
use Rattle.diagram_terms.specs.declared.node.Node.{Node}
use Rattle.diagram_terms.specs.declared.node.Sort.TheVariants as sort
use Rattle.diagram_terms.specs.Nodes.{AreNodes, sort_at}
use Rattle.node_json.specs.declared.document.Document.{Document}
use Rattle.node_json.specs.declared.document.MapEntry.{MapEntry}
use Rattle.node_json.specs.Names.{is_good_name}
use Rattle.node_json.specs.Entries.{generator_names, diagram_names, map_names}

-- a diagram of some dimension stands at the place
pub record IsDiagramPlace (nodes : List Node) (i : ℕ) : Type 0 where
  pub within : i < length nodes
  pub dim : ℕ
  pub stands : sort_at nodes i ≡ sort.Diagram dim

-- an arrow of some dimension stands at the place
pub record IsArrowPlace (nodes : List Node) (i : ℕ) : Type 0 where
  pub within : i < length nodes
  pub dim : ℕ
  pub stands : sort_at nodes i ≡ sort.Arrow dim

-- a boundary is none, or two places of diagrams
abbrev pub IsBoundary : List Node → Option (ℕ × ℕ) → Type 0
IsBoundary nodes None = Unit {0}
IsBoundary nodes (Some (i, j)) = IsDiagramPlace nodes i × IsDiagramPlace nodes j

-- the ends of a map are diagrams, and it is an arrow
pub record IsMapEntry (nodes : List Node) (entry : MapEntry) : Type 0 where
  pub source : IsDiagramPlace nodes entry.source
  pub target : IsDiagramPlace nodes entry.target
  pub arrow : IsArrowPlace nodes entry.arrow

-- the names in the order of the lists
abbrev pub names_of : Document → List (List ℕ)
names_of document =
    generator_names document.generators ++ diagram_names document.diagrams ++ map_names document.maps

-- a name that a document may use
abbrev pub IsGoodName : List ℕ → Type 0
IsGoodName name = is_good_name name ≡ true

-- good names, no two of them the same
pub record AreNames (names : List (List ℕ)) : Type 0 where
  pub good : All IsGoodName names
  pub distinct : IsDistinct bytes_eq names

-- nodes that have the form, and entries that name places of the right kind under names of their own
pub record IsDocument (document : Document) : Type 0 where
  pub nodes : AreNodes document.nodes
  pub generators : All (λ g. IsBoundary document.nodes g.boundary) document.generators
  pub count : length document.generators ≤ MAX_GENERATORS
  pub diagrams : All (λ e. IsDiagramPlace document.nodes e.root) document.diagrams
  pub maps : All (IsMapEntry document.nodes) document.maps
  pub names : AreNames (names_of document)
