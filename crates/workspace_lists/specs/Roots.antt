-- The ids of the roots of a workspace, and its entries by the places of these ids.
use Rattle.std.specs.Prelude.{ℕ, ◌+◌, List, [], ◌∷◌, ◌++◌, map, get_or, Bool, true, false, Option, Some, None}
use Rattle.std.specs.List.{flat_map}
use Rattle.diagram_terms.specs.declared.node.Node.{Node}
use Rattle.diagram_terms.specs.declared.node.Node.TheVariants as node
use Rattle.hashcons.specs.declared.id.AnyId.{AnyId}
use Rattle.hashcons.specs.declared.id.AnyId.TheVariants as id
use Rattle.node_json.specs.declared.document.DiagramEntry.{DiagramEntry}
use Rattle.node_json.specs.declared.document.GeneratorEntry.{GeneratorEntry}
use Rattle.node_json.specs.declared.document.MapEntry.{MapEntry}
use Rattle.workspace_lists.specs.declared.workspace.Generator.{Generator}
use Rattle.workspace_lists.specs.declared.workspace.Named.{Named}
use Rattle.workspace_lists.specs.declared.workspace.NamedMap.{NamedMap}
use Rattle.workspace_lists.specs.declared.workspace.Workspace.{Workspace}

-- the ids of a boundary: the source, and then the target
abbrev pub boundary_ids : Option (ℕ × ℕ) → List AnyId
boundary_ids None = []
boundary_ids (Some (s, t)) = id.Diagram s ∷ id.Diagram t ∷ []

-- the ids of a map: the source, the target and the arrow
abbrev pub map_ids : NamedMap → List AnyId
map_ids m = id.Diagram m.map.source ∷ id.Diagram m.map.target ∷ id.Arrow m.map.arrow ∷ []

-- those of the boundaries of some generators, those of some diagrams, and those of some maps
abbrev pub end_ids : List Generator → List AnyId
end_ids gs = flat_map (λ g. boundary_ids g.boundary) gs

abbrev pub diagram_ids : List Named → List AnyId
diagram_ids ds = map (λ d. id.Diagram d.root) ds

abbrev pub part_ids : List NamedMap → List AnyId
part_ids ms = flat_map map_ids ms

abbrev pub top_ids : Workspace → List AnyId
top_ids w = end_ids w.generators.items ++ diagram_ids w.diagrams.items

abbrev pub root_ids : Workspace → List AnyId
root_ids w = top_ids w ++ part_ids w.maps.items

-- those of a normal form, of the arrow from it and of some factors
abbrev pub normal_ids : ℕ → ℕ → List ℕ → List AnyId
normal_ids source arrow factors = id.Diagram source ∷ id.Arrow arrow ∷ map (λ a. id.Arrow a) factors

-- the entries, where each id has a place
abbrev pub ends_at : (AnyId → ℕ) → Option (ℕ × ℕ) → Option (ℕ × ℕ)
ends_at place None = None
ends_at place (Some (s, t)) = Some (place (id.Diagram s), place (id.Diagram t))

abbrev pub generator_at : (AnyId → ℕ) → Generator → GeneratorEntry
generator_at place g = record { name = g.name; boundary = ends_at place g.boundary }

abbrev pub named_at : (AnyId → ℕ) → Named → DiagramEntry
named_at place d = record { name = d.name; root = place (id.Diagram d.root) }

abbrev pub map_entry_at : (AnyId → ℕ) → NamedMap → MapEntry
map_entry_at place m = record {
  name = m.name;
  source = place (id.Diagram m.map.source);
  target = place (id.Diagram m.map.target);
  arrow = place (id.Arrow m.map.arrow);
}

-- the places of a boundary, which stand in a list from this one on
abbrev pub ends_from : List ℕ → ℕ → Option (ℕ × ℕ) → Option (ℕ × ℕ)
ends_from places at None = None
ends_from places at (Some ends) = Some (get_or places at 0, get_or places (at + 1) 0)

-- the entry of a map, whose places stand there from this one on
abbrev pub entry_from : List ℕ → ℕ → List ℕ → MapEntry
entry_from places at name = record {
  name = name;
  source = get_or places at 0;
  target = get_or places (at + 1) 0;
  arrow = get_or places (at + 2) 0;
}

-- a node of a diagram, and not of an arrow
abbrev pub is_diagram_node : Node → Bool
is_diagram_node (node.Label l) = true
is_diagram_node (node.Diagram a b c d) = true
is_diagram_node (node.Labels l m) = false
is_diagram_node (node.Arrow a b c) = false
