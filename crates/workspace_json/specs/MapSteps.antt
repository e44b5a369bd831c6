-- The commands that add maps: the first refusal in the order of its tests, or else its reply and the workspace after it.
use Rattle.std.specs.Prelude.{ℕ, List, Result, Ok}
use Rattle.diagram_terms.specs.declared.node.Node.{Node}
use Rattle.diagram_terms.specs.Completion.{same_tree}
use Rattle.diagram_terms.specs.Nodes.{tree_at}
use Rattle.workspace_json.specs.declared.refusal.Refusal.{Refusal}
use Rattle.workspace_json.specs.declared.refusal.Refusal.TheVariants as refusal
use Rattle.workspace_json.specs.declared.reply.Reply.TheVariants as reply
use Rattle.workspace_json.specs.declared.reply.Word.{Word}
use Rattle.workspace_json.specs.declared.reply.Word.TheVariants as word
use Rattle.workspace_json.specs.Maps.{NamedMap, composite_map, map_fault}
use Rattle.workspace_json.specs.Steps.{◌>>=◌, Changed, new_name, no_fault, or_refuse, refuse_unless}
use Rattle.workspace_json.specs.Workspaces.{Workspace, map_named, with_map}

-- the map is added last
abbrev pub added : Workspace → Word → NamedMap → Changed
added W w m = record { reply = reply.Named m.name w; workspace = with_map W m }

-- the map whose ends and arrow stand at these places
abbrev pub map_at : List ℕ → List Node → ℕ → ℕ → ℕ → NamedMap
map_at name nodes source target arrow =
    record { name = name; source = tree_at nodes source; target = tree_at nodes target; arrow = tree_at nodes arrow }

-- `bring`: the map that stands at three places is added, if it is valid
unfoldable pub bring_change : Workspace → List ℕ → List Node → ℕ → ℕ → ℕ → Result Changed Refusal
bring_change W name nodes source target arrow = do
  new ← new_name W name
  valid ← no_fault (map_fault (map_at name nodes source target arrow))
  Ok (added W word.Bring (map_at name nodes source target arrow))

-- the map that a name names
abbrev pub known_map : Workspace → List ℕ → Result NamedMap Refusal
known_map W name = or_refuse (refusal.Unknown name) (map_named W.maps name)

-- `compose`: the composite of two maps, the first and then the other, is added
unfoldable pub compose_change : Workspace → List ℕ → List ℕ → List ℕ → Result Changed Refusal
compose_change W name first second = do
  new ← new_name W name
  f ← known_map W first
  g ← known_map W second
  meet ← refuse_unless (same_tree f.target g.source) refusal.EndsDiffer
  Ok (added W word.Compose (composite_map name g f))
