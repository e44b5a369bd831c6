-- The entries of a document behind its nodes, of which the sorts are known. An entry that has another form, names a
-- place out of range or of the wrong kind, or has a bad name or one that stands before is a fault.
use Rattle.std.specs.Prelude.{ℕ, List, [], ◌∷◌, length, map, codes, Bool, true, false, not, ◌&&◌, nat_lt, slice_get, if◌then◌else◌, Option, Some, None, Result, Ok}
use Rattle.serde_json.specs.Data.{Data}
use Rattle.diagram_terms.specs.declared.limits.TheConstants.{MAX_GENERATORS}
use Rattle.diagram_terms.specs.declared.node.Sort.{Sort}
use Rattle.diagram_terms.specs.declared.node.Sort.TheVariants as sort
use Rattle.node_json.specs.declared.fault.Field.{Field}
use Rattle.node_json.specs.declared.fault.Field.TheVariants as field
use Rattle.node_json.specs.declared.fault.FormFault.{FormFault}
use Rattle.node_json.specs.declared.fault.FormFault.TheVariants as fault
use Rattle.node_json.specs.declared.document.GeneratorEntry.{GeneratorEntry}
use Rattle.node_json.specs.declared.document.DiagramEntry.{DiagramEntry}
use Rattle.node_json.specs.declared.document.MapEntry.{MapEntry}
use Rattle.node_json.specs.Step.{◌>>=◌, when, each}
use Rattle.node_json.specs.Json.{has_keys, number_at, text_at}
use Rattle.node_json.specs.Names.{is_good_name, also}

-- what stands at a place is a diagram, or is an arrow
abbrev pub is_diagram : Option Sort → Bool
is_diagram None = false
is_diagram (Some (sort.Diagram d)) = true
is_diagram (Some (sort.Arrow d)) = false

abbrev pub is_arrow : Option Sort → Bool
is_arrow None = false
is_arrow (Some (sort.Diagram d)) = false
is_arrow (Some (sort.Arrow d)) = true

-- the place at a key, where a diagram stands
abbrev pub diagram_place : FormFault → List Sort → List ℕ → Data → Result ℕ FormFault
diagram_place e sorts key d = do
  i ← number_at e key d
  stands ← when (is_diagram (slice_get sorts i)) e
  Ok i

-- the place at a key, where an arrow stands
abbrev pub arrow_place : FormFault → List Sort → List ℕ → Data → Result ℕ FormFault
arrow_place e sorts key d = do
  i ← number_at e key d
  stands ← when (is_arrow (slice_get sorts i)) e
  Ok i

-- a good name that is not taken
abbrev pub name_in : FormFault → (List ℕ → Bool) → Data → Result (List ℕ) FormFault
name_in e taken d = do
  name ← text_at e (codes "name") d
  free ← when (is_good_name name && not (taken name)) e
  Ok name

-- ---- one entry

-- `{"name":NAME}`
abbrev pub point_entry : FormFault → (List ℕ → Bool) → Data → Result GeneratorEntry FormFault
point_entry e taken d = do
  name ← name_in e taken d
  Ok (record { name = name; boundary = None })

-- `{"name":NAME,"source":i,"target":j}`
abbrev pub cell_entry : FormFault → List Sort → (List ℕ → Bool) → Data → Result GeneratorEntry FormFault
cell_entry e sorts taken d = do
  keyed ← when (has_keys (codes "name" ∷ codes "source" ∷ codes "target" ∷ []) d) e
  name ← name_in e taken d
  source ← diagram_place e sorts (codes "source") d
  target ← diagram_place e sorts (codes "target") d
  Ok (record { name = name; boundary = Some (source, target) })

unfoldable pub generator_entry : FormFault → List Sort → (List ℕ → Bool) → Data → Result GeneratorEntry FormFault
generator_entry e sorts taken d =
    if has_keys (codes "name" ∷ []) d then point_entry e taken d else cell_entry e sorts taken d

-- `{"name":NAME,"root":i}`
unfoldable pub diagram_entry : FormFault → List Sort → (List ℕ → Bool) → Data → Result DiagramEntry FormFault
diagram_entry e sorts taken d = do
  keyed ← when (has_keys (codes "name" ∷ codes "root" ∷ []) d) e
  name ← name_in e taken d
  root ← diagram_place e sorts (codes "root") d
  Ok (record { name = name; root = root })

-- `{"arrow":k,"name":NAME,"source":i,"target":j}`
unfoldable pub map_entry : FormFault → List Sort → (List ℕ → Bool) → Data → Result MapEntry FormFault
map_entry e sorts taken d = do
  keyed ← when (has_keys (codes "arrow" ∷ codes "name" ∷ codes "source" ∷ codes "target" ∷ []) d) e
  name ← name_in e taken d
  source ← diagram_place e sorts (codes "source") d
  target ← diagram_place e sorts (codes "target") d
  arrow ← arrow_place e sorts (codes "arrow") d
  Ok (record { name = name; source = source; target = target; arrow = arrow })

-- ---- the entries in order, none of them with a name that is taken or has stood before

-- the names of entries
abbrev pub generator_names : List GeneratorEntry → List (List ℕ)
generator_names entries = map (λ e. e.name) entries

abbrev pub diagram_names : List DiagramEntry → List (List ℕ)
diagram_names entries = map (λ e. e.name) entries

abbrev pub map_names : List MapEntry → List (List ℕ)
map_names entries = map (λ e. e.name) entries

-- the fault of the entry behind so many
abbrev pub entry_fault : Field → ℕ → FormFault
entry_fault f n = fault.Form f (Some n)

-- a generator, behind fewer than there are numbers of labels
unfoldable pub generator_at : List Sort → (List ℕ → Bool) → List GeneratorEntry → Data → Result GeneratorEntry FormFault
generator_at sorts taken done d = do
  room ← when (nat_lt (length done) MAX_GENERATORS) (entry_fault field.Generators (length done))
  generator_entry (entry_fault field.Generators (length done)) sorts (also taken (generator_names done)) d

-- a diagram
unfoldable pub diagram_at : List Sort → (List ℕ → Bool) → List DiagramEntry → Data → Result DiagramEntry FormFault
diagram_at sorts taken done d =
    diagram_entry (entry_fault field.Diagrams (length done)) sorts (also taken (diagram_names done)) d

-- a map
unfoldable pub map_at : List Sort → (List ℕ → Bool) → List MapEntry → Data → Result MapEntry FormFault
map_at sorts taken done d =
    map_entry (entry_fault field.Maps (length done)) sorts (also taken (map_names done)) d

abbrev pub generators_in : List Sort → (List ℕ → Bool) → List Data → Result (List GeneratorEntry) FormFault
generators_in sorts taken ds = each (generator_at sorts taken) [] ds

abbrev pub diagrams_in : List Sort → (List ℕ → Bool) → List Data → Result (List DiagramEntry) FormFault
diagrams_in sorts taken ds = each (diagram_at sorts taken) [] ds

abbrev pub maps_in : List Sort → (List ℕ → Bool) → List Data → Result (List MapEntry) FormFault
maps_in sorts taken ds = each (map_at sorts taken) [] ds
