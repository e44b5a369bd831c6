-- Which document some bytes are, or which form fault they have: the first failure in the order decides.
use Rattle.std.specs.Prelude.{ℕ, List, [], ◌∷◌, ◌++◌, codes, Bool, false, ◌==◌, Option, Some, None, option_and_then, Result, Ok}
use Rattle.serde_json.specs.Data.{Data}
use Rattle.serde_json.specs.Find.{get}
use Rattle.diagram_terms.specs.declared.node.Node.{Node}
use Rattle.diagram_terms.specs.Nodes.{sorts_of}
use Rattle.node_json.specs.declared.fault.Field.{Field}
use Rattle.node_json.specs.declared.fault.Field.TheVariants as field
use Rattle.node_json.specs.declared.fault.FormFault.{FormFault}
use Rattle.node_json.specs.declared.fault.FormFault.TheVariants as fault
use Rattle.node_json.specs.declared.document.Document.{Document}
use Rattle.node_json.specs.Step.{◌>>=◌, when, or_fault}
use Rattle.node_json.specs.Json.{json_of, has_keys, whole_of, list_at}
use Rattle.node_json.specs.Names.{is_among}
use Rattle.node_json.specs.NodeForms.{nodes_in}
use Rattle.node_json.specs.Entries.{generator_names, diagram_names, generators_in, diagrams_in, maps_in}

-- a fault of a field as a whole
abbrev pub field_fault : Field → FormFault
field_fault f = fault.Form f None

-- the keys of a document
abbrev pub document_keys : List (List ℕ)
document_keys = codes "diagrams" ∷ codes "format" ∷ codes "generators" ∷ codes "maps" ∷ codes "nodes" ∷ []

-- a number that is there and is 1
abbrev pub is_one : Option ℕ → Bool
is_one None = false
is_one (Some n) = n == 1

-- the document with these nodes: its generators, then its diagrams, then its maps
unfoldable pub entries_of : List Node → Data → Result Document FormFault
entries_of nodes d = do
  generators ← list_at (field_fault field.Generators) (codes "generators") d
      >>= generators_in (sorts_of nodes) (is_among [])
  diagrams ← list_at (field_fault field.Diagrams) (codes "diagrams") d
      >>= diagrams_in (sorts_of nodes) (is_among (generator_names generators))
  maps ← list_at (field_fault field.Maps) (codes "maps") d
      >>= maps_in (sorts_of nodes) (is_among (generator_names generators ++ diagram_names diagrams))
  Ok (record { generators = generators; diagrams = diagrams; maps = maps; nodes = nodes })

-- the document that a value is: its keys, then its format, then its nodes, then the entries
unfoldable pub document_of : Data → Result Document FormFault
document_of d = do
  keyed ← when (has_keys document_keys d) (field_fault field.Document)
  versioned ← when (is_one (option_and_then whole_of (get (codes "format") d))) (field_fault field.Format)
  nodes ← list_at (field_fault field.Nodes) (codes "nodes") d >>= nodes_in
  entries_of nodes d

-- the document that the bytes are, with the fault of each text that is none
abbrev pub exact_document : List ℕ → Result Document FormFault
exact_document bytes = or_fault fault.NotJson (json_of bytes) >>= document_of
