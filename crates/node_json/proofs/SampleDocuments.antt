-- The reading of small documents, by computation.
use Rattle.std.proofs.Common.{◌≡◌, ℕ, List, [], ◌∷◌, codes, Some, None, Ok, Err, refl}
use Rattle.std.specs.Str.{is_utf8, chars}
use Rattle.serde_json.proofs.OnLiterals.{serde_json_on_literals}
use Rattle.diagram_terms.specs.declared.label.Label.{Label}
use Rattle.diagram_terms.specs.declared.node.Node.TheVariants as node
use Rattle.node_json.specs.declared.document.Document.{Document}
use Rattle.node_json.specs.declared.fault.FormFault.TheVariants as fault
use Rattle.node_json.specs.NodeForms.{node_at}
use Rattle.node_json.specs.Entries.{generator_entry, diagram_entry, map_entry, generator_at, diagram_at, map_at}
use Rattle.node_json.specs.Reading.{entries_of, document_of, exact_document, exact_document}

abbrev cell : ℕ → ℕ → Label
cell n d = record { number = n; dim = d }

-- x -> f <- x
abbrev loop_text : List ℕ
loop_text = codes "{\"diagrams\":[{\"name\":\"F\",\"root\":3}],\"format\":1,\"generators\":[],\"maps\":[],\"nodes\":[{\"label\":[0,0]},{\"label\":[1,1]},{\"labels\":[[0,0],[1,1]]},{\"bwds\":[2],\"fwds\":[2],\"regs\":[0,0],\"sings\":[1]}]}"

abbrev loop : Document
loop = record {
  generators = [];
  diagrams = record { name = codes "F"; root = 3 } ∷ [];
  maps = [];
  nodes = node.Label (cell 0 0) ∷ node.Label (cell 1 1) ∷ node.Labels (cell 0 0) (cell 1 1) ∷ node.Diagram (0 ∷ 0 ∷ []) (1 ∷ []) (2 ∷ []) (2 ∷ []) ∷ [];
}

reads_loop : exact_document loop_text ≡ Ok loop
unfolding is_utf8 chars serde_json_on_literals node_at generator_entry diagram_entry map_entry generator_at diagram_at map_at entries_of document_of
reads_loop = refl

-- the type of a generator is a map's arrow
abbrev map_text : List ℕ
map_text = codes "{\"diagrams\":[],\"format\":1,\"generators\":[{\"name\":\"x\"},{\"name\":\"f\",\"source\":0,\"target\":0}],\"maps\":[{\"arrow\":1,\"name\":\"L\",\"source\":0,\"target\":0}],\"nodes\":[{\"label\":[0,0]},{\"labels\":[[0,0],[0,0]]}]}"

reads_map : exact_document map_text ≡ Ok (record {
  generators = record { name = codes "x"; boundary = None } ∷ record { name = codes "f"; boundary = Some (0, 0) } ∷ [];
  diagrams = [];
  maps = record { name = codes "L"; source = 0; target = 0; arrow = 1 } ∷ [];
  nodes = node.Label (cell 0 0) ∷ node.Labels (cell 0 0) (cell 0 0) ∷ [];
})
unfolding is_utf8 chars serde_json_on_literals node_at generator_entry diagram_entry map_entry generator_at diagram_at map_at entries_of document_of
reads_map = refl

is_no_json : exact_document (codes "{\"diagrams\":[{\"name\":\"F\",\"root\"") ≡ Err fault.NotJson
unfolding is_utf8 chars serde_json_on_literals
is_no_json = refl
