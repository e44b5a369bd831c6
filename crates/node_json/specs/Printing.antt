-- The printed form of a document: the compact text of a JSON value, whose keys stand in the order of their bytes.
use Rattle.std.specs.Prelude.{ℕ, ◌^◌, ◌<◌, List, map, codes, Option, Some, None}
use Rattle.std.specs.List.{All}
use Rattle.serde_json.specs.Data.{Data, number, string, array, object, unsigned, item, no_items, member, no_members}
use Rattle.serde_json.specs.View.{items_of}
use Rattle.serde_json.specs.Written.{compact_text}
use Rattle.diagram_terms.specs.declared.label.Label.{Label}
use Rattle.diagram_terms.specs.declared.node.Node.{Node}
use Rattle.diagram_terms.specs.declared.node.Node.TheVariants as node
use Rattle.node_json.specs.declared.document.GeneratorEntry.{GeneratorEntry}
use Rattle.node_json.specs.declared.document.DiagramEntry.{DiagramEntry}
use Rattle.node_json.specs.declared.document.MapEntry.{MapEntry}
use Rattle.node_json.specs.declared.document.Document.{Document}

-- a number
abbrev pub whole : ℕ → Data
whole n = number (unsigned n)

-- a list of values, and of numbers
abbrev pub list_data : List Data → Data
list_data ds = array (items_of ds)

abbrev pub numbers_data : List ℕ → Data
numbers_data ns = list_data (map whole ns)

-- `[number,dim]`
abbrev pub label_data : Label → Data
label_data x = array (item (whole x.number) (item (whole x.dim) no_items))

-- ---- the nodes

-- `{"label":[number,dim]}`, `{"bwds":[..],"fwds":[..],"regs":[..],"sings":[..]}`,
-- `{"labels":[[number,dim],[number,dim]]}` or `{"heights":[..],"regs":[..],"sings":[..]}`
abbrev pub node_data : Node → Data
node_data (node.Label x) = object (member (codes "label") (label_data x) no_members)
node_data (node.Diagram regs sings fwds bwds) =
    object (member (codes "bwds") (numbers_data bwds) (member (codes "fwds") (numbers_data fwds)
    (member (codes "regs") (numbers_data regs) (member (codes "sings") (numbers_data sings) no_members))))
node_data (node.Labels x y) =
    object (member (codes "labels") (array (item (label_data x) (item (label_data y) no_items))) no_members)
node_data (node.Arrow heights regs sings) =
    object (member (codes "heights") (numbers_data heights) (member (codes "regs") (numbers_data regs)
    (member (codes "sings") (numbers_data sings) no_members)))

-- the list of the nodes
abbrev pub nodes_data : List Node → Data
nodes_data nodes = list_data (map node_data nodes)

-- ---- the entries

-- `{"name":NAME}`, or `{"name":NAME,"source":i,"target":j}`
abbrev pub named_data : List ℕ → Option (ℕ × ℕ) → Data
named_data name None = object (member (codes "name") (string name) no_members)
named_data name (Some (i, j)) =
    object (member (codes "name") (string name) (member (codes "source") (whole i)
    (member (codes "target") (whole j) no_members)))

abbrev pub generator_data : GeneratorEntry → Data
generator_data g = named_data g.name g.boundary

-- `{"name":NAME,"root":i}`
abbrev pub diagram_data : DiagramEntry → Data
diagram_data e = object (member (codes "name") (string e.name) (member (codes "root") (whole e.root) no_members))

-- `{"arrow":k,"name":NAME,"source":i,"target":j}`
abbrev pub map_data : MapEntry → Data
map_data m =
    object (member (codes "arrow") (whole m.arrow) (member (codes "name") (string m.name)
    (member (codes "source") (whole m.source) (member (codes "target") (whole m.target) no_members))))

-- ---- the document

-- `{"diagrams":[..],"format":1,"generators":[..],"maps":[..],"nodes":[..]}`
abbrev pub document_data : Document → Data
document_data d =
    object (member (codes "diagrams") (list_data (map diagram_data d.diagrams)) (member (codes "format") (whole 1)
    (member (codes "generators") (list_data (map generator_data d.generators))
    (member (codes "maps") (list_data (map map_data d.maps))
    (member (codes "nodes") (nodes_data d.nodes) no_members)))))

-- the text of a document
abbrev pub text_of_document : Document → List ℕ
text_of_document d = compact_text (document_data d)

-- ---- the numbers that a text may have

-- a number of 64 bits
abbrev pub IsWord : ℕ → Type 0
IsWord n = n < 2 ^ 64

-- the places and heights of a node are such numbers
abbrev pub NodeHasWords : Node → Type 0
NodeHasWords (node.Label x) = Unit {0}
NodeHasWords (node.Diagram regs sings fwds bwds) = All IsWord regs × All IsWord sings × All IsWord fwds × All IsWord bwds
NodeHasWords (node.Labels x y) = Unit {0}
NodeHasWords (node.Arrow heights regs sings) = All IsWord heights × All IsWord regs × All IsWord sings

-- the places of a boundary, and of a map
abbrev pub BoundaryHasWords : Option (ℕ × ℕ) → Type 0
BoundaryHasWords None = Unit {0}
BoundaryHasWords (Some (i, j)) = IsWord i × IsWord j

pub record MapHasWords (m : MapEntry) : Type 0 where
  pub source : IsWord m.source
  pub target : IsWord m.target
  pub arrow : IsWord m.arrow

-- each place and height of a document is such a number, as in each document that a program holds
pub record HasWords (document : Document) : Type 0 where
  pub nodes : All NodeHasWords document.nodes
  pub generators : All (λ g. BoundaryHasWords g.boundary) document.generators
  pub diagrams : All (λ e. IsWord e.root) document.diagrams
  pub maps : All MapHasWords document.maps
