-- What callers use: what is printed of nodes and documents has no float, and the text of a value without a float is the
-- compact one.
use Rattle.std.proofs.Common.{◌≡◌, ℕ, List, false, Option, Some, None, refl, ap, ◌∙◌, Result, Ok, Err, IfOk, Vec, Global}
use Rattle.serde_json.specs.Data.{Data}
use Rattle.serde_json.specs.Written.{has_float, compact_text}
use Rattle.diagram_terms.specs.declared.node.Node.{Node}
use Rattle.diagram_terms.specs.declared.node.Node.TheVariants as node
use Rattle.node_json.specs.declared.document.Document.{Document}
use Rattle.node_json.specs.Printing.{whole, numbers_data, node_data, nodes_data, named_data, generator_data, diagram_data, map_data, document_data}
use Rattle.node_json.proofs.PrintedLists.{items_no_float}

pub numbers_no_float : (ns : List ℕ) → has_float (numbers_data ns) ≡ false
numbers_no_float ns = items_no_float whole (λ n. refl) ns

node_no_float : (n : Node) → has_float (node_data n) ≡ false
node_no_float (node.Label x) = refl
node_no_float (node.Diagram rs ss fs bs) = rw (numbers_no_float bs, numbers_no_float fs, numbers_no_float rs, numbers_no_float ss) refl
node_no_float (node.Labels x y) = refl
node_no_float (node.Arrow hs rs ss) = rw (numbers_no_float hs, numbers_no_float rs, numbers_no_float ss) refl

pub nodes_no_float : (nodes : List Node) → has_float (nodes_data nodes) ≡ false
nodes_no_float nodes = items_no_float node_data node_no_float nodes

named_no_float : (name : List ℕ) (boundary : Option (ℕ × ℕ)) → has_float (named_data name boundary) ≡ false
named_no_float name None = refl
named_no_float name (Some (i, j)) = refl

pub document_no_float : (document : Document) → has_float (document_data document) ≡ false
document_no_float document =
    let diagrams = items_no_float diagram_data (λ d. refl) document.diagrams in
    let generators = items_no_float generator_data (λ g. named_no_float g.name g.boundary) document.generators in
    let maps = items_no_float map_data (λ m. refl) document.maps in
    let nodes = nodes_no_float document.nodes in
    rw (diagrams, generators, maps, nodes) refl

-- what is written of a value that stands for one printed without a float
pub compact_text_of : {E : Type 0} (written : Result (Vec ℕ Global) E) (seen printed : Data)
    → IfOk written (λ text. has_float seen ≡ false → text.items ≡ compact_text seen) → seen ≡ printed → has_float printed ≡ false
    → IfOk written (λ text. text.items ≡ compact_text printed)
compact_text_of (Ok text) seen printed writes same none = writes (ap has_float same ∙ none) ∙ ap compact_text same
compact_text_of (Err e) seen printed writes same none = tt
