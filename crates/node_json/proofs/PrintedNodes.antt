-- Nodes of the form are read back from what is printed for them.
use Rattle.std.proofs.Common.{◌≡◌, ℕ, List, [], ◌∷◌, ◌++◌, length, map, Ok, refl, sym, ap, ◌∙◌, subst, append_assoc}
use Rattle.serde_json.specs.View.{items_of}
use Rattle.diagram_terms.specs.declared.node.Node.{Node}
use Rattle.diagram_terms.specs.declared.node.Node.TheVariants as node
use Rattle.diagram_terms.specs.Nodes.{labels_within_limits, places_below, sort_of, sorts_of, IsNode, AreNodes}
use Rattle.diagram_terms.proofs.NodeGrowth.{AreNodes-front, IsNode-last}
use Rattle.node_json.specs.declared.fault.FormFault.{FormFault}
use Rattle.node_json.specs.declared.fault.FormFault.TheVariants as fault
use Rattle.node_json.specs.Step.{◌>>=◌, or_fault}
use Rattle.node_json.specs.Json.{items_list, numbers_in, whole_of}
use Rattle.node_json.specs.NodeForms.{form_of, limited, sort_behind, node_at, nodes_in}
use Rattle.node_json.specs.Printing.{whole, node_data}
use Rattle.node_json.proofs.PrintedLists.{tested, there, list_reads}

numbers_read : (e : FormFault) (ns : List ℕ) → numbers_in e (items_list (items_of (map whole ns))) ≡ Ok ns
numbers_read e ns = list_reads (λ xs. Unit {0}) (λ done d. or_fault e (whole_of d)) whole (λ done y rest h. refl) ns tt

form_read : (e : FormFault) (n : Node) → form_of e (node_data n) ≡ Ok n
form_read e (node.Label x) = refl
form_read e (node.Diagram rs ss fs bs) = rw (numbers_read e rs, numbers_read e ss, numbers_read e fs, numbers_read e bs) refl
form_read e (node.Labels x y) = refl
form_read e (node.Arrow hs rs ss) = rw (numbers_read e hs, numbers_read e rs, numbers_read e ss) refl

node_read : (done : List Node) (n : Node) → IsNode (sorts_of done) n → node_at done (node_data n) ≡ Ok n
unfolding node_at
node_read done n is =
    let place = length (sorts_of done) in
    ap (λ r. limited (length done) r >>= λ (m : Node). sort_behind (sorts_of done) m >>= λ s. Ok m) (form_read (fault.Shape (length done)) n)
    ∙ ap (λ r. r >>= λ (m : Node). sort_behind (sorts_of done) m >>= λ s. Ok m) (tested (labels_within_limits n) (fault.Label (length done)) (Ok n) is.labels)
    ∙ ap (λ r. r >>= λ s. Ok n) (tested (places_below place n) (fault.Early place) (or_fault (fault.Shape place) (sort_of (sorts_of done) n)) is.places)
    ∙ there (fault.Shape place) (sort_of (sorts_of done) n) (Ok n) is.fits

node_behind : (done : List Node) (n : Node) (rest : List Node) → AreNodes (done ++ n ∷ rest) → IsNode (sorts_of done) n
node_behind done n rest are = IsNode-last done n (AreNodes-front (done ++ n ∷ []) rest (subst AreNodes (sym (append_assoc done (n ∷ []) rest)) are))

pub nodes_read : (nodes : List Node) → AreNodes nodes → nodes_in (items_list (items_of (map node_data nodes))) ≡ Ok nodes
nodes_read nodes are = list_reads AreNodes node_at node_data (λ done n rest h. node_read done n (node_behind done n rest h)) nodes are
