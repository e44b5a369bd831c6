-- What is printed for a document of the form is a value that its text gives back.
use Rattle.std.proofs.Common.{◌≡◌, ℕ, ◌^◌, ◌<◌, ◌≤◌, List, [], ◌∷◌, ◌++◌, length, map, true, not, ◌&&◌, ◌==◌, nat_lt, nat_le, Option, Some, None, refl, arith}
use Rattle.std.proofs.lemmas.Bool.{and_parts, and_from, leb-true, lt-ltb, ltb-true}
use Rattle.std.proofs.lemmas.List.Elements.{recursion_from_All}
use Rattle.std.specs.List.{All, AllByRecursion, list_all}
use Rattle.json.proofs.Printed.Utf8.{are_ascii}
use Rattle.serde_json.specs.Data.{Data, depth}
use Rattle.serde_json.specs.Read.{max_depth}
use Rattle.diagram_terms.specs.declared.label.Label.{Label}
use Rattle.diagram_terms.specs.declared.limits.TheConstants.{GREATEST_DIM, MAX_NAME_LENGTH, NUMBER_LIMIT}
use Rattle.diagram_terms.specs.declared.node.Node.{Node}
use Rattle.diagram_terms.specs.declared.node.Node.TheVariants as node
use Rattle.diagram_terms.specs.declared.node.Sort.{Sort}
use Rattle.diagram_terms.specs.Nodes.{is_within_limits, labels_within_limits, node_sort, AreNodesFrom}
use Rattle.node_json.specs.declared.document.DiagramEntry.{DiagramEntry}
use Rattle.node_json.specs.declared.document.MapEntry.{MapEntry}
use Rattle.node_json.specs.declared.document.Document.{Document}
use Rattle.node_json.specs.Names.{is_name_byte}
use Rattle.node_json.specs.Entries.{generator_names, diagram_names, map_names}
use Rattle.node_json.specs.Documents.{IsDocument, IsGoodName, names_of}
use Rattle.node_json.specs.Printing.{whole, numbers_data, label_data, node_data, named_data, generator_data, diagram_data, map_data, document_data, IsWord, NodeHasWords, BoundaryHasWords, MapHasWords, HasWords}
use Rattle.node_json.proofs.ReadBack.{CanReturn}
use Rattle.node_json.proofs.PrintedLists.{all_front, all_back, items_can_return, items_shallow}

-- ---- names are ASCII

name_byte_small : (b : ℕ) → is_name_byte b ≡ true → nat_lt b 128 ≡ true
name_byte_small b is =
    let p = and_parts (nat_le 0x21 b && nat_le b 0x7E && not (b == 34) && not (b == 92)) (not (b == 58)) is in
    let q = and_parts (nat_le 0x21 b && nat_le b 0x7E && not (b == 34)) (not (b == 92)) p.0 in
    let r = and_parts (nat_le 0x21 b && nat_le b 0x7E) (not (b == 34)) q.0 in
    let s = and_parts (nat_le 0x21 b) (nat_le b 0x7E) r.0 in
    let small : b < 128 = omega (arith, leb-true b 0x7E s.1) in
    lt-ltb b 128 small

name_bytes_are_ascii : (s : List ℕ) → list_all is_name_byte s ≡ true → are_ascii s ≡ true
name_bytes_are_ascii [] is = refl
name_bytes_are_ascii (b ∷ s) is =
    let p = and_parts (is_name_byte b) (list_all is_name_byte s) is in
    and_from (nat_lt b 128) (are_ascii s) (name_byte_small b p.0) (name_bytes_are_ascii s p.1)

good_is_ascii : (name : List ℕ) → IsGoodName name → are_ascii name ≡ true
good_is_ascii name good = name_bytes_are_ascii name (and_parts (nat_le 1 (length name) && nat_le (length name) MAX_NAME_LENGTH) (list_all is_name_byte name) good).1

-- ---- numbers and labels

numbers_can_return : (ns : List ℕ) → All IsWord ns → CanReturn (numbers_data ns)
numbers_can_return ns words = items_can_return whole ns (recursion_from_All IsWord ns words)

label_can_return : (x : Label) → is_within_limits x ≡ true → CanReturn (label_data x)
label_can_return x within =
    let p = and_parts (nat_lt x.number NUMBER_LIMIT) (nat_le x.dim GREATEST_DIM) within in
    let number : x.number < 2 ^ 64 = omega (arith, ltb-true x.number NUMBER_LIMIT p.0) in
    let dim : x.dim < 2 ^ 64 = omega (arith, leb-true x.dim GREATEST_DIM p.1) in
    (number, (dim, tt))

-- ---- nodes

node_can_return : (n : Node) → labels_within_limits n ≡ true → NodeHasWords n → CanReturn (node_data n)
node_can_return (node.Label x) within words = (refl, (refl, label_can_return x within, tt))
node_can_return (node.Diagram rs ss fs bs) within words =
    (refl, (refl, numbers_can_return bs words.3, (refl, numbers_can_return fs words.2, (refl, numbers_can_return rs words.0, (refl, numbers_can_return ss words.1, tt)))))
node_can_return (node.Labels x y) within words =
    let p = and_parts (is_within_limits x) (is_within_limits y) within in
    (refl, (refl, (label_can_return x p.0, (label_can_return y p.1, tt)), tt))
node_can_return (node.Arrow hs rs ss) within words =
    (refl, (refl, numbers_can_return hs words.0, (refl, numbers_can_return rs words.1, (refl, numbers_can_return ss words.2, tt))))

nodes_can_return : (sorts : List Sort) (nodes : List Node) → AreNodesFrom sorts nodes → AllByRecursion NodeHasWords nodes → AllByRecursion (λ n. CanReturn (node_data n)) nodes
nodes_can_return sorts [] are words = tt
nodes_can_return sorts (n ∷ ns) are words = (node_can_return n are.0.labels words.0, nodes_can_return (sorts ++ node_sort sorts n ∷ []) ns are.1 words.1)

numbers_shallow : (ns : List ℕ) → depth (numbers_data ns) ≤ 1
numbers_shallow ns = omega (arith, items_shallow whole 0 (λ n. omega arith) ns)

node_shallow : (n : Node) → depth (node_data n) ≤ 3
node_shallow (node.Label x) = omega arith
node_shallow (node.Diagram rs ss fs bs) = omega (arith, numbers_shallow rs, numbers_shallow ss, numbers_shallow fs, numbers_shallow bs)
node_shallow (node.Labels x y) = omega arith
node_shallow (node.Arrow hs rs ss) = omega (arith, numbers_shallow hs, numbers_shallow rs, numbers_shallow ss)

-- ---- entries

named_can_return : (name : List ℕ) (boundary : Option (ℕ × ℕ)) → IsGoodName name → BoundaryHasWords boundary → CanReturn (named_data name boundary)
named_can_return name None good words = (refl, (refl, good_is_ascii name good, tt))
named_can_return name (Some (i, j)) good words = (refl, (refl, good_is_ascii name good, (refl, words.0, (refl, words.1, tt))))

diagram_can_return : (d : DiagramEntry) → IsGoodName d.name → IsWord d.root → CanReturn (diagram_data d)
diagram_can_return d good word = (refl, (refl, good_is_ascii d.name good, (refl, word, tt)))

map_can_return : (m : MapEntry) → IsGoodName m.name → MapHasWords m → CanReturn (map_data m)
map_can_return m good words = (refl, (refl, words.arrow, (refl, good_is_ascii m.name good, (refl, words.source, (refl, words.target, tt)))))

-- entries with good names
entries_can_return : {E : Type 0} (name : E → List ℕ) (fits : E → Type 0) (printed : E → Data)
    → ((e : E) → IsGoodName (name e) → fits e → CanReturn (printed e))
    → (es : List E) → AllByRecursion IsGoodName (map name es) → AllByRecursion fits es → AllByRecursion (λ e. CanReturn (printed e)) es
entries_can_return name fits printed can [] good fit = tt
entries_can_return name fits printed can (e ∷ es) good fit = (can e good.0 fit.0, entries_can_return name fits printed can es good.1 fit.1)

named_shallow : (name : List ℕ) (boundary : Option (ℕ × ℕ)) → depth (named_data name boundary) ≤ 1
named_shallow name None = omega arith
named_shallow name (Some (i, j)) = omega arith

-- ---- the document

pub document_can_return : (document : Document) → IsDocument document → HasWords document → CanReturn (document_data document)
document_can_return document is words =
    let gs = generator_names document.generators in
    let ds = diagram_names document.diagrams in
    let ms = map_names document.maps in
    let names = recursion_from_All IsGoodName (names_of document) is.names.good in
    let front = all_front IsGoodName (gs ++ ds) ms names in
    let generators = entries_can_return (λ g. g.name) (λ g. BoundaryHasWords g.boundary) generator_data (λ g good fit. named_can_return g.name g.boundary good fit)
    document.generators (all_front IsGoodName gs ds front) (recursion_from_All (λ g. BoundaryHasWords g.boundary) document.generators words.generators) in
    let diagrams = entries_can_return (λ d. d.name) (λ d. IsWord d.root) diagram_data diagram_can_return
    document.diagrams (all_back IsGoodName gs ds front) (recursion_from_All (λ d. IsWord d.root) document.diagrams words.diagrams) in
    let maps = entries_can_return (λ m. m.name) MapHasWords map_data map_can_return
    document.maps (all_back IsGoodName (gs ++ ds) ms names) (recursion_from_All MapHasWords document.maps words.maps) in
    let nodes = nodes_can_return [] document.nodes is.nodes (recursion_from_All NodeHasWords document.nodes words.nodes) in
    let one : IsWord 1 = omega arith in (
      refl,
      (
        refl,
        items_can_return diagram_data document.diagrams diagrams,
        (
          refl,
          one,
          (
            refl,
            items_can_return generator_data document.generators generators,
            (refl, items_can_return map_data document.maps maps, (refl, items_can_return node_data document.nodes nodes, tt)),
          ),
        ),
      ),
    )

pub document_shallow : (document : Document) → depth (document_data document) ≤ max_depth
document_shallow document = omega (
  arith,
  items_shallow diagram_data 1 (λ d. omega arith) document.diagrams,
  items_shallow generator_data 1 (λ g. named_shallow g.name g.boundary) document.generators,
  items_shallow map_data 1 (λ m. omega arith) document.maps,
  items_shallow node_data 3 node_shallow document.nodes,
)
