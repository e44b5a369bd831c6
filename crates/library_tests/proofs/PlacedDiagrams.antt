-- The diagram at a place of a list of nodes, and its first fault.
use Rattle.std.proofs.Common.{◌≡◌, ℕ, List, length, slice_get, Option, Some, refl, sym, ap, ◌∙◌, subst}
use Rattle.diagram_terms.specs.declared.node.Node.{Node}
use Rattle.diagram_terms.specs.declared.node.Sort.{Sort}
use Rattle.diagram_terms.specs.declared.node.Sort.TheVariants as sort
use Rattle.diagram_terms.specs.declared.place.Place.{Place}
use Rattle.diagram_terms.specs.FaultsOnTrees.{diagram_fault}
use Rattle.diagram_terms.specs.Tree.{Tree}
use Rattle.diagram_terms.specs.Decoded.{dia}
use Rattle.diagram_terms.specs.Places.{first_bad_place}
use Rattle.diagram_terms.specs.Dimension.{dimension_of}
use Rattle.diagram_terms.specs.Shape.{IsDiagram}
use Rattle.diagram_terms.specs.Nodes.{AreNodes, sort_at, tree_at}
use Rattle.diagram_terms.proofs.Dimensions.{diagram_dimension}
use Rattle.diagram_terms.proofs.NodeShapes.{IsOfSort, is_of_sort}
use Rattle.diagram_terms.proofs.Shapes.{one_kind}
use Rattle.hashcons.specs.declared.id.AnyId.{AnyId}
use Rattle.hashcons.specs.declared.id.AnyId.TheVariants as id
use Rattle.hashcons.specs.Contents.{Contents, IsStore, diagram_at}
use Rattle.hashcons.specs.Ids.{GathersIds}
use Rattle.store_fixtures.proofs.PlacedIds.{within, id_of_store, id_tree}
use Rattle.node_json.specs.Documents.{IsDiagramPlace}

-- what has the tree of a diagram is of the sort of one
diagram_sort : (s : Sort) (t : Tree) (d : ℕ) → IsOfSort s t → IsDiagram d t → (e : ℕ) × (s ≡ sort.Diagram e)
diagram_sort (sort.Diagram e) t d h k = (e, refl)
diagram_sort (sort.Arrow e) t d h k = absurd (one_kind d e t k h)

-- where the id of a diagram stands, a diagram stands
pub diagram_place : (c : Contents) → IsStore c → (nodes : List Node) → AreNodes nodes → (ids : List AnyId)
    → GathersIds c ids (length nodes) (tree_at nodes) → (place d : ℕ) → slice_get ids place ≡ Some (id.Diagram d)
    → IsDiagramPlace nodes place
diagram_place c store nodes form ids held place d found =
    let x = id.Diagram d in
    let l = within c ids (length nodes) (tree_at nodes) held place x found in
    let of_store = id_of_store c ids (length nodes) (tree_at nodes) held place x found in
    let tree = id_tree c ids (length nodes) (tree_at nodes) held place x found in
    let shape = subst (IsDiagram (dimension_of (diagram_at c d))) tree (store.diagrams d of_store) in
    let s = diagram_sort (sort_at nodes place) (tree_at nodes place) _ (is_of_sort nodes form place l) shape in
    record { within = l; dim = s.0; stands = s.1 }

-- the first bad place of a tree, whatever its dimension is called
pub fault_of_tree : (t u : Tree) (d : ℕ) → IsDiagram d u → t ≡ u → (found : Option Place)
    → ((n : ℕ) → IsDiagram n t → found ≡ first_bad_place n (dia n t)) → found ≡ diagram_fault u
fault_of_tree t u d shape e found is =
    let n : dimension_of u ≡ d = diagram_dimension d u shape in
    is d (subst (IsDiagram d) (sym e) shape)
    ∙ ap (λ v. first_bad_place d (dia d v)) e ∙ ap (λ m. first_bad_place m (dia m u)) (sym n)
