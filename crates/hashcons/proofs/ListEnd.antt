-- The nodes of a listing one after the other, and the printed form of its roots.
use Rattle.std.proofs.Common.{◌≡◌, ℕ, ◌+◌, ◌<◌, ◌≤◌, List, [], ◌∷◌, ◌++◌, length, map, take, get_or, sym, ap, subst, ◌∙◌, arith}
use Rattle.std.specs.List.{flat_map}
use Rattle.std.proofs.lemmas.Grind.{flat_map-append}
use Rattle.std.proofs.lemmas.List.{get_or-map, length-map, map-append, take_more, take_all, get_or_read, append-nil}
use Rattle.diagram_terms.specs.declared.node.Node.{Node}
use Rattle.diagram_terms.specs.Tree.{nil}
use Rattle.diagram_terms.specs.Dual.{AreBelow}
use Rattle.diagram_terms.specs.Completion.{completions, distinct_subtrees, places_in, node_of, subtree_nodes, root_places}
use Rattle.diagram_terms.specs.Nodes.{trees_of, tree_at}
use Rattle.diagram_terms.proofs.Completions.{AllIn, after-none, in-all_numbered}
use Rattle.diagram_terms.proofs.Printing.{roots_in, nodes_below, trees_of-nodes, trees_at_places, places_within}
use Rattle.hashcons.specs.declared.id.AnyId.{AnyId}
use Rattle.hashcons.specs.declared.id.AnyId.TheVariants as id
use Rattle.hashcons.specs.Contents.{Contents, IsStore}
use Rattle.hashcons.specs.Ids.{tree_of, id_at}
use Rattle.hashcons.specs.Listing.{AreOf, listed, NameEarlier, IsListing, Visits, AllStandIn, ArePlacesOf}
use Rattle.hashcons.proofs.ListingGrows.{visits-append}
use Rattle.hashcons.proofs.ListedNodes.{listing_printable, places_of_trees, all_stand}

-- ---- the roots are visited in turn

pub listing-none : (c : Contents) → IsListing c []
listing-none c = record { of_store = record { of_store = λ i l. absurd (omega arith) }; after = after-none }

pub roots-more : (c : Contents) (old mid new roots : List AnyId) (i : ℕ) (x : AnyId) → i < length roots
    → x ≡ get_or roots i x
    → Visits c old mid (flat_map completions (map (tree_of c) (take i roots))) → Visits c mid new (completions (tree_of c x))
    → Visits c old new (flat_map completions (map (tree_of c) (take (i + 1) roots)))
roots-more c old mid new roots i x l read h k =
    let y = get_or roots i (id.Diagram 0) in
    let before = map (tree_of c) (take i roots) in
    let r : completions (tree_of c x) ≡ completions (tree_of c y) = ap (λ z. completions (tree_of c z))
    (get_or_read roots i x l read (id.Diagram 0)) in
    let e : flat_map completions (map (tree_of c) (take (i + 1) roots)) ≡ flat_map completions before ++ completions
    (tree_of c y) =
    ap (λ xs. flat_map completions (map (tree_of c) xs)) (take_more roots i (id.Diagram 0) l)
    ∙ ap (flat_map completions) (map-append (tree_of c) (take i roots) (y ∷ []))
    ∙ flat_map-append completions before (tree_of c y ∷ []) ∙ ap (λ ts. flat_map completions before ++ ts)
    (append-nil (completions (tree_of c y)))
    in
    subst (Visits c old new) (sym e) (visits-append c old mid new (flat_map completions before) _ h
    (subst (Visits c mid new) r k))

-- ---- the nodes

-- the node at one place more
pub nodes-more : (c : Contents) (ids : List AnyId) (nodes : List Node) (at : ℕ) (n : Node)
    → nodes ≡ map (node_of (listed c ids)) (take at (listed c ids)) → at < length ids
    → n ≡ node_of (listed c ids) (tree_of c (id_at ids at))
    → nodes ++ n ∷ [] ≡ map (node_of (listed c ids)) (take (at + 1) (listed c ids))
nodes-more c ids nodes at n h l e =
    let ts = listed c ids in
    let m = length-map ids (tree_of c) in
    let k : at < length ts = omega arith in
    let this = e ∙ ap (node_of ts) (sym (get_or-map (tree_of c) ids at (id.Diagram 0) nil l)) in
    (λ i. h i ++ this i ∷ []) ∙ sym (map-append (node_of ts) (take at ts) (get_or ts at nil ∷ []))
    ∙ ap (map (node_of ts)) (sym (take_more ts at nil k))

pub nodes-all : (c : Contents) (ids : List AnyId) (nodes : List Node) (n : ℕ)
    → nodes ≡ map (node_of (listed c ids)) (take n (listed c ids)) → length ids ≤ n
    → nodes ≡ map (node_of (listed c ids)) (listed c ids)
nodes-all c ids nodes n h l =
    let m = length-map ids (tree_of c) in
    h ∙ ap (map (node_of (listed c ids))) (take_all n (listed c ids) (omega arith))

-- ---- the printed form of the roots

module _ (c : Contents) (store : IsStore c) (ids roots : List AnyId) (listing : IsListing c ids) (of_store : AreOf c roots)
    (trees : listed c ids ≡ distinct_subtrees (map (tree_of c) roots)) where
  roots_listed : AllIn (listed c ids) (map (tree_of c) roots)
  roots_listed =
      let ts = flat_map completions (map (tree_of c) roots) in
      roots_in (listed c ids) (map (tree_of c) roots) (subst (λ us. AllIn us ts) (sym trees) (in-all_numbered [] ts))

  pub roots_stand : AllStandIn ids roots
  roots_stand = all_stand c store ids listing roots of_store roots_listed

  module _ (nodes : List Node) (made : nodes ≡ map (node_of (listed c ids)) (listed c ids)) where
    pub list_nodes : nodes ≡ subtree_nodes (map (tree_of c) roots)
    list_nodes = made ∙ (λ i. map (node_of (trees i)) (trees i))

    pub list_trees : trees_of nodes ≡ distinct_subtrees (map (tree_of c) roots)
    list_trees = ap trees_of made ∙ trees_of-nodes (listed c ids) (listing_printable c store ids listing) ∙ trees

    pub list_earlier : NameEarlier nodes
    list_earlier =
        let below : NameEarlier (map (node_of (listed c ids)) (listed c ids)) = record {
          earlier = nodes_below (listed c ids) (listing_printable c store ids listing);
        } in
        subst NameEarlier (sym made) below

    module _ (places : List ℕ) (h : ArePlacesOf ids roots (length roots) places) where
      placed : places ≡ places_in (listed c ids) (map (tree_of c) roots)
      placed = places_of_trees c store ids listing roots places of_store h

      pub list_places : places ≡ root_places (map (tree_of c) roots)
      list_places = placed ∙ ap (λ ts. places_in ts (map (tree_of c) roots)) trees

      pub list_roots : map (tree_at nodes) places ≡ map (tree_of c) roots
      list_roots =
          (λ i. map (tree_at (made i)) (placed i))
          ∙ trees_at_places (listed c ids) (listing_printable c store ids listing) (map (tree_of c) roots) roots_listed

      pub list_within : AreBelow places (length nodes)
      list_within =
          let w = places_within (listed c ids) (listing_printable c store ids listing) (map (tree_of c) roots) roots_listed in
          subst (λ ns. AreBelow places (length ns)) (sym made)
          (subst (λ ps. AreBelow ps (length (map (node_of (listed c ids)) (listed c ids)))) (sym placed) w)
