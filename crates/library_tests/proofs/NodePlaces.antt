-- Places of nodes: how far a list of them reaches, and what stands at the places that a node names.
use Rattle.std.proofs.Common.{◌≡◌, ℕ, zero, suc, ◌<◌, ◌≤◌, List, [], ◌∷◌, length, get_or, max, sym, ap, ◌∙◌, subst, arith}
use Rattle.std.proofs.lemmas.List.{get_or_default}
use Rattle.diagram_terms.specs.declared.label.Label.{Label}
use Rattle.diagram_terms.specs.declared.node.Node.{Node}
use Rattle.diagram_terms.specs.declared.node.Node.TheVariants as node
use Rattle.diagram_terms.specs.declared.node.Sort.{Sort}
use Rattle.diagram_terms.specs.declared.node.Sort.TheVariants as sort
use Rattle.diagram_terms.specs.Tree.{Tree, zig, zag}
use Rattle.diagram_terms.specs.Nodes.{picked, node_tree, tree_at, trees_of, sort_at, sorts_of, AreNodes}
use Rattle.diagram_terms.proofs.NodeForms.{AreChildren, NodeFits, tree_at-node}
use Rattle.diagram_terms.proofs.NodeShapes.{fits_at}
use Rattle.node_json.specs.Documents.{IsArrowPlace, IsDiagramPlace}

-- ---- lists of places

-- one above the greatest place
abbrev pub reach : List ℕ → ℕ
reach [] = 0
reach (p ∷ ps) = max (suc p) (reach ps)

pub reach-above : (ps : List ℕ) (j : ℕ) → j < length ps → get_or ps j 0 < reach ps
reach-above [] j l = absurd (omega arith)
reach-above (p ∷ ps) zero l = omega arith
reach-above (p ∷ ps) (suc j) l = omega (arith, reach-above ps j (omega arith))

pub reach-least : (ps : List ℕ) (n : ℕ) → ((j : ℕ) → j < length ps → get_or ps j 0 < n) → reach ps ≤ n
reach-least [] n h = omega arith
reach-least (p ∷ ps) n h =
    let a : p < n = h 0 (omega arith) in
    omega (arith, reach-least ps n (λ j l. h (suc j) (omega arith)))

-- ---- the children of a node

pub children-reach : (sorts : List Sort) (at : ℕ) (s : Sort) (places : List ℕ) → AreChildren sorts at s places → reach places ≤ at
children-reach sorts at s places ch = reach-least places at ch.below

module _ (nodes : List Node) (at : ℕ) (l : at < length nodes) (d : ℕ) (places : List ℕ) where
  pub children_are_diagrams : AreChildren (sorts_of nodes) at (sort.Diagram d) places → (k e : ℕ) → k < length places
      → IsDiagramPlace nodes (get_or places k e)
  children_are_diagrams ch k e m =
      let b = ch.below k m in
      subst (IsDiagramPlace nodes) (get_or_default places k 0 e m)
      (record { within = omega arith; dim = d; stands = ch.are k m })

  pub children_are_arrows : AreChildren (sorts_of nodes) at (sort.Arrow d) places → (k e : ℕ) → k < length places
      → IsArrowPlace nodes (get_or places k e)
  children_are_arrows ch k e m =
      let b = ch.below k m in
      subst (IsArrowPlace nodes) (get_or_default places k 0 e m)
      (record { within = omega arith; dim = d; stands = ch.are k m })

-- ---- the node at a place

module _ (nodes : List Node) (are : AreNodes nodes) (at : ℕ) (l : at < length nodes) (n : Node)
    (read : n ≡ get_or nodes at n) where
  fits_here : (x : Node) → n ≡ x → NodeFits (sorts_of nodes) at (sort_at nodes at) x
  fits_here x is = subst (NodeFits (sorts_of nodes) at (sort_at nodes at)) (sym read ∙ is) (fits_at nodes are at n l)

  tree_here : (x : Node) → n ≡ x → node_tree (trees_of nodes) x ≡ tree_at nodes at
  tree_here x is = sym (tree_at-node nodes are at n l ∙ ap (node_tree (trees_of nodes)) (sym read ∙ is))

  -- what the place of an arrow has no node of
  pub no_label_node : IsArrowPlace nodes at → (x : Label) → n ≡ node.Label x → ⊥
  no_label_node place x is =
      let e : sort.Arrow place.dim ≡ sort.Diagram 0 = sym place.stands ∙ (fits_here (node.Label x) is).0 in cc

  pub no_diagram_node : IsArrowPlace nodes at → (rs ss fs bs : List ℕ) → n ≡ node.Diagram rs ss fs bs → ⊥
  no_diagram_node place rs ss fs bs is =
      let f = fits_here (node.Diagram rs ss fs bs) is in
      let e : sort.Arrow place.dim ≡ sort.Diagram (suc f.0) = sym place.stands ∙ f.1 in cc

  -- and that of a diagram
  pub no_labels_node : IsDiagramPlace nodes at → (x y : Label) → n ≡ node.Labels x y → ⊥
  no_labels_node place x y is =
      let e : sort.Diagram place.dim ≡ sort.Arrow 0 = sym place.stands ∙ (fits_here (node.Labels x y) is).0 in cc

  pub no_arrow_node : IsDiagramPlace nodes at → (hs rs ss : List ℕ) → n ≡ node.Arrow hs rs ss → ⊥
  no_arrow_node place hs rs ss is =
      let f = fits_here (node.Arrow hs rs ss) is in
      let e : sort.Diagram place.dim ≡ sort.Arrow (suc f.0) = sym place.stands ∙ f.1 in cc

  -- a node over the trees of its children has the tree of the place
  pub zag_here : (hs rs ss hs2 : List ℕ) (rs2 ss2 : List Tree) → n ≡ node.Arrow hs rs ss → hs2 ≡ hs
      → rs2 ≡ picked (trees_of nodes) rs → ss2 ≡ picked (trees_of nodes) ss → zag hs2 rs2 ss2 ≡ tree_at nodes at
  zag_here hs rs ss hs2 rs2 ss2 is a b c = (λ i. zag (a i) (b i) (c i)) ∙ tree_here (node.Arrow hs rs ss) is

  pub zig_here : (rs ss fs bs : List ℕ) (rs2 ss2 fs2 bs2 : List Tree) → n ≡ node.Diagram rs ss fs bs
      → rs2 ≡ picked (trees_of nodes) rs → ss2 ≡ picked (trees_of nodes) ss → fs2 ≡ picked (trees_of nodes) fs
      → bs2 ≡ picked (trees_of nodes) bs → zig rs2 ss2 fs2 bs2 ≡ tree_at nodes at
  zig_here rs ss fs bs rs2 ss2 fs2 bs2 is a b c d =
      (λ i. zig (a i) (b i) (c i) (d i)) ∙ tree_here (node.Diagram rs ss fs bs) is
