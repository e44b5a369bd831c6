-- The tree at each place of a list of nodes has the shape that its sort says, and its parts are the trees at its places.
use Rattle.std.proofs.Common.{◌≡◌, ℕ, zero, suc, ◌<◌, ◌≤◌, List, length, get_or, sym, ap, ◌∙◌, arith, subst}
use Rattle.std.proofs.lemmas.List.{get_or-map, length-map}
use Rattle.diagram_terms.specs.declared.limits.TheConstants.{GREATEST_DIM}
use Rattle.diagram_terms.specs.declared.node.Node.{Node}
use Rattle.diagram_terms.specs.declared.node.Node.TheVariants as node
use Rattle.diagram_terms.specs.declared.node.Sort.{Sort}
use Rattle.diagram_terms.specs.declared.node.Sort.TheVariants as sort
use Rattle.diagram_terms.specs.Tree.{Tree, nil, point, ends, regs, sings, fwds, bwds, heights, regs-zig, sings-zig, fwds-zig, bwds-zig, heights-zag, regs-zag, sings-zag}
use Rattle.diagram_terms.specs.Family.{no_label}
use Rattle.diagram_terms.specs.Shape.{IsDiagram, IsArrow, reg_at, sing_at, fwd_at, bwd_at}
use Rattle.diagram_terms.specs.Nodes.{picked, node_tree, trees_of, tree_at, sorts_of, sort_at, AreNodes}
use Rattle.diagram_terms.proofs.NodeForms.{form_at, tree_at-node, node_fits, NodeFits, AreChildren, IsDiagramNode, IsArrowNode}
use Rattle.diagram_terms.proofs.NodeTests.{dim_of}
use Rattle.diagram_terms.proofs.Shapes.{IsDiagram-point, IsArrow-ends, IsDiagram-zig, IsArrow-zag}

-- ---- parts by places

pub length-picked : (ts : List Tree) (places : List ℕ) → length (picked ts places) ≡ length places
length-picked ts places = length-map places (λ i. get_or ts i nil)

pub get-picked : (ts : List Tree) (places : List ℕ) (j : ℕ) → j < length places
    → get_or (picked ts places) j nil ≡ get_or ts (get_or places j 0) nil
get-picked ts places j l = get_or-map (λ i. get_or ts i nil) places j 0 nil l

-- where a tree is that of a diagram node
module _ (ts : List Tree) (rs ss fs bs : List ℕ) (t : Tree) (is : t ≡ node_tree ts (node.Diagram rs ss fs bs)) where
  pub node-regs : regs t ≡ picked ts rs
  node-regs = ap regs is ∙ regs-zig _ _ _ _

  pub node-sings : sings t ≡ picked ts ss
  node-sings = ap sings is ∙ sings-zig _ _ _ _

  pub node-fwds : fwds t ≡ picked ts fs
  node-fwds = ap fwds is ∙ fwds-zig _ _ _ _

  pub node-bwds : bwds t ≡ picked ts bs
  node-bwds = ap bwds is ∙ bwds-zig _ _ _ _

  pub node-reg : (j : ℕ) → j < length rs → reg_at t j ≡ get_or ts (get_or rs j 0) nil
  node-reg j l = ap (λ (us : List Tree). get_or us j nil) node-regs ∙ get-picked ts rs j l

  pub node-sing : (i : ℕ) → i < length ss → sing_at t i ≡ get_or ts (get_or ss i 0) nil
  node-sing i l = ap (λ (us : List Tree). get_or us i nil) node-sings ∙ get-picked ts ss i l

  pub node-fwd : (k : ℕ) → k < length fs → fwd_at t k ≡ get_or ts (get_or fs k 0) nil
  node-fwd k l = ap (λ (us : List Tree). get_or us k nil) node-fwds ∙ get-picked ts fs k l

  pub node-bwd : (k : ℕ) → k < length bs → bwd_at t k ≡ get_or ts (get_or bs k 0) nil
  node-bwd k l = ap (λ (us : List Tree). get_or us k nil) node-bwds ∙ get-picked ts bs k l

-- where it is that of an arrow node
module _ (ts : List Tree) (hs rs ss : List ℕ) (t : Tree) (is : t ≡ node_tree ts (node.Arrow hs rs ss)) where
  pub arrow_node-heights : heights t ≡ hs
  arrow_node-heights = ap heights is ∙ heights-zag _ _ _

  pub arrow_node-regs : regs t ≡ picked ts rs
  arrow_node-regs = ap regs is ∙ regs-zag hs _ _

  pub arrow_node-sings : sings t ≡ picked ts ss
  arrow_node-sings = ap sings is ∙ sings-zag hs _ _

  pub arrow_node-reg : (j : ℕ) → j < length rs → reg_at t j ≡ get_or ts (get_or rs j 0) nil
  arrow_node-reg j l = ap (λ (us : List Tree). get_or us j nil) arrow_node-regs ∙ get-picked ts rs j l

  pub arrow_node-sing : (i : ℕ) → i < length ss → sing_at t i ≡ get_or ts (get_or ss i 0) nil
  arrow_node-sing i l = ap (λ (us : List Tree). get_or us i nil) arrow_node-sings ∙ get-picked ts ss i l

-- ---- shapes

-- the tree of something of this sort
abbrev pub IsOfSort : Sort → Tree → Type 0
IsOfSort (sort.Diagram d) t = IsDiagram d t
IsOfSort (sort.Arrow d) t = IsArrow d t

-- what is known of the places below i is known of a node's children there
module _ (ts : List Tree) (sorts : List Sort) (i : ℕ)
    (known : (p : ℕ) → p < i → IsOfSort (get_or sorts p (sort.Diagram 0)) (get_or ts p nil)) where
  child_is : (s : Sort) (places : List ℕ) → AreChildren sorts i s places → (j : ℕ) → j < length places
      → IsOfSort s (get_or (picked ts places) j nil)
  child_is s places c j l =
      let a = subst (λ r. IsOfSort r (get_or ts (get_or places j 0) nil)) (c.are j l) (known (get_or places j 0) (c.below j l)) in
      subst (IsOfSort s) (sym (get-picked ts places j l)) a

  diagram_shape : (d : ℕ) (rs ss fs bs : List ℕ) → IsDiagramNode sorts i d rs ss fs bs
      → IsDiagram (suc d) (node_tree ts (node.Diagram rs ss fs bs))
  diagram_shape d rs ss fs bs h =
      let lr = length-picked ts rs in
      let ls = length-picked ts ss in
      let lf = length-picked ts fs in
      let lb = length-picked ts bs in
      IsDiagram-zig d (picked ts rs) (picked ts ss) (picked ts fs) (picked ts bs) (record {
        regs_len = lr ∙ h.lengths.regs_len ∙ ap suc (sym ls);
        fwds_len = lf ∙ h.lengths.fwds_len ∙ sym ls;
        bwds_len = lb ∙ h.lengths.bwds_len ∙ sym ls;
        regs_are = λ j l. child_is (sort.Diagram d) rs h.regs j (omega arith);
        sings_are = λ j l. child_is (sort.Diagram d) ss h.sings j (omega arith);
        fwds_are = λ j l. child_is (sort.Arrow d) fs h.fwds j (omega arith);
        bwds_are = λ j l. child_is (sort.Arrow d) bs h.bwds j (omega arith);
      })

  arrow_shape : (d : ℕ) (hs rs ss : List ℕ) → IsArrowNode sorts i d hs rs ss
      → IsArrow (suc d) (node_tree ts (node.Arrow hs rs ss))
  arrow_shape d hs rs ss h =
      let lr = length-picked ts rs in
      let ls = length-picked ts ss in
      IsArrow-zag d hs (picked ts rs) (picked ts ss) (record {
        regs_len = omega (arith, h.regs_len);
        sings_len = ls ∙ h.sings_len;
        monotone = h.monotone;
        below = λ k l. omega (arith, h.below k l);
        regs_are = λ j l. child_is (sort.Arrow d) rs h.regs j (omega arith);
        sings_are = λ j l. child_is (sort.Arrow d) ss h.sings j (omega arith);
      })

  shape_of : (s : Sort) (n : Node) → NodeFits sorts i s n → IsOfSort s (node_tree ts n)
  shape_of s (node.Label x) h = subst (λ r. IsOfSort r (point x)) (sym h.0) (IsDiagram-point x)
  shape_of s (node.Diagram rs ss fs bs) h =
      subst (λ r. IsOfSort r (node_tree ts (node.Diagram rs ss fs bs))) (sym h.1) (diagram_shape h.0 rs ss fs bs h.2)
  shape_of s (node.Labels x y) h = subst (λ r. IsOfSort r (ends x y)) (sym h.0) (IsArrow-ends x y)
  shape_of s (node.Arrow hs rs ss) h =
      subst (λ r. IsOfSort r (node_tree ts (node.Arrow hs rs ss))) (sym h.1) (arrow_shape h.0 hs rs ss h.2)

-- ---- at each place of a list of nodes

abbrev no_node : Node
no_node = node.Label no_label

module _ (nodes : List Node) (are : AreNodes nodes) where
  -- the node at a place and its sort fit together; its children stand at earlier places
  pub fits_at : (i : ℕ) (d : Node) → i < length nodes → NodeFits (sorts_of nodes) i (sort_at nodes i) (get_or nodes i d)
  fits_at i d l =
      let f = form_at nodes are i d l in
      node_fits (sorts_of nodes) i (sort_at nodes i) (get_or nodes i d) f.labels f.places f.sort

  below_is_of_sort : (bound i : ℕ) → i < bound → i < length nodes → IsOfSort (sort_at nodes i) (tree_at nodes i)
  below_is_of_sort zero i b l = absurd (omega arith)
  below_is_of_sort (suc bound) i b l =
      let n : Node = get_or nodes i no_node in
      let before : (p : ℕ) → p < i → IsOfSort (sort_at nodes p) (tree_at nodes p) =
      λ p k. below_is_of_sort bound p (omega arith) (omega arith) in
      subst (IsOfSort (sort_at nodes i)) (sym (tree_at-node nodes are i no_node l))
      (shape_of (trees_of nodes) (sorts_of nodes) i before (sort_at nodes i) n (fits_at i no_node l))

  pub is_of_sort : (i : ℕ) → i < length nodes → IsOfSort (sort_at nodes i) (tree_at nodes i)
  is_of_sort i l = below_is_of_sort (suc i) i (omega arith) l

  pub diagram_at : (i d : ℕ) → i < length nodes → sort_at nodes i ≡ sort.Diagram d → IsDiagram d (tree_at nodes i)
  diagram_at i d l e = subst (λ s. IsOfSort s (tree_at nodes i)) e (is_of_sort i l)

  pub arrow_at : (i d : ℕ) → i < length nodes → sort_at nodes i ≡ sort.Arrow d → IsArrow d (tree_at nodes i)
  arrow_at i d l e = subst (λ s. IsOfSort s (tree_at nodes i)) e (is_of_sort i l)

-- ---- dimensions

dim_of-fits : (sorts : List Sort) (i : ℕ) (s : Sort) (n : Node) → NodeFits sorts i s n → dim_of s ≤ GREATEST_DIM
dim_of-fits sorts i s (node.Label x) h = subst (λ r. dim_of r ≤ GREATEST_DIM) (sym h.0) (omega arith)
dim_of-fits sorts i s (node.Diagram rs ss fs bs) h = subst (λ r. dim_of r ≤ GREATEST_DIM) (sym h.1) (omega (arith, h.2.dim))
dim_of-fits sorts i s (node.Labels x y) h = subst (λ r. dim_of r ≤ GREATEST_DIM) (sym h.0) (omega arith)
dim_of-fits sorts i s (node.Arrow hs rs ss) h = subst (λ r. dim_of r ≤ GREATEST_DIM) (sym h.1) (omega (arith, h.2.dim))

pub dim_of-sort_at : (nodes : List Node) → AreNodes nodes → (i : ℕ) → i < length nodes → dim_of (sort_at nodes i) ≤ GREATEST_DIM
dim_of-sort_at nodes are i l =
    dim_of-fits (sorts_of nodes) i (sort_at nodes i) (get_or nodes i no_node) (fits_at nodes are i no_node l)
