-- A list of nodes as it grows: what stands there stays, and one more node that has the form adds its tree and its sort.
use Rattle.std.proofs.Common.{◌≡◌, ℕ, ◌<◌, ◌≤◌, Some, List, [], ◌∷◌, ◌++◌, take, drop, length, get_or, refl, sym, ap, ◌∙◌, arith, subst}
use Rattle.std.specs.Prelude.{unwrap_or}
use Rattle.std.proofs.lemmas.List.{length-take-le, get_or_push, take-append-drop}
use Rattle.diagram_terms.specs.declared.node.Node.{Node}
use Rattle.diagram_terms.specs.declared.node.Sort.{Sort}
use Rattle.diagram_terms.specs.declared.node.Sort.TheVariants as sort
use Rattle.diagram_terms.specs.Tree.{Tree, nil}
use Rattle.diagram_terms.specs.Nodes.{node_tree, trees_from, trees_of, tree_at, sort_of, node_sort, sorts_from, sorts_of, sort_at, IsNode, AreNodesFrom, AreNodes}
use Rattle.diagram_terms.proofs.NodeForms.{length-trees_of, length-sorts_of, trees_from-before, sorts_from-before}

trees_from-append : (ts : List Tree) (xs ys : List Node)
    → trees_from ts (xs ++ ys) ≡ trees_from (trees_from ts xs) ys
trees_from-append ts [] ys = refl
trees_from-append ts (x ∷ xs) ys = trees_from-append (ts ++ node_tree ts x ∷ []) xs ys

sorts_from-append : (sorts : List Sort) (xs ys : List Node)
    → sorts_from sorts (xs ++ ys) ≡ sorts_from (sorts_from sorts xs) ys
sorts_from-append sorts [] ys = refl
sorts_from-append sorts (x ∷ xs) ys = sorts_from-append (sorts ++ node_sort sorts x ∷ []) xs ys

nodes_from-join : (sorts : List Sort) (xs ys : List Node) → AreNodesFrom sorts xs
    → AreNodesFrom (sorts_from sorts xs) ys → AreNodesFrom sorts (xs ++ ys)
nodes_from-join sorts [] ys a b = b
nodes_from-join sorts (x ∷ xs) ys a b = (a.0, nodes_from-join (sorts ++ node_sort sorts x ∷ []) xs ys a.1 b)

nodes_from-split : (sorts : List Sort) (xs ys : List Node) → AreNodesFrom sorts (xs ++ ys)
    → AreNodesFrom sorts xs × AreNodesFrom (sorts_from sorts xs) ys
nodes_from-split sorts [] ys a = (tt, a)
nodes_from-split sorts (x ∷ xs) ys a =
    let r = nodes_from-split (sorts ++ node_sort sorts x ∷ []) xs ys a.1 in ((a.0, r.0), r.1)

-- ---- what stands there stays

module _ (nodes more : List Node) (i : ℕ) (l : i < length nodes) where
  pub tree_at-append : tree_at (nodes ++ more) i ≡ tree_at nodes i
  tree_at-append =
      ap (λ (ts : List Tree). get_or ts i nil) (trees_from-append [] nodes more)
      ∙ trees_from-before (trees_of nodes) more i (omega (arith, length-trees_of nodes))

  pub sort_at-append : sort_at (nodes ++ more) i ≡ sort_at nodes i
  sort_at-append =
      ap (λ (ss : List Sort). get_or ss i (sort.Diagram 0)) (sorts_from-append [] nodes more)
      ∙ sorts_from-before (sorts_of nodes) more i (omega (arith, length-sorts_of nodes))

pub AreNodes-front : (nodes more : List Node) → AreNodes (nodes ++ more) → AreNodes nodes
AreNodes-front nodes more a = (nodes_from-split [] nodes more a).0

pub AreNodes-take : (k : ℕ) (nodes : List Node) → AreNodes nodes → AreNodes (take k nodes)
AreNodes-take k nodes a = AreNodes-front (take k nodes) (drop k nodes) (subst AreNodes (sym (take-append-drop k nodes)) a)

module _ (k : ℕ) (nodes : List Node) (i : ℕ) (l : i < k) (b : k ≤ length nodes) where
  pub tree_at-take : tree_at (take k nodes) i ≡ tree_at nodes i
  tree_at-take =
      sym (tree_at-append (take k nodes) (drop k nodes) i (omega (arith, length-take-le k nodes b)))
      ∙ ap (λ ns. tree_at ns i) (take-append-drop k nodes)

  pub sort_at-take : sort_at (take k nodes) i ≡ sort_at nodes i
  sort_at-take =
      sym (sort_at-append (take k nodes) (drop k nodes) i (omega (arith, length-take-le k nodes b)))
      ∙ ap (λ ns. sort_at ns i) (take-append-drop k nodes)

-- ---- one more node

module _ (nodes : List Node) (n : Node) where
  pub trees_of-push : trees_of (nodes ++ n ∷ []) ≡ trees_of nodes ++ node_tree (trees_of nodes) n ∷ []
  trees_of-push = trees_from-append [] nodes (n ∷ [])

  pub sorts_of-push : sorts_of (nodes ++ n ∷ []) ≡ sorts_of nodes ++ node_sort (sorts_of nodes) n ∷ []
  sorts_of-push = sorts_from-append [] nodes (n ∷ [])

  pub tree_at-push : tree_at (nodes ++ n ∷ []) (length nodes) ≡ node_tree (trees_of nodes) n
  tree_at-push =
      ap (λ (ts : List Tree). get_or ts (length nodes) nil) trees_of-push
      ∙ get_or_push (trees_of nodes) (node_tree (trees_of nodes) n) nil (length nodes) (length-trees_of nodes)

  pub sort_at-push : (s : Sort) → sort_of (sorts_of nodes) n ≡ Some s → sort_at (nodes ++ n ∷ []) (length nodes) ≡ s
  sort_at-push s e =
      ap (λ (ss : List Sort). get_or ss (length nodes) (sort.Diagram 0)) sorts_of-push
      ∙ get_or_push (sorts_of nodes) (node_sort (sorts_of nodes) n) (sort.Diagram 0) (length nodes) (length-sorts_of nodes)
      ∙ ap (λ o. unwrap_or o (sort.Diagram 0)) e

  pub AreNodes-push : AreNodes nodes → IsNode (sorts_of nodes) n → AreNodes (nodes ++ n ∷ [])
  AreNodes-push a h = nodes_from-join [] nodes (n ∷ []) a (h, tt)

  pub IsNode-last : AreNodes (nodes ++ n ∷ []) → IsNode (sorts_of nodes) n
  IsNode-last a = (nodes_from-split [] nodes (n ∷ []) a).1.0
