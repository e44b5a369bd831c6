-- Ids by the places of nodes: the children that they name, and the node that is put over them.
use Rattle.std.proofs.Common.{◌≡◌, ℕ, suc, ◌<◌, ◌≤◌, ◌+◌, List, [], ◌∷◌, ◌++◌, length, get_or, refl, sym, ap, subst, ◌∙◌, arith, ◌⊎◌, inl, inr}
use Rattle.std.proofs.lemmas.List.{length_push, get_or_append_left, get_or_push, ext_get_or}
use Rattle.diagram_terms.specs.declared.label.Label.{Label}
use Rattle.diagram_terms.specs.declared.node.Node.{Node}
use Rattle.diagram_terms.specs.declared.node.Node.TheVariants as node
use Rattle.diagram_terms.specs.declared.node.Sort.{Sort}
use Rattle.diagram_terms.specs.declared.node.Sort.TheVariants as sort
use Rattle.diagram_terms.specs.Tree.{Tree, nil, point, zig, ends, zag}
use Rattle.diagram_terms.specs.Dual.{AreBelow}
use Rattle.diagram_terms.specs.Dimension.{dimension_of, IsDiagramTree, IsArrowTree}
use Rattle.diagram_terms.specs.Shape.{IsDiagram, IsArrow}
use Rattle.diagram_terms.specs.Nodes.{picked, node_tree, tree_at, trees_of, sort_at, sorts_of, AreNodes}
use Rattle.diagram_terms.proofs.Dimensions.{diagram_tree, arrow_tree}
use Rattle.diagram_terms.proofs.NodeForms.{AreChildren, NodeFits, IsDiagramNode, IsArrowNode, tree_at-node}
use Rattle.diagram_terms.proofs.NodeShapes as shapes
use Rattle.diagram_terms.proofs.Shapes.{one_kind}
use Rattle.hashcons.specs.declared.id.AnyId.{AnyId}
use Rattle.hashcons.specs.declared.id.AnyId.TheVariants as id
use Rattle.hashcons.specs.Contents.{Contents, IsStore, Grows, diagram_at, arrow_at}
use Rattle.hashcons.specs.Nodes.{AreDiagramChildren, AreArrowChildren}
use Rattle.hashcons.specs.Ids.{IsOf, tree_of, id_at, GathersIds, IsDiagramId, IsArrowId, AreDiagramsAt, AreArrowsAt, NameDiagrams, NameArrows}
use Rattle.hashcons.proofs.TableTrees.{length-picked, get_or-picked}

-- ---- ids that are named

-- a fact of each number of a list by its place, and of one more
push_at : {X : Type 0} (P : ℕ → X → Type 0) (xs : List X) (n : ℕ) (x none : X) → length xs ≡ n
    → ((j : ℕ) → j < n → P j (get_or xs j none)) → P n x
    → (j : ℕ) → j < n + 1 → P j (get_or (xs ++ x ∷ []) j none)
push_at P xs n x none len h p j l = by (cut j l)
  where
    cut : (j : ℕ) → j < n + 1 → (j < n) ⊎ (n ≡ j)
    cut j l = grind arith

    by : (j < n) ⊎ (n ≡ j) → P j (get_or (xs ++ x ∷ []) j none)
    by (inl q) = subst (P j) (sym (get_or_append_left xs (x ∷ []) none j (omega arith))) (h j q)
    by (inr q) = subst (λ k. P k (get_or (xs ++ x ∷ []) k none)) q (subst (P n) (sym (get_or_push xs x none n len)) p)

-- ---- ids that are gathered

pub id-kept : (old new : Contents) → Grows old new → (x : AnyId) → IsOf old x → IsOf new x × (tree_of new x ≡ tree_of old x)
id-kept old new g (id.Diagram d) l = (g.diagrams d l, g.diagram_trees d l)
id-kept old new g (id.Arrow a) l = (g.arrows a l, g.arrow_trees a l)

pub ids-none : (c : Contents) (f : ℕ → Tree) → GathersIds c [] 0 f
ids-none c f = record { len = refl; of_store = λ j l. absurd (omega arith); are = λ j l. absurd (omega arith) }

pub ids-grow : (old new : Contents) (ids : List AnyId) (n : ℕ) (f : ℕ → Tree) → Grows old new → GathersIds old ids n f
    → GathersIds new ids n f
ids-grow old new ids n f g h = record {
  len = h.len;
  of_store = λ j l. (id-kept old new g (id_at ids j) (h.of_store j l)).0;
  are = λ j l. (id-kept old new g (id_at ids j) (h.of_store j l)).1 ∙ h.are j l;
}

pub ids-more : (old new : Contents) (ids : List AnyId) (n : ℕ) (x : AnyId) (f : ℕ → Tree) → Grows old new
    → GathersIds old ids n f → IsOf new x → tree_of new x ≡ f n
    → GathersIds new (ids ++ x ∷ []) (n + 1) f
ids-more old new ids n x f g h l e =
    let k = ids-grow old new ids n f g h in
    record {
      len = let p = h.len in let q = length_push ids x in omega arith;
      of_store = push_at (λ j y. IsOf new y) ids n x (id.Diagram 0) h.len k.of_store l;
      are = push_at (λ j y. tree_of new y ≡ f j) ids n x (id.Diagram 0) h.len k.are e;
    }

-- ---- the children of a node

-- an id with the tree of a diagram is one of a diagram
diagram_id : (c : Contents) (n : ℕ) → IsStore c → (x : AnyId) → IsOf c x → IsDiagram n (tree_of c x) → IsDiagramId x
diagram_id c n store (id.Diagram d) l h = tt
diagram_id c n store (id.Arrow a) l h = absurd (one_kind n (dimension_of (arrow_at c a)) (arrow_at c a) h (store.arrows a l))

arrow_id : (c : Contents) (n : ℕ) → IsStore c → (x : AnyId) → IsOf c x → IsArrow n (tree_of c x) → IsArrowId x
arrow_id c n store (id.Diagram d) l h = absurd (one_kind (dimension_of (diagram_at c d)) n (diagram_at c d)
    (store.diagrams d l) h)
arrow_id c n store (id.Arrow a) l h = tt

-- the trees that a store has under the ids of the nodes before a place
module _ (c : Contents) (store : IsStore c) (nodes : List Node) (are : AreNodes nodes) (at : ℕ) (l : at ≤ length nodes)
    (ids : List AnyId) (held : GathersIds c ids at (tree_at nodes)) where
  pub diagrams_there : (d : ℕ) (places : List ℕ) → AreChildren (sorts_of nodes) at (sort.Diagram d) places
      → AreDiagramsAt ids places
  diagrams_there d places ch = record {
    within = λ j k. let b = ch.below j k in let n = held.len in omega arith;
    are = λ j k.
        let p = get_or places j 0 in
        let b : p < at = ch.below j k in
        diagram_id c d store (id_at ids p) (held.of_store p b)
        (subst (IsDiagram d) (sym (held.are p b)) (shapes.diagram_at nodes are p d (omega arith) (ch.are j k)));
  }

  pub arrows_there : (d : ℕ) (places : List ℕ) → AreChildren (sorts_of nodes) at (sort.Arrow d) places
      → AreArrowsAt ids places
  arrows_there d places ch = record {
    within = λ j k. let b = ch.below j k in let n = held.len in omega arith;
    are = λ j k.
        let p = get_or places j 0 in
        let b : p < at = ch.below j k in
        arrow_id c d store (id_at ids p) (held.of_store p b)
        (subst (IsArrow d) (sym (held.are p b)) (shapes.arrow_at nodes are p d (omega arith) (ch.are j k)));
  }

  -- the trees of the ids that are named are those at the places
  pub diagrams_below : (s : Sort) (places ds : List ℕ) → AreChildren (sorts_of nodes) at s places
      → NameDiagrams ids places (length places) ds → AreBelow ds (length c.diagrams)
  diagrams_below s places ds ch named = record {
    below = λ j k.
        let m : j < length places = let n = named.len in omega arith in
        subst (IsOf c) (named.are j m) (held.of_store (get_or places j 0) (ch.below j m));
  }

  pub arrows_below : (s : Sort) (places xs : List ℕ) → AreChildren (sorts_of nodes) at s places
      → NameArrows ids places (length places) xs → AreBelow xs (length c.arrows)
  arrows_below s places xs ch named = record {
    below = λ j k.
        let m : j < length places = let n = named.len in omega arith in
        subst (IsOf c) (named.are j m) (held.of_store (get_or places j 0) (ch.below j m));
  }

  pub picked-diagrams : (s : Sort) (places ds : List ℕ) → AreChildren (sorts_of nodes) at s places
      → NameDiagrams ids places (length places) ds
      → picked c.diagrams ds ≡ picked (trees_of nodes) places
  picked-diagrams s places ds ch named =
      let n = named.len in
      let a = length-picked c.diagrams ds in
      let b = length-picked (trees_of nodes) places in
      ext_get_or nil (picked c.diagrams ds) (picked (trees_of nodes) places) (omega arith) (λ j k.
      let m : j < length places = omega arith in
      get_or-picked c.diagrams ds j 0 (omega arith) ∙ sym (ap (tree_of c) (named.are j m))
      ∙ held.are (get_or places j 0) (ch.below j m) ∙ sym (get_or-picked (trees_of nodes) places j 0 m))

  pub picked-arrows : (s : Sort) (places xs : List ℕ) → AreChildren (sorts_of nodes) at s places
      → NameArrows ids places (length places) xs
      → picked c.arrows xs ≡ picked (trees_of nodes) places
  picked-arrows s places xs ch named =
      let n = named.len in
      let a = length-picked c.arrows xs in
      let b = length-picked (trees_of nodes) places in
      ext_get_or nil (picked c.arrows xs) (picked (trees_of nodes) places) (omega arith) (λ j k.
      let m : j < length places = omega arith in
      get_or-picked c.arrows xs j 0 (omega arith) ∙ sym (ap (tree_of c) (named.are j m))
      ∙ held.are (get_or places j 0) (ch.below j m) ∙ sym (get_or-picked (trees_of nodes) places j 0 m))

-- ---- the node that is put over them

-- the children of a node are of the store, it describes the tree of the place, and this has the right shape
pub record PutsDiagramAt (c : Contents) (nodes : List Node) (at : ℕ) (rs ss fs bs : List ℕ) : Type 0 where
  pub children : AreDiagramChildren (length c.arrows) (length c.diagrams) rs ss fs bs
  pub tree : zig (picked c.diagrams rs) (picked c.diagrams ss) (picked c.arrows fs) (picked c.arrows bs) ≡ tree_at nodes at
  pub shape : IsDiagramTree (tree_at nodes at)

pub record PutsArrowAt (c : Contents) (nodes : List Node) (at : ℕ) (hs rs ss : List ℕ) : Type 0 where
  pub children : AreArrowChildren (length c.arrows) rs ss
  pub tree : zag hs (picked c.arrows rs) (picked c.arrows ss) ≡ tree_at nodes at
  pub shape : IsArrowTree (tree_at nodes at)

module _ (nodes : List Node) (are : AreNodes nodes) (at : ℕ) (l : at < length nodes) (n x : Node)
    (read : n ≡ get_or nodes at n) (is : n ≡ x) where
  fits_here : NodeFits (sorts_of nodes) at (sort_at nodes at) x
  fits_here = subst (NodeFits (sorts_of nodes) at (sort_at nodes at)) (sym read ∙ is) (shapes.fits_at nodes are at n l)

  tree_here : node_tree (trees_of nodes) x ≡ tree_at nodes at
  tree_here = sym (tree_at-node nodes are at n l ∙ ap (node_tree (trees_of nodes)) (sym read ∙ is))

pub label_here : (nodes : List Node) → AreNodes nodes → (at : ℕ) → at < length nodes → (n : Node) → n ≡ get_or nodes at n
    → (x : Label) → n ≡ node.Label x → point x ≡ tree_at nodes at
label_here nodes are at l n read x is = tree_here nodes are at l n (node.Label x) read is

pub labels_here : (nodes : List Node) → AreNodes nodes → (at : ℕ) → at < length nodes → (n : Node) → n ≡ get_or nodes at n
    → (x y : Label) → n ≡ node.Labels x y → ends x y ≡ tree_at nodes at
labels_here nodes are at l n read x y is = tree_here nodes are at l n (node.Labels x y) read is

module _ (nodes : List Node) (are : AreNodes nodes) (at : ℕ) (l : at < length nodes) (n : Node)
    (read : n ≡ get_or nodes at n) (rs ss fs bs : List ℕ) (is : n ≡ node.Diagram rs ss fs bs) where
  pub diagram_here : (d : ℕ) × (sort_at nodes at ≡ sort.Diagram (suc d)) × IsDiagramNode (sorts_of nodes) at d rs ss fs bs
  diagram_here = fits_here nodes are at l n (node.Diagram rs ss fs bs) read is

  pub puts_diagram_at : (c : Contents) → IsStore c → (ids : List AnyId) → GathersIds c ids at (tree_at nodes)
      → (rs2 ss2 fs2 bs2 : List ℕ)
      → NameDiagrams ids rs (length rs) rs2 → NameDiagrams ids ss (length ss) ss2 → NameArrows ids fs (length fs) fs2
      → NameArrows ids bs (length bs) bs2
      → PutsDiagramAt c nodes at rs2 ss2 fs2 bs2
  puts_diagram_at c store ids held rs2 ss2 fs2 bs2 nr ns nf nb =
      let f = diagram_here in
      let q : at ≤ length nodes = omega arith in
      let u = picked-diagrams c store nodes are at q ids held (sort.Diagram f.0) rs rs2 f.2.regs nr in
      let v = picked-diagrams c store nodes are at q ids held (sort.Diagram f.0) ss ss2 f.2.sings ns in
      let w = picked-arrows c store nodes are at q ids held (sort.Arrow f.0) fs fs2 f.2.fwds nf in
      let x = picked-arrows c store nodes are at q ids held (sort.Arrow f.0) bs bs2 f.2.bwds nb in
      record {
        children = record {
          regs = diagrams_below c store nodes are at q ids held (sort.Diagram f.0) rs rs2 f.2.regs nr;
          sings = diagrams_below c store nodes are at q ids held (sort.Diagram f.0) ss ss2 f.2.sings ns;
          fwds = arrows_below c store nodes are at q ids held (sort.Arrow f.0) fs fs2 f.2.fwds nf;
          bwds = arrows_below c store nodes are at q ids held (sort.Arrow f.0) bs bs2 f.2.bwds nb;
        };
        tree = (λ i. zig (u i) (v i) (w i) (x i)) ∙ tree_here nodes are at l n (node.Diagram rs ss fs bs) read is;
        shape = diagram_tree (suc f.0) (tree_at nodes at) (shapes.diagram_at nodes are at (suc f.0) l f.1);
      }

module _ (nodes : List Node) (are : AreNodes nodes) (at : ℕ) (l : at < length nodes) (n : Node)
    (read : n ≡ get_or nodes at n) (hs rs ss : List ℕ) (is : n ≡ node.Arrow hs rs ss) where
  pub arrow_here : (d : ℕ) × (sort_at nodes at ≡ sort.Arrow (suc d)) × IsArrowNode (sorts_of nodes) at d hs rs ss
  arrow_here = fits_here nodes are at l n (node.Arrow hs rs ss) read is

  pub puts_arrow_at : (c : Contents) → IsStore c → (ids : List AnyId) → GathersIds c ids at (tree_at nodes)
      → (hs2 rs2 ss2 : List ℕ)
      → hs2 ≡ hs → NameArrows ids rs (length rs) rs2 → NameArrows ids ss (length ss) ss2 → PutsArrowAt c nodes at hs2 rs2 ss2
  puts_arrow_at c store ids held hs2 rs2 ss2 e nr ns =
      let f = arrow_here in
      let q : at ≤ length nodes = omega arith in
      let u = picked-arrows c store nodes are at q ids held (sort.Arrow f.0) rs rs2 f.2.regs nr in
      let v = picked-arrows c store nodes are at q ids held (sort.Arrow f.0) ss ss2 f.2.sings ns in
      record {
        children = record {
          regs = arrows_below c store nodes are at q ids held (sort.Arrow f.0) rs rs2 f.2.regs nr;
          sings = arrows_below c store nodes are at q ids held (sort.Arrow f.0) ss ss2 f.2.sings ns;
        };
        tree = (λ i. zag (e i) (u i) (v i)) ∙ tree_here nodes are at l n (node.Arrow hs rs ss) read is;
        shape = arrow_tree (suc f.0) (tree_at nodes at) (shapes.arrow_at nodes are at (suc f.0) l f.1);
      }
