-- What the tables say of an id, and what `put_arrow` and `put_diagram` do to them.
use Rattle.std.proofs.Common.{◌≡◌, ◌≢◌, ℕ, ◌<◌, ◌≤◌, ◌+◌, List, [], ◌∷◌, ◌++◌, length, get_or, slice_get, Some, refl, sym, ap, subst, ◌∙◌, arith, ◌⊎◌, inl, inr}
use Rattle.std.proofs.lemmas.List.{length_push}
use Rattle.diagram_terms.specs.Tree.{Tree, nil}
use Rattle.diagram_terms.specs.Dimension.{IsDiagramTree, IsArrowTree}
use Rattle.hashcons.specs.declared.view.ArrowView.{ArrowView}
use Rattle.hashcons.specs.declared.view.DiagramView.{DiagramView}
use Rattle.block_lists.specs.Blocks.{IsPut}
use Rattle.hashcons.specs.Contents.{Contents, Notes, diagram_at, arrow_at, Grows, IsStore, AddsArrow, AddsDiagram, with_arrow, with_diagram}
use Rattle.hashcons.specs.Nodes.{tree_of_arrow, tree_of_diagram, IsArrowOver, IsDiagramOver}
use Rattle.hashcons.specs.Tables.{trees_from, AreGrounded, arrow_trees, diagram_trees, contents_of, AreTables}
use Rattle.hashcons.proofs.TableTrees.{AgreeBelow, length-trees_from, trees_from-push, trees_from-same, tree-reads, tree-new, AreGrounded-at, AreGrounded-push, AreGrounded-wider, slice_get-below, at-push}
use Rattle.hashcons.proofs.EqualNodes.{arrow-told, diagram-told, arrow-local, diagram-local, arrow-wider, diagram-wider, diagram-arrows, diagram-more_arrows}
use Rattle.hashcons.proofs.OneMoreTree.{Grows-refl, Grows-push_arrow, Grows-push_diagram, IsStore-push_arrow, IsStore-push_diagram}
use Rattle.hashcons.proofs.NodeChildren.{arrow-among, slices-among, legs-among, arrow-low, diagram-low}

pub length-arrow_trees : (arrows : List ArrowView) → length (arrow_trees arrows) ≡ length arrows
length-arrow_trees arrows = omega (arith, length-trees_from tree_of_arrow [] arrows)

pub length-diagram_trees : (arrows : List ArrowView) (diagrams : List DiagramView)
    → length (diagram_trees arrows diagrams) ≡ length diagrams
length-diagram_trees arrows diagrams = omega (arith, length-trees_from (tree_of_diagram (arrow_trees arrows)) [] diagrams)

-- the node k stands at i: it describes the tree of i, and its children are of the store
pub record ReadsArrow (c : Contents) (i : ℕ) (k : ArrowView) : Type 0 where
  pub tree : tree_of_arrow c.arrows k ≡ arrow_at c i
  pub children : IsArrowOver (length c.arrows) k

pub record ReadsDiagram (c : Contents) (i : ℕ) (k : DiagramView) : Type 0 where
  pub tree : tree_of_diagram c.arrows c.diagrams k ≡ diagram_at c i
  pub children : IsDiagramOver (length c.arrows) (length c.diagrams) k

module _ (arrows : List ArrowView) (diagrams : List DiagramView) (notes : Notes) (tables : AreTables arrows diagrams notes) where
  pub reads_arrow : (i : ℕ) (k : ArrowView) → slice_get arrows i ≡ Some k → ReadsArrow (contents_of arrows diagrams notes) i k
  reads_arrow i k at =
      let l = length-arrow_trees arrows in
      let b = slice_get-below arrows i k at in
      record {
        tree = sym (tree-reads tree_of_arrow IsArrowOver arrow-local arrows i k tables.arrows_grounded at);
        children = arrow-wider (0 + i) (length (arrow_trees arrows)) k (omega arith)
            (AreGrounded-at IsArrowOver 0 arrows i k tables.arrows_grounded at);
      }

  pub reads_diagram : (i : ℕ) (k : DiagramView) → slice_get diagrams i ≡ Some k
      → ReadsDiagram (contents_of arrows diagrams notes) i k
  reads_diagram i k at =
      let us = arrow_trees arrows in
      let over = IsDiagramOver (length us) in
      let l = length-diagram_trees arrows diagrams in
      let b = slice_get-below diagrams i k at in
      record {
        tree = sym (tree-reads (tree_of_diagram us) over (diagram-local us) diagrams i k tables.diagrams_grounded at);
        children = diagram-wider (length us) (0 + i) (length (diagram_trees arrows diagrams)) k (omega arith)
            (AreGrounded-at over 0 diagrams i k tables.diagrams_grounded at);
      }

-- ---- one more node

-- the tree stands at i in the list
pub record Holds (ts : List Tree) (i : ℕ) (t : Tree) : Type 0 where
  pub of_list : i < length ts
  pub tree : get_or ts i nil ≡ t

-- n stands in the table at the place of its tree
holds : {N : Type 0} (f : List Tree → N → Tree) (B : ℕ → N → Type 0)
    (local : (k : ℕ) (ts us : List Tree) (n : N) → B k n → AgreeBelow k ts us → f ts n ≡ f us n) (ns : List N) (n : N)
    → AreGrounded B 0 ns → (i : ℕ) → slice_get ns i ≡ Some n → Holds (trees_from f [] ns) i (f (trees_from f [] ns) n)
holds f B local ns n g i at =
    let l = length-trees_from f [] ns in
    let b = slice_get-below ns i n at in
    record { of_list = omega arith; tree = tree-reads f B local ns i n g at }

-- the tables after a node was put, and where it stands
pub record PutsArrow (before after : List ArrowView) (diagrams : List DiagramView) (notes : Notes) (n : ArrowView) : Type 0 where
  pub tables : AreTables after diagrams notes
  pub grows : Grows (contents_of before diagrams notes) (contents_of after diagrams notes)
  pub adds : AddsArrow (contents_of before diagrams notes) (contents_of after diagrams notes) (tree_of_arrow (arrow_trees before) n)
  pub held : (i : ℕ) → slice_get after i ≡ Some n → Holds (arrow_trees after) i (tree_of_arrow (arrow_trees before) n)

module _ (before : List ArrowView) (diagrams : List DiagramView) (notes : Notes) (n : ArrowView) (tables : AreTables before diagrams notes)
    (children : IsArrowOver (length (arrow_trees before)) n)
    (shape : IsArrowTree (tree_of_arrow (arrow_trees before) n)) where
  arrow_there : PutsArrow before before diagrams notes n
  arrow_there = record {
    tables = tables;
    grows = Grows-refl (contents_of before diagrams notes);
    adds = inl refl;
    held = holds tree_of_arrow IsArrowOver arrow-local before n tables.arrows_grounded;
  }

  arrow_absent : ((i : ℕ) → slice_get before i ≢ Some n) → PutsArrow before (before ++ n ∷ []) diagrams notes n
  arrow_absent none =
      let ts = arrow_trees before in
      let t = tree_of_arrow ts n in
      let after = before ++ n ∷ [] in
      let pushed : arrow_trees after ≡ ts ++ t ∷ [] = trees_from-push tree_of_arrow [] before n in
      let long : length ts ≡ 0 + length before = length-trees_from tree_of_arrow [] before in
      let grounded : AreGrounded IsArrowOver 0 after =
      AreGrounded-push IsArrowOver 0 before n tables.arrows_grounded (subst (λ k. IsArrowOver k n) long children)
      in
      let among = arrow-among ts n children in
      let low = arrow-low ts t shape among tables.store.arrow_dims in
      let new : (i : ℕ) → i < length ts → get_or ts i nil ≢ t =
      tree-new tree_of_arrow IsArrowOver arrow-local before n
      (λ m over same. arrow-told ts tables.store.arrows_once n m children over same)
      arrow-wider tables.arrows_grounded none
      in
      let agree : AgreeBelow (length ts) ts (arrow_trees after) =
      λ j h. sym (ap (λ us. get_or us j nil) pushed ∙ at-push ts t j h)
      in
      let same : diagram_trees before diagrams ≡ diagram_trees after diagrams =
      trees_from-same (tree_of_diagram ts) (tree_of_diagram (arrow_trees after)) (IsDiagramOver (length ts))
      (diagram-arrows (length ts) ts (arrow_trees after) agree) 0 [] diagrams tables.diagrams_grounded
      in
      let wide : length ts ≤ length (arrow_trees after) =
      let k = length_push ts t in let e = ap length pushed in omega arith
      in
      let whole : with_arrow (contents_of before diagrams notes) t ≡ contents_of after diagrams notes =
      λ i. record { diagrams = same i; arrows = sym pushed i; notes = notes }
      in
      let held = holds tree_of_arrow IsArrowOver arrow-local after n grounded in
      let grown = IsStore-push_arrow (contents_of before diagrams notes) t tables.store shape among low new in
      record {
        tables = record {
          arrows_grounded = grounded;
          diagrams_grounded =
              AreGrounded-wider (IsDiagramOver (length ts)) (IsDiagramOver (length (arrow_trees after)))
              (diagram-more_arrows (length ts) (length (arrow_trees after)) wide) 0 diagrams tables.diagrams_grounded;
          store = subst IsStore whole grown;
        };
        grows = subst (Grows (contents_of before diagrams notes)) whole (Grows-push_arrow (contents_of before diagrams notes) t grown);
        adds = inr (sym whole);
        held = λ i at.
            let h = held i at in
            record {
              of_list = h.of_list;
              tree = h.tree ∙ sym
                  (arrow-local (length ts) ts (arrow_trees after) n children agree);
            };
      }

  pub puts_arrow : (after : List ArrowView) (place : ℕ) → IsPut before after n place → PutsArrow before after diagrams notes n
  puts_arrow after place p = by p.adds
    where
      by : (after ≡ before) ⊎ ((after ≡ before ++ n ∷ []) × ((i : ℕ) → slice_get before i ≢ Some n))
          → PutsArrow before after diagrams notes n
      by (inl e) = subst (λ ns. PutsArrow before ns diagrams notes n) (sym e) arrow_there
      by (inr e) = subst (λ ns. PutsArrow before ns diagrams notes n) (sym e.0) (arrow_absent e.1)

pub record PutsDiagram (arrows : List ArrowView) (before after : List DiagramView) (notes : Notes) (n : DiagramView) : Type 0 where
  pub tables : AreTables arrows after notes
  pub grows : Grows (contents_of arrows before notes) (contents_of arrows after notes)
  pub adds : AddsDiagram (contents_of arrows before notes) (contents_of arrows after notes)
      (tree_of_diagram (arrow_trees arrows) (diagram_trees arrows before) n)
  pub held : (i : ℕ) → slice_get after i ≡ Some n → Holds (diagram_trees arrows after) i (tree_of_diagram (arrow_trees arrows) (diagram_trees arrows before) n)

module _ (arrows : List ArrowView) (before : List DiagramView) (notes : Notes) (n : DiagramView) (tables : AreTables arrows before notes)
    (children : IsDiagramOver (length (arrow_trees arrows)) (length (diagram_trees arrows before)) n)
    (shape : IsDiagramTree (tree_of_diagram (arrow_trees arrows) (diagram_trees arrows before) n)) where
  diagram_there : PutsDiagram arrows before before notes n
  diagram_there = record {
    tables = tables;
    grows = Grows-refl (contents_of arrows before notes);
    adds = inl refl;
    held =
        holds (tree_of_diagram (arrow_trees arrows)) (IsDiagramOver (length (arrow_trees arrows)))
        (diagram-local (arrow_trees arrows)) before n tables.diagrams_grounded;
  }

  diagram_absent : ((i : ℕ) → slice_get before i ≢ Some n) → PutsDiagram arrows before (before ++ n ∷ []) notes n
  diagram_absent none =
      let us = arrow_trees arrows in
      let f = tree_of_diagram us in
      let over = IsDiagramOver (length us) in
      let ts = diagram_trees arrows before in
      let t = f ts n in
      let after = before ++ n ∷ [] in
      let pushed : diagram_trees arrows after ≡ ts ++ t ∷ [] = trees_from-push f [] before n in
      let long : length ts ≡ 0 + length before = length-trees_from f [] before in
      let grounded : AreGrounded over 0 after =
      AreGrounded-push over 0 before n tables.diagrams_grounded (subst (λ k. over k n) long children)
      in
      let slices = slices-among us ts n children in
      let legs = legs-among us ts n children in
      let low = diagram-low ts t shape slices tables.store.diagram_dims in
      let new : (i : ℕ) → i < length ts → get_or ts i nil ≢ t =
      tree-new f over (diagram-local us) before n
      (λ m b same. diagram-told us ts tables.store.arrows_once tables.store.diagrams_once n m children b same)
      (diagram-wider (length us)) tables.diagrams_grounded none
      in
      let agree : AgreeBelow (length ts) ts (diagram_trees arrows after) =
      λ j h. sym (ap (λ vs. get_or vs j nil) pushed ∙ at-push ts t j h)
      in
      let whole : with_diagram (contents_of arrows before notes) t ≡ contents_of arrows after notes =
      λ i. record { diagrams = sym pushed i; arrows = us; notes = notes }
      in
      let held = holds f over (diagram-local us) after n grounded in
      let grown = IsStore-push_diagram (contents_of arrows before notes) t tables.store shape slices legs low new in
      record {
        tables = record {
          arrows_grounded = tables.arrows_grounded;
          diagrams_grounded = grounded;
          store = subst IsStore whole grown;
        };
        grows = subst (Grows (contents_of arrows before notes)) whole (Grows-push_diagram (contents_of arrows before notes) t grown);
        adds = inr (sym whole);
        held = λ i at.
            let h = held i at in
            record {
              of_list = h.of_list;
              tree = h.tree ∙ sym
                  (diagram-local us (length ts) ts (diagram_trees arrows after) n children agree);
            };
      }

  pub puts_diagram : (after : List DiagramView) (place : ℕ) → IsPut before after n place
      → PutsDiagram arrows before after notes n
  puts_diagram after place p = by p.adds
    where
      by : (after ≡ before) ⊎ ((after ≡ before ++ n ∷ []) × ((i : ℕ) → slice_get before i ≢ Some n))
          → PutsDiagram arrows before after notes n
      by (inl e) = subst (λ ns. PutsDiagram arrows before ns notes n) (sym e) diagram_there
      by (inr e) = subst (λ ns. PutsDiagram arrows before ns notes n) (sym e.0) (diagram_absent e.1)

-- ---- what a store is after a node was put

pub record StoresArrow (c : Contents) (arrows : List ArrowView) (diagrams : List DiagramView) (notes : Notes) (n : ArrowView) (place : ℕ) : Type 0 where
  pub tables : AreTables arrows diagrams notes
  pub grows : Grows c (contents_of arrows diagrams notes)
  pub adds : AddsArrow c (contents_of arrows diagrams notes) (tree_of_arrow c.arrows n)
  pub held : Holds (arrow_trees arrows) place (tree_of_arrow c.arrows n)

pub stores_arrow : (c : Contents) (before : List ArrowView) (diagrams : List DiagramView) (notes : Notes) (n : ArrowView)
    → contents_of before diagrams notes ≡ c → AreTables before diagrams notes
    → IsArrowOver (length c.arrows) n → IsArrowTree (tree_of_arrow c.arrows n) → (after : List ArrowView) (place : ℕ)
    → IsPut before after n place → (same : List DiagramView) → same ≡ diagrams → StoresArrow c after same notes n place
stores_arrow c before diagrams notes n is tables children shape after place put same e =
    subst (λ ds. StoresArrow c after ds notes n place) (sym e)
    (subst (λ s. StoresArrow s after diagrams notes n place) is (
    let p = puts_arrow before diagrams notes n tables
    (subst (λ s. IsArrowOver (length s.arrows) n) (sym is) children)
    (subst (λ s. IsArrowTree (tree_of_arrow s.arrows n)) (sym is) shape) after place put in
    record { tables = p.tables; grows = p.grows; adds = p.adds; held = p.held place put.there }))

pub record StoresDiagram (c : Contents) (arrows : List ArrowView) (diagrams : List DiagramView) (notes : Notes) (n : DiagramView) (place : ℕ) : Type 0 where
  pub tables : AreTables arrows diagrams notes
  pub grows : Grows c (contents_of arrows diagrams notes)
  pub adds : AddsDiagram c (contents_of arrows diagrams notes) (tree_of_diagram c.arrows c.diagrams n)
  pub held : Holds (diagram_trees arrows diagrams) place (tree_of_diagram c.arrows c.diagrams n)

pub stores_diagram : (c : Contents) (arrows : List ArrowView) (before : List DiagramView) (notes : Notes) (n : DiagramView)
    → contents_of arrows before notes ≡ c → AreTables arrows before notes
    → IsDiagramOver (length c.arrows) (length c.diagrams) n → IsDiagramTree (tree_of_diagram c.arrows c.diagrams n)
    → (after : List DiagramView) (place : ℕ)
    → IsPut before after n place → (same : List ArrowView) → same ≡ arrows → StoresDiagram c same after notes n place
stores_diagram c arrows before notes n is tables children shape after place put same e =
    subst (λ xs. StoresDiagram c xs after notes n place) (sym e)
    (subst (λ s. StoresDiagram s arrows after notes n place) is (
    let p = puts_diagram arrows before notes n tables
    (subst (λ s. IsDiagramOver (length s.arrows) (length s.diagrams) n) (sym is) children)
    (subst (λ s. IsDiagramTree (tree_of_diagram s.arrows s.diagrams n)) (sym is) shape) after place put in
    record { tables = p.tables; grows = p.grows; adds = p.adds; held = p.held place put.there }))
