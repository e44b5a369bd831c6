-- Trees of valid plain diagrams and arrows.
use Rattle.std.proofs.Common.{◌≡◌, ℕ, zero, suc, ◌<◌, length, sym, ap, ◌∙◌, subst, arith}
use Rattle.diagram_terms.specs.Cone.{Parallel, source, target}
use Rattle.diagram_terms.specs.Decoded.{dia, arr, dia_tree, arr_tree}
use Rattle.diagram_terms.specs.Dimension.{dimension_of}
use Rattle.diagram_terms.specs.Family.{Dia, Arr, reg}
use Rattle.diagram_terms.specs.Shape.{IsDiagram, IsArrow, reg_at}
use Rattle.diagram_terms.specs.Slices.{AreParallel, source_tree, target_tree}
use Rattle.diagram_terms.specs.Tree.{Tree, sings}
use Rattle.diagram_terms.proofs.Dimensions.{diagram_dimension, arrow_dimension}
use Rattle.diagram_terms.proofs.FamilyShapes.{diagram_shape, arrow_shape, valid_fits, valid_arrow_fits}
use Rattle.diagram_terms.proofs.Glue.{dia-dia_tree, arr-arr_tree, dia_tree-sings_len, dia_tree-reg, dia-reg, dia-sings_len}
use Rattle.diagram_terms.specs.Good.{GoodDiagram, GoodArrow}
use Rattle.diagram_terms.specs.GoodTrees.{IsGoodTree, IsGoodArrowTree}

module _ (n : ℕ) (X : Dia n) (g : GoodDiagram n X) where
  shape-of : IsDiagram n (dia_tree n X)
  shape-of = diagram_shape n X (valid_fits n X g.valid)

  pub tree-dimension : dimension_of (dia_tree n X) ≡ n
  tree-dimension = diagram_dimension n (dia_tree n X) shape-of

  pub good_tree : IsGoodTree (dia_tree n X)
  good_tree = record {
    shape = subst (λ (m : ℕ). IsDiagram m (dia_tree n X)) (sym tree-dimension) shape-of;
    good = subst (λ (m : ℕ). GoodDiagram m (dia m (dia_tree n X))) (sym tree-dimension) (subst (GoodDiagram n) (sym (dia-dia_tree n X)) g);
  }

-- parallel diagrams have parallel trees
pub parallel_trees : (n : ℕ) (X Y : Dia n) → GoodDiagram n X → GoodDiagram n Y → Parallel n X Y → AreParallel (dia_tree n X) (dia_tree n Y)
parallel_trees zero X Y gX gY p =
    let a = tree-dimension zero X gX in
    let b = tree-dimension zero Y gY in
    record { dims = a ∙ sym b; sources = λ l. absurd (omega arith); targets = λ l. absurd (omega arith) }
parallel_trees (suc d) X Y gX gY p =
    let a = tree-dimension (suc d) X gX in
    let b = tree-dimension (suc d) Y gY in
    let first : (Z : Dia (suc d)) → GoodDiagram (suc d) Z → source_tree (dia_tree (suc d) Z) ≡ dia_tree d (reg d Z 0) =
    λ Z g. dia_tree-reg d Z 0 (let n = g.valid.regs_len in omega arith) in
    let last : (Z : Dia (suc d)) → GoodDiagram (suc d) Z → target_tree (dia_tree (suc d) Z) ≡ dia_tree d (reg d Z (length Z.sings)) =
    λ Z g. ap (reg_at (dia_tree (suc d) Z)) (dia_tree-sings_len d Z) ∙ dia_tree-reg d Z (length Z.sings) (let n = g.valid.regs_len in omega arith) in
    record {
      dims = a ∙ sym b;
      sources = λ l. first X gX ∙ ap (dia_tree d) p.sources ∙ sym (first Y gY);
      targets = λ l. last X gX ∙ ap (dia_tree d) p.targets ∙ sym (last Y gY);
    }

-- a good arrow between diagrams of the dimension of a tree has good trees
pub good_arrow_tree : (n : ℕ) (X Y : Dia n) (f : Arr n) → GoodArrow n X Y f → IsGoodArrowTree (dia_tree n X) (dia_tree n Y) (arr_tree n f)
good_arrow_tree n X Y f g =
    let shape : IsArrow n (arr_tree n f) = arrow_shape n f (valid_arrow_fits n X Y f g.valid) in
    let arrow_dim : dimension_of (arr_tree n f) ≡ n = arrow_dimension n (arr_tree n f) shape in
    let first : dimension_of (dia_tree n X) ≡ n = tree-dimension n X g.source in
    let last : dimension_of (dia_tree n Y) ≡ n = tree-dimension n Y g.target in
    record {
      source = good_tree n X g.source;
      target = good_tree n Y g.target;
      shape = subst (λ (m : ℕ). IsArrow m (arr_tree n f)) (sym arrow_dim) shape;
      target_dim = last ∙ sym first;
      arrow_dim = arrow_dim ∙ sym first;
      good = subst (λ (m : ℕ). GoodArrow m (dia m (dia_tree n X)) (dia m (dia_tree n Y)) (arr m (arr_tree n f))) (sym first)
          (subst (λ (Z : Dia n). GoodArrow n Z (dia n (dia_tree n Y)) (arr n (arr_tree n f))) (sym (dia-dia_tree n X))
          (subst (λ (Z : Dia n). GoodArrow n X Z (arr n (arr_tree n f))) (sym (dia-dia_tree n Y))
          (subst (GoodArrow n X Y) (sym (arr-arr_tree n f)) g)));
    }

-- the ends of a diagram that a tree holds are held by the ends of the tree
module _ (d : ℕ) (t : Tree) (shape : IsDiagram (suc d) t) where
  pub source-held : source d (dia (suc d) t) ≡ dia d (source_tree t)
  source-held = dia-reg d t shape 0 (omega arith)

  pub target-held : target d (dia (suc d) t) ≡ dia d (target_tree t)
  target-held = ap (reg d (dia (suc d) t)) (dia-sings_len d t) ∙ dia-reg d t shape (length (sings t)) (omega arith)

-- trees of parallel diagrams hold parallel diagrams
pub parallel_held : (d : ℕ) (s t : Tree) → IsDiagram d s → IsDiagram d t → AreParallel s t → Parallel d (dia d s) (dia d t)
parallel_held zero s t hs ht p = tt
parallel_held (suc d) s t hs ht p =
    let above : 0 < dimension_of s = (let e = diagram_dimension (suc d) s hs in omega arith) in
    record {
      sources = source-held d s hs ∙ ap (dia d) (p.sources above) ∙ sym (source-held d t ht);
      targets = target-held d s hs ∙ ap (dia d) (p.targets above) ∙ sym (target-held d t ht);
    }
