-- The cone over a tree by its slices, where it ends, and the type over two trees; and their shapes.
use Rattle.std.proofs.Common.{◌≡◌, ℕ, zero, suc, ◌<◌, List, [], ◌∷◌, map, length, get_or, replicate, refl, sym, ap, subst, ◌∙◌, arith}
use Rattle.std.proofs.lemmas.List.{get_or-map, length-map, length-replicate, get_or-replicate}
use Rattle.std.proofs.lemmas.Simd.{splat_is_map}
use Rattle.diagram_terms.specs.declared.label.Label.{Label}
use Rattle.diagram_terms.specs.OnTrees.{on_diagram}
use Rattle.diagram_terms.specs.Tree.{Tree, nil, point, zig, ends, zag, sings, label_at-point}
use Rattle.diagram_terms.specs.Dual.{tab}
use Rattle.diagram_terms.specs.Family.{Dia, Arr, no_dia, no_arr, reg, sing, arrow_sing}
use Rattle.diagram_terms.specs.Composite.{ident, identity_diagram}
use Rattle.diagram_terms.specs.Cone.{source, target, cone, mid, type_over}
use Rattle.diagram_terms.specs.Decoded.{dia, arr_tree, dia_tree}
use Rattle.diagram_terms.specs.Dimension.{dimension_of, IsDiagramTree, IsArrowTree}
use Rattle.diagram_terms.specs.Nodes.{picked}
use Rattle.diagram_terms.specs.Shape.{IsDiagram, IsArrow, sing_at}
use Rattle.diagram_terms.specs.Slices.{source_tree, target_tree}
use Rattle.diagram_terms.proofs.Dimensions.{diagram_dimension, diagram_tree, arrow_tree}
use Rattle.diagram_terms.proofs.Duals.{length-tab, get-tab}
use Rattle.diagram_terms.proofs.Glue.{dia_tree-dia, dia-sings_len, dia-reg, dia-sing}
use Rattle.diagram_terms.proofs.Shapes.{IsDiagram-point, IsDiagram-zig, IsArrow-ends, IsArrow-zag}
use Rattle.diagram_terms.specs.Operations.{identity_tree}
use Rattle.zigzag_maps.proofs.IdentitySlices.{identity_shape, slices_tab}
use Rattle.diagram_terms.proofs.NotionsOnTrees.{on_diagram_at}
use Rattle.hashcons.specs.Contents.{Contents, IsStore, IsDiagramOf, diagram_at}
use Rattle.diagram_terms.specs.ConeTrees.{identity_diagram_tree, cone_tree, mid_tree, type_tree}

-- ---- the parts of a cone

cone-from : (y x : Label) → (cone zero y x).from ≡ y
unfolding cone
cone-from y x = refl

cone-to : (y x : Label) → (cone zero y x).to ≡ x
unfolding cone
cone-to y x = refl

module _ (d : ℕ) (D : Dia (suc d)) (x : Label) where
  cone-heights : (cone (suc d) D x).heights ≡ replicate (length D.sings) 0
  unfolding cone
  cone-heights = sym (splat_is_map D.sings (length D.sings) 0 refl)

  cone-regs : (cone (suc d) D x).regs ≡ ident d (source d D) ∷ ident d (target d D) ∷ []
  unfolding cone
  cone-regs = refl

  cone-sings_len : length (cone (suc d) D x).sings ≡ length D.sings
  unfolding cone
  cone-sings_len = length-map D.sings (λ s. cone d s x)

  cone-sing : (i : ℕ) → i < length D.sings → arrow_sing d (cone (suc d) D x) i ≡ cone d (sing d D i) x
  unfolding cone
  cone-sing i l = get_or-map (λ s. cone d s x) D.sings i (no_dia d) (no_arr d) l

  mid-above : mid (suc d) D x ≡ type_over d (source d D) (target d D) x
  unfolding mid type_over
  mid-above = refl

mid-zero : (y x : Label) → mid zero y x ≡ x
unfolding mid
mid-zero y x = refl

-- ---- at the dimension of a diagram

pub identity_diagram_tree_at : (d : ℕ) (t : Tree) → IsDiagram d t → identity_diagram_tree t ≡ dia_tree (suc d) (identity_diagram d (dia d t))
unfolding identity_diagram_tree on_diagram
identity_diagram_tree_at d t h = ap (λ n. dia_tree (suc n) (identity_diagram n (dia n t))) (diagram_dimension d t h)

pub cone_tree_at : (d : ℕ) (t : Tree) (x : Label) → IsDiagram d t → cone_tree t x ≡ arr_tree d (cone d (dia d t) x)
unfolding cone_tree on_diagram
cone_tree_at d t x h = ap (λ n. arr_tree n (cone n (dia n t) x)) (diagram_dimension d t h)

pub mid_tree_at : (d : ℕ) (t : Tree) (x : Label) → IsDiagram d t → mid_tree t x ≡ dia_tree d (mid d (dia d t) x)
unfolding mid_tree on_diagram
mid_tree_at d t x h = ap (λ n. dia_tree n (mid n (dia n t) x)) (diagram_dimension d t h)

pub type_tree_at : (d : ℕ) (s t : Tree) (x : Label) → IsDiagram d s → type_tree s t x ≡ dia_tree (suc d) (type_over d (dia d s) (dia d t) x)
unfolding type_tree on_diagram
type_tree_at d s t x h = ap (λ n. dia_tree (suc n) (type_over n (dia n s) (dia n t) x)) (diagram_dimension d s h)

-- ---- over a label

pub cone_tree-point : (y x : Label) → cone_tree (point y) x ≡ ends y x
cone_tree-point y x =
    let z = dia zero (point y) in
    cone_tree_at zero (point y) x (IsDiagram-point y) ∙ (λ i. ends (cone-from z x i) (cone-to z x i)) ∙ ap (λ w. ends w x) (label_at-point y)

pub mid_tree-point : (y x : Label) → mid_tree (point y) x ≡ point x
mid_tree-point y x = mid_tree_at zero (point y) x (IsDiagram-point y) ∙ ap point (mid-zero (dia zero (point y)) x)

-- ---- one level up

pub identity_diagram_tree-is : (d : ℕ) (t : Tree) → IsDiagram d t → identity_diagram_tree t ≡ zig (t ∷ []) [] [] []
identity_diagram_tree-is d t h =
    let e = dia_tree-dia d t h in
    identity_diagram_tree_at d t h ∙ (λ i. zig (e i ∷ []) [] [] [])

pub type_tree-is : (d : ℕ) (s t : Tree) (x : Label) → IsDiagram d s → IsDiagram d t
    → type_tree s t x ≡ zig (s ∷ t ∷ []) (mid_tree s x ∷ []) (cone_tree s x ∷ []) (cone_tree t x ∷ [])
unfolding type_over
type_tree-is d s t x h k =
    let a = dia_tree-dia d s h in
    let b = dia_tree-dia d t k in
    let m = sym (mid_tree_at d s x h) in
    let f = sym (cone_tree_at d s x h) in
    let g = sym (cone_tree_at d t x k) in
    type_tree_at d s t x h ∙ (λ i. zig (a i ∷ b i ∷ []) (m i ∷ []) (f i ∷ []) (g i ∷ []))

module _ (d : ℕ) (t : Tree) (h : IsDiagram (suc d) t) where
  pub source_is : source d (dia (suc d) t) ≡ dia d (source_tree t)
  source_is = dia-reg d t h 0 (omega arith)

  pub target_is : target d (dia (suc d) t) ≡ dia d (target_tree t)
  target_is = ap (reg d (dia (suc d) t)) (dia-sings_len d t) ∙ dia-reg d t h (length (sings t)) (omega arith)

  pub source_shape : IsDiagram d (source_tree t)
  source_shape = h.regs_are 0 (omega arith)

  pub target_shape : IsDiagram d (target_tree t)
  target_shape = h.regs_are (length (sings t)) (omega arith)

  pub mid_tree-above : (x : Label) → mid_tree t x ≡ type_tree (source_tree t) (target_tree t) x
  mid_tree-above x =
      mid_tree_at (suc d) t x h ∙ ap (dia_tree (suc d)) (mid-above d (dia (suc d) t) x ∙ (λ i. type_over d (source_is i) (target_is i) x))
      ∙ sym (type_tree_at d (source_tree t) (target_tree t) x source_shape)

  pub cone_tree-above : (x : Label)
      → cone_tree t x ≡ zag (replicate (length (sings t)) 0) (identity_tree (source_tree t) ∷ identity_tree (target_tree t) ∷ [])
      (tab (λ i. cone_tree (sing_at t i) x) (length (sings t)))
  cone_tree-above x =
      let D : Dia (suc d) = dia (suc d) t in
      let f : Arr (suc d) = cone (suc d) D x in
      let n = dia-sings_len d t in
      let l = cone-sings_len d D x in
      let hs : f.heights ≡ replicate (length (sings t)) 0 = cone-heights d D x ∙ ap (λ k. replicate k 0) n in
      let p = ap (λ X. arr_tree d (ident d X)) source_is ∙ sym (on_diagram_at _ d (source_tree t) source_shape) in
      let q = ap (λ X. arr_tree d (ident d X)) target_is ∙ sym (on_diagram_at _ d (target_tree t) target_shape) in
      let rs : map (arr_tree d) f.regs ≡ identity_tree (source_tree t) ∷ identity_tree (target_tree t) ∷ [] =
      ap (map (arr_tree d)) (cone-regs d D x) ∙ (λ i. p i ∷ q i ∷ [])
      in
      let ss : map (arr_tree d) f.sings ≡ tab (λ i. cone_tree (sing_at t i) x) (length (sings t)) =
      slices_tab (length (sings t)) f.sings (no_arr d) (arr_tree d) (λ i. cone_tree (sing_at t i) x) (omega arith)
      (λ i m. ap (arr_tree d) (cone-sing d D x i (omega arith) ∙ ap (λ X. cone d X x) (dia-sing d t h i m))
      ∙ sym (cone_tree_at d (sing_at t i) x (h.sings_are i m)))
      in
      cone_tree_at (suc d) t x h ∙ (λ i. zag (hs i) (rs i) (ss i))

-- ---- shapes

-- what is true of the one or of both trees of a list
each_of_one : (P : Tree → Type 0) (a : Tree) → P a → (j : ℕ) → j < 1 → P (get_or (a ∷ []) j nil)
each_of_one P a p zero l = p
each_of_one P a p (suc j) l = absurd (omega arith)

each_of_two : (P : Tree → Type 0) (a b : Tree) → P a → P b → (j : ℕ) → j < 2 → P (get_or (a ∷ b ∷ []) j nil)
each_of_two P a b p q zero l = p
each_of_two P a b p q (suc zero) l = q
each_of_two P a b p q (suc (suc j)) l = absurd (omega arith)

pub identity_diagram_shape : (d : ℕ) (t : Tree) → IsDiagram d t → IsDiagram (suc d) (identity_diagram_tree t)
identity_diagram_shape d t h =
    subst (IsDiagram (suc d)) (sym (identity_diagram_tree-is d t h))
    (IsDiagram-zig d (t ∷ []) [] [] [] (record {
      regs_len = refl;
      fwds_len = refl;
      bwds_len = refl;
      regs_are = each_of_one (IsDiagram d) t h;
      sings_are = λ i l. absurd (omega arith);
      fwds_are = λ i l. absurd (omega arith);
      bwds_are = λ i l. absurd (omega arith);
    }))

zero_at : (n i : ℕ) → i < n → ◌≡◌ {A = ℕ} (get_or (replicate n 0) i 0) 0
zero_at n i l = get_or-replicate n i 0 0 l

pub cone_shape : (d : ℕ) (t : Tree) (x : Label) → IsDiagram d t → IsArrow d (cone_tree t x)
cone_shape zero t x h = subst (IsArrow zero) (sym (cone_tree_at zero t x h)) (IsArrow-ends _ _)
cone_shape (suc d) t x h =
    let n = length (sings t) in
    let s = λ (i : ℕ). cone_tree (sing_at t i) x in
    let ls = length-tab s n in
    let lh : length (replicate {A = ℕ} n 0) ≡ n = length-replicate n 0 in
    subst (IsArrow (suc d)) (sym (cone_tree-above d t h x))
    (IsArrow-zag d (replicate n 0) (identity_tree (source_tree t) ∷ identity_tree (target_tree t) ∷ []) (tab s n) (record {
      regs_len = omega arith;
      sings_len = omega arith;
      monotone = record { rises = λ i j l m. (let k : j < n = omega arith in omega (arith, zero_at n i (omega arith), zero_at n j k)) };
      below = λ i l. (let k : i < n = omega arith in omega (arith, zero_at n i k));
      regs_are = each_of_two (IsArrow d) _ _ (identity_shape d _ (source_shape d t h)) (identity_shape d _ (target_shape d t h));
      sings_are = λ i l. (let m : i < n = omega arith in
          subst (IsArrow d) (sym (get-tab s n i nil m)) (cone_shape d (sing_at t i) x (h.sings_are i m)));
    }))

type_shape_with : (d : ℕ) (s t : Tree) (x : Label) → IsDiagram d s → IsDiagram d t → IsDiagram d (mid_tree s x) → IsDiagram (suc d) (type_tree s t x)
type_shape_with d s t x h k m =
    subst (IsDiagram (suc d)) (sym (type_tree-is d s t x h k))
    (IsDiagram-zig d (s ∷ t ∷ []) (mid_tree s x ∷ []) (cone_tree s x ∷ []) (cone_tree t x ∷ []) (record {
      regs_len = refl;
      fwds_len = refl;
      bwds_len = refl;
      regs_are = each_of_two (IsDiagram d) s t h k;
      sings_are = each_of_one (IsDiagram d) (mid_tree s x) m;
      fwds_are = each_of_one (IsArrow d) (cone_tree s x) (cone_shape d s x h);
      bwds_are = each_of_one (IsArrow d) (cone_tree t x) (cone_shape d t x k);
    }))

pub mid_shape : (d : ℕ) (t : Tree) (x : Label) → IsDiagram d t → IsDiagram d (mid_tree t x)
mid_shape zero t x h = subst (IsDiagram zero) (sym (mid_tree_at zero t x h)) (IsDiagram-point _)
mid_shape (suc d) t x h =
    subst (IsDiagram (suc d)) (sym (mid_tree-above d t h x))
    (type_shape_with d (source_tree t) (target_tree t) x (source_shape d t h) (target_shape d t h) (mid_shape d (source_tree t) x (source_shape d t h)))

pub type_shape : (d : ℕ) (s t : Tree) (x : Label) → IsDiagram d s → IsDiagram d t → IsDiagram (suc d) (type_tree s t x)
type_shape d s t x h k = type_shape_with d s t x h k (mid_shape d s x h)

pub IsArrowTree-cone_tree : (t : Tree) (x : Label) → IsDiagramTree t → IsArrowTree (cone_tree t x)
IsArrowTree-cone_tree t x h = arrow_tree (dimension_of t) (cone_tree t x) (cone_shape (dimension_of t) t x h)

pub IsDiagramTree-identity_diagram_tree : (t : Tree) → IsDiagramTree t → IsDiagramTree (identity_diagram_tree t)
IsDiagramTree-identity_diagram_tree t h = diagram_tree (suc (dimension_of t)) (identity_diagram_tree t) (identity_diagram_shape (dimension_of t) t h)

-- a node with the one regular slice d
pub described_identity : (c : Contents) (d : ℕ) (rs ss fs bs : List ℕ) → IsStore c → IsDiagramOf c d → rs ≡ d ∷ [] → ss ≡ [] → fs ≡ [] → bs ≡ []
    → zig (picked c.diagrams rs) (picked c.diagrams ss) (picked c.arrows fs) (picked c.arrows bs) ≡ identity_diagram_tree (diagram_at c d)
described_identity c d rs ss fs bs store l p q r s =
    let t = diagram_at c d in
    (λ i. zig (picked c.diagrams (p i)) (picked c.diagrams (q i)) (picked c.arrows (r i)) (picked c.arrows (s i)))
    ∙ sym (identity_diagram_tree-is (dimension_of t) t (store.diagrams d l))
