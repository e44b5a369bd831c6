-- The composite of two trees by its slices, and its shape.
use Rattle.std.proofs.Common.{◌≡◌, ℕ, zero, suc, ◌<◌, ◌≤◌, ◌+◌, List, [], ◌∷◌, ◌++◌, take, length, get_or, refl, sym, ap, subst, ◌∙◌, inl, inr, arith}
use Rattle.std.proofs.lemmas.Bool.{cases_lt}
use Rattle.std.proofs.lemmas.List.{take_more, map-append}
use Rattle.diagram_terms.specs.declared.label.Label.{Label}
use Rattle.diagram_terms.specs.Tree.{Tree, nil, ends, zag, heights, regs, sings, from_at-ends, to_at-ends}
use Rattle.diagram_terms.specs.Dual.{IsMonotone, AreBelow, dual, after, tab}
use Rattle.diagram_terms.specs.Family.{Arr, no_arr, reg, sing}
use Rattle.diagram_terms.specs.Composite.{comp}
use Rattle.diagram_terms.specs.Decoded.{dia, arr, arr_tree}
use Rattle.diagram_terms.specs.Shape.{IsArrow, reg_at, sing_at}
use Rattle.diagram_terms.specs.Dimension.{dimension_of, IsArrowTree}
use Rattle.diagram_terms.specs.Valid.{ValidArrow}
use Rattle.diagram_terms.proofs.Decisions.{dual_next}
use Rattle.diagram_terms.proofs.Dimensions.{arrow_dimension, arrow_tree, dimension_of-arrow_reg, dimension_of-arrow_sing}
use Rattle.diagram_terms.proofs.Duals.{dual-le-length, dual-zero, lt-dual, dual-lt, length-after, get-after, mono-after, length-tab, get-tab}
use Rattle.diagram_terms.proofs.Glue.{arr-regs_len, arr-sings_len, arr-reg, arr-sing}
use Rattle.diagram_terms.proofs.Parts.{comp-from, comp-to, comp-heights, comp-regs_len, comp-sings_len, comp-reg, comp-sing}
use Rattle.diagram_terms.proofs.Shapes.{IsArrow-ends, IsArrow-zag, one_diagram_dimension}
use Rattle.diagram_terms.specs.Operations.{composite_tree}
use Rattle.diagram_terms.specs.ValidTrees.{AreComposableAt, AreComposable, IsArrowBetween}
use Rattle.hashcons.proofs.OneMoreTree.{Grows-refl}
use Rattle.diagram_terms.proofs.NotionsOnTrees.{on_arrow_at}
use Rattle.hashcons.proofs.Growth.{Grows-trans, store-kept, diagram-kept, arrow-kept, diagram_at-kept, arrow_at-kept}
use Rattle.zigzag_maps.proofs.IdentitySlices.{slices_tab}

-- ---- heights

heights_above : (n : ℕ) (t : Tree) → IsArrow n t → 0 < n → IsMonotone (heights t)
heights_above zero t h l = absurd (omega arith)
heights_above (suc d) t h l = h.monotone

pub monotone_heights : (t : Tree) → IsArrowTree t → 0 < dimension_of t → IsMonotone (heights t)
monotone_heights t h l = heights_above (dimension_of t) t h l

-- one more height is below k
pub dual_more : (hs : List ℕ) (i k : ℕ) → IsMonotone hs → i < length hs → get_or hs i 0 < k → i + 1 ≤ dual hs k
dual_more hs i k m l e = let h = lt-dual hs m i k l e in omega arith

-- no further one is
pub dual_done : (hs : List ℕ) (i k : ℕ) → IsMonotone hs → i ≤ dual hs k → (i < length hs → k ≤ get_or hs i 0) → i ≡ dual hs k
dual_done hs i k m l e = elim (cases_lt i (dual hs k)) [
  | inl p ↦ absurd (let a = dual-lt hs m i k p in let b = dual-le-length hs k in let c = e (omega arith) in omega arith)
  | inr p ↦ omega arith
]

-- ---- the composite at the dimension of its parts

pub composite_tree-ends : (u v x y : Label) → composite_tree (ends u v) (ends x y) ≡ ends x v
composite_tree-ends u v x y =
    let g = arr zero (ends u v) in
    let f = arr zero (ends x y) in
    let p = from_at-ends x y in
    let q = to_at-ends u v in
    on_arrow_at _ zero (ends x y) (IsArrow-ends x y) ∙ (λ i. ends (comp-from g f i) (comp-to g f i)) ∙ (λ i. ends (p i) (q i))

-- ---- one level up

-- what the composite g f is made of
pub record HasComposite (P : Tree → Tree → Type 0) (g f : Tree) : Type 0 where
  pub middle_len : length (regs f) ≡ suc (length (heights g))
  pub outer_len : length (sings g) ≡ length (heights g)
  pub inner_len : length (sings f) ≡ length (heights f)
  pub within : AreBelow (heights f) (length (heights g))
  pub regs_are : (k : ℕ) → k < length (regs g) → P (reg_at g k) (reg_at f (dual (heights g) k))
  pub sings_are : (i : ℕ) → i < length (heights f) → P (sing_at g (get_or (heights f) i 0)) (sing_at f i)
  pub tree : composite_tree g f ≡ zag (after (heights g) (heights f))
      (tab (λ k. composite_tree (reg_at g k) (reg_at f (dual (heights g) k))) (length (regs g)))
      (tab (λ i. composite_tree (sing_at g (get_or (heights f) i 0)) (sing_at f i)) (length (heights f)))

module _ (d : ℕ) (g f : Tree) (c : AreComposableAt (suc d) g f) where
  middle_is : length (regs f) ≡ suc (length (heights g))
  middle_is =
      let a = arr-regs_len d f in
      let b = c.inner_valid.regs_len in
      let e = c.outer_valid.heights_len in
      omega arith

  heights_within : AreBelow (heights f) (length (heights g))
  heights_within = record { below = λ i l. (let a = c.inner_valid.below.below i l in let b = c.outer_valid.heights_len in omega arith) }

  reg_within : (k : ℕ) → dual (heights g) k < length (regs f)
  reg_within k = let a = middle_is in let b = dual-le-length (heights g) k in omega arith

  sing_within : (i : ℕ) → i < length (heights f) → get_or (heights f) i 0 < length (sings g)
  sing_within i l = let a = heights_within.below i l in let b = c.outer.sings_len in omega arith

  inner_within : (i : ℕ) → i < length (heights f) → i < length (sings f)
  inner_within i l = let a = c.inner.sings_len in omega arith

  reg_composable : (k : ℕ) → k < length (regs g) → AreComposableAt d (reg_at g k) (reg_at f (dual (heights g) k))
  reg_composable k l =
      let j = dual (heights g) k in
      let m = reg_within k in
      let a = arr-regs_len d g in
      let b = c.outer_valid.regs_len in
      let e = arr-regs_len d f in
      let n = c.inner_valid.regs_len in
      record {
        outer = c.outer.regs_are k l;
        inner = c.inner.regs_are j m;
        source = reg d c.source (dual (heights f) j);
        middle = reg d c.middle j;
        target = reg d c.target k;
        inner_valid = subst (ValidArrow d _ _) (arr-reg d f j m) (c.inner_valid.regs j (omega arith));
        outer_valid = subst (ValidArrow d _ _) (arr-reg d g k l) (c.outer_valid.regs k (omega arith));
      }

  sing_composable : (i : ℕ) → i < length (heights f) → AreComposableAt d (sing_at g (get_or (heights f) i 0)) (sing_at f i)
  sing_composable i l =
      let j = get_or (heights f) i 0 in
      let m = inner_within i l in
      let n = sing_within i l in
      let a = c.inner_valid.heights_len in
      let b = c.inner_valid.below.below i l in
      record {
        outer = c.outer.sings_are j n;
        inner = c.inner.sings_are i m;
        source = sing d c.source i;
        middle = sing d c.middle j;
        target = sing d c.target (get_or (heights g) j 0);
        inner_valid = subst (ValidArrow d _ _) (arr-sing d f i m) (c.inner_valid.sings i (omega arith));
        outer_valid = subst (ValidArrow d _ _) (arr-sing d g j n) (c.outer_valid.sings j b);
      }

  above_is : composite_tree g f ≡ zag (after (heights g) (heights f))
      (tab (λ k. composite_tree (reg_at g k) (reg_at f (dual (heights g) k))) (length (regs g)))
      (tab (λ i. composite_tree (sing_at g (get_or (heights f) i 0)) (sing_at f i)) (length (heights f)))
  above_is =
      let G : Arr (suc d) = arr (suc d) g in
      let F : Arr (suc d) = arr (suc d) f in
      let C : Arr (suc d) = comp (suc d) G F in
      let rl = comp-regs_len d G F ∙ arr-regs_len d g in
      let sl = comp-sings_len d G F ∙ arr-sings_len d f ∙ c.inner.sings_len in
      let hs : C.heights ≡ after (heights g) (heights f) = comp-heights d G F in
      let rs = slices_tab (length (regs g)) C.regs (no_arr d) (arr_tree d) (λ k. composite_tree (reg_at g k) (reg_at f (dual (heights g) k))) rl
      (λ k l. (let p = arr-reg d g k l in
      let q = arr-reg d f (dual (heights g) k) (reg_within k) in
      let m : k < length G.regs = omega (arith, arr-regs_len d g) in
      ap (arr_tree d) (comp-reg d G F k m ∙ (λ i. comp d (p i) (q i)))
      ∙ sym (on_arrow_at _ d (reg_at f (dual (heights g) k)) (c.inner.regs_are (dual (heights g) k) (reg_within k)))))
      in
      let ss = slices_tab (length (heights f)) C.sings (no_arr d) (arr_tree d) (λ i. composite_tree (sing_at g (get_or (heights f) i 0)) (sing_at f i)) sl
      (λ i l. (let p = arr-sing d g (get_or (heights f) i 0) (sing_within i l) in
      let q = arr-sing d f i (inner_within i l) in
      let m : i < length F.sings = omega (arith, arr-sings_len d f, inner_within i l) in
      ap (arr_tree d) (comp-sing d G F i m ∙ (λ i. comp d (p i) (q i)))
      ∙ sym (on_arrow_at _ d (sing_at f i) (c.inner.sings_are i (inner_within i l)))))
      in
      on_arrow_at _ (suc d) f c.inner ∙ (λ i. zag (hs i) (rs i) (ss i))

  has_composite_above : HasComposite (AreComposableAt d) g f
  has_composite_above = record {
    middle_len = middle_is;
    outer_len = c.outer.sings_len;
    inner_len = c.inner.sings_len;
    within = heights_within;
    regs_are = reg_composable;
    sings_are = sing_composable;
    tree = above_is;
  }

some_dimension : (d : ℕ) (g f : Tree) → HasComposite (AreComposableAt d) g f → HasComposite AreComposable g f
some_dimension d g f h = record {
  middle_len = h.middle_len;
  outer_len = h.outer_len;
  inner_len = h.inner_len;
  within = h.within;
  regs_are = λ k l. record { dim = d; at_dim = h.regs_are k l };
  sings_are = λ i l. record { dim = d; at_dim = h.sings_are i l };
  tree = h.tree;
}

has_composite_at : (d : ℕ) (g f : Tree) → AreComposableAt d g f → 0 < d → HasComposite AreComposable g f
has_composite_at zero g f c l = absurd (omega arith)
has_composite_at (suc d) g f c l = some_dimension d g f (has_composite_above d g f c)

pub has_composite : (g f : Tree) → AreComposable g f → 0 < dimension_of f → HasComposite AreComposable g f
has_composite g f c l = has_composite_at c.dim g f c.at_dim (omega (arith, arrow_dimension c.dim f c.at_dim.inner))

-- ---- its shape

pub composite_shape : (d : ℕ) (g f : Tree) → AreComposableAt d g f → IsArrow d (composite_tree g f)
composite_shape zero g f c = subst (IsArrow zero) (sym (on_arrow_at _ zero f c.inner)) (IsArrow-ends _ _)
composite_shape (suc d) g f c =
    let has = has_composite_above d g f c in
    let r = λ (k : ℕ). composite_tree (reg_at g k) (reg_at f (dual (heights g) k)) in
    let s = λ (i : ℕ). composite_tree (sing_at g (get_or (heights f) i 0)) (sing_at f i) in
    let lr = length-tab r (length (regs g)) in
    let ls = length-tab s (length (heights f)) in
    let la = length-after (heights g) (heights f) in
    subst (IsArrow (suc d)) (sym has.tree)
    (IsArrow-zag d (after (heights g) (heights f)) (tab r (length (regs g))) (tab s (length (heights f))) (record {
      regs_len = omega (arith, c.outer.regs_len);
      sings_len = omega arith;
      monotone = mono-after (heights g) (heights f) c.outer.monotone c.inner.monotone has.within;
      below = λ i l. (let m : i < length (heights f) = omega arith in
          omega (arith, get-after (heights g) (heights f) i m, c.outer.below (get_or (heights f) i 0) (has.within.below i m)));
      regs_are = λ k l. (let m : k < length (regs g) = omega arith in
          subst (IsArrow d) (sym (get-tab r (length (regs g)) k nil m)) (composite_shape d (reg_at g k) (reg_at f (dual (heights g) k)) (has.regs_are k m)));
      sings_are = λ i l. (let m : i < length (heights f) = omega arith in
          subst (IsArrow d) (sym (get-tab s (length (heights f)) i nil m)) (composite_shape d (sing_at g (get_or (heights f) i 0)) (sing_at f i) (has.sings_are i m)));
    }))

pub IsArrowTree-composite_tree : (g f : Tree) → AreComposable g f → IsArrowTree (composite_tree g f)
IsArrowTree-composite_tree g f c = arrow_tree c.dim (composite_tree g f) (composite_shape c.dim g f c.at_dim)

-- ---- lists of heights

pub after-none : (g : List ℕ) → after g [] ≡ []
unfolding after
after-none g = refl

pub after-more : (g f : List ℕ) (i h : ℕ) → i < length f → h ≡ get_or g (get_or f i 0) 0 → after g (take (i + 1) f) ≡ after g (take i f) ++ h ∷ []
unfolding after
after-more g f i h l e =
    ap (after g) (take_more f i 0 l) ∙ map-append (λ i. get_or g i 0) (take i f) (get_or f i 0 ∷ []) ∙ ap (λ n. after g (take i f) ++ n ∷ []) (sym e)

-- ---- for a program

-- both have one dimension
pub composable-dimension : (g f : Tree) → AreComposable g f → dimension_of g ≡ dimension_of f
composable-dimension g f c = arrow_dimension c.dim g c.at_dim.outer ∙ sym (arrow_dimension c.dim f c.at_dim.inner)

-- valid arrows that meet can be composed
pub composable_between_at : (s m t g f : Tree) (a : IsArrowBetween s m f) → IsArrowBetween m t g → AreComposableAt a.dim g f
composable_between_at s m t g f a b =
    let d = a.dim in
    let e : b.dim ≡ d = one_diagram_dimension b.dim d m b.at_dim.source a.at_dim.target in
    record {
      outer = subst (λ n. IsArrow n g) e b.at_dim.shape;
      inner = a.at_dim.shape;
      source = dia d s;
      middle = dia d m;
      target = dia d t;
      inner_valid = a.at_dim.valid;
      outer_valid = subst (λ n. ValidArrow n (dia n m) (dia n t) (arr n g)) e b.at_dim.valid;
    }

pub composable_between : (s m t g f : Tree) → IsArrowBetween s m f → IsArrowBetween m t g → AreComposable g f
composable_between s m t g f a b = record { dim = a.dim; at_dim = composable_between_at s m t g f a b }

pub composable-middle : (g f : Tree) → AreComposable g f → 0 < dimension_of f → length (regs f) ≡ suc (length (heights g))
composable-middle g f c l = (has_composite g f c l).middle_len

pub composable-outer_sings : (g f : Tree) → AreComposable g f → 0 < dimension_of f → length (sings g) ≡ length (heights g)
composable-outer_sings g f c l = (has_composite g f c l).outer_len

pub composable-inner_sings : (g f : Tree) → AreComposable g f → 0 < dimension_of f → length (sings f) ≡ length (heights f)
composable-inner_sings g f c l = (has_composite g f c l).inner_len

pub composable-height : (g f : Tree) (i : ℕ) → AreComposable g f → 0 < dimension_of f → i < length (heights f) → get_or (heights f) i 0 < length (heights g)
composable-height g f i c l k = (has_composite g f c l).within.below i k

pub composable-reg : (g f : Tree) (k : ℕ) → AreComposable g f → 0 < dimension_of f → k < length (regs g) → AreComposable (reg_at g k) (reg_at f (dual (heights g) k))
composable-reg g f k c l m = (has_composite g f c l).regs_are k m

pub composable-sing : (g f : Tree) (i : ℕ) → AreComposable g f → 0 < dimension_of f → i < length (heights f)
    → AreComposable (sing_at g (get_or (heights f) i 0)) (sing_at f i)
composable-sing g f i c l m = (has_composite g f c l).sings_are i m

regs_above : (n : ℕ) (t : Tree) → IsArrow n t → 0 < n → 0 < length (regs t)
regs_above zero t h l = absurd (omega arith)
regs_above (suc d) t h l = h.regs_len

pub arrow-regs : (t : Tree) → IsArrowTree t → 0 < dimension_of t → 0 < length (regs t)
arrow-regs t h l = regs_above (dimension_of t) t h l

pub ruleset composes = (Grows-refl, Grows-trans, diagram-kept, arrow-kept, diagram_at-kept, arrow_at-kept, composable-dimension, composable-middle, composable-outer_sings, composable-inner_sings, composable-height, composable-reg, composable-sing, arrow-regs, dual-le-length, dual_next, dual-zero, monotone_heights, dimension_of-arrow_reg, dimension_of-arrow_sing)

-- no height is below 0
pub zero_dual : (t : Tree) → IsArrowTree t → 0 < dimension_of t → 0 ≡ dual (heights t) 0
zero_dual t h l = sym (dual-zero (heights t) (monotone_heights t h l))
