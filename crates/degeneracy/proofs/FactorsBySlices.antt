-- The factor of a tree through another by their slices, and its shape.
use Rattle.std.proofs.Common.{◌≡◌, ℕ, zero, suc, ◌<◌, ◌-◌, List, map, length, get_or, Bool, true, false, ◌&&◌, refl, sym, ap, subst, ◌∙◌, inl, inr, arith}
use Rattle.std.specs.List.{list_all}
use Rattle.std.proofs.lemmas.Bool.{cases_lt, cases_Bool, and_parts, and_from, ltb-true}
use Rattle.std.proofs.lemmas.List.{get_or-map, length-map, get_or_default, get_or_past}
use Rattle.diagram_terms.specs.declared.label.Label.{Label}
use Rattle.diagram_terms.specs.Tree.{Tree, nil, ends, zag, heights, regs, sings, from_at-ends}
use Rattle.diagram_terms.specs.Dual.{IsMonotone, upto, dual, tab}
use Rattle.diagram_terms.specs.Family.{Arr, no_arr, reg, sing, arrow_reg, arrow_sing}
use Rattle.diagram_terms.specs.Decoded.{arr, arr_tree}
use Rattle.diagram_terms.specs.Shape.{IsArrow, reg_at, sing_at}
use Rattle.diagram_terms.specs.Dimension.{dimension_of, IsArrowTree}
use Rattle.diagram_terms.specs.Valid.{ValidArrow}
use Rattle.diagram_terms.proofs.Decisions.{list_all_to, list_all_from}
use Rattle.diagram_terms.proofs.Dimensions.{arrow_dimension, arrow_tree}
use Rattle.diagram_terms.proofs.Duals.{dual-le-length, dual_mono, in_fibre, length-tab, get-tab}
use Rattle.diagram_terms.proofs.Glue.{arr-regs_len, arr-sings_len, arr-reg, arr-sing}
use Rattle.diagram_terms.proofs.Shapes.{IsArrow-ends, IsArrow-zag}
use Rattle.diagram_terms.specs.Factors.{has_factor, factor_through, regular_over}
use Rattle.normal_form_laws.proofs.Members.{all_in}
use Rattle.diagram_terms.proofs.Injections.{contains_at}
use Rattle.zigzag_maps.proofs.IdentitySlices.{slices_tab}
use Rattle.degeneracy.specs.FactorTrees.{factors_tree, factor_tree, AreIntoOneAt, AreIntoOne, is_hit, are_hit, regs_factor, sings_factor, reg_factor, sing_factor, height_over}

-- ---- at the dimension of the arrows

pub factor_tree_at : (d : ℕ) (e f : Tree) → IsArrow d f → factor_tree e f ≡ arr_tree d (factor_through d (arr d e) (arr d f))
unfolding factor_tree
factor_tree_at d e f h = ap (λ n. arr_tree n (factor_through n (arr n e) (arr n f))) (arrow_dimension d f h)

pub factors_tree_at : (d : ℕ) (e f : Tree) → IsArrow d f → factors_tree e f ≡ has_factor d (arr d e) (arr d f)
unfolding factors_tree
factors_tree_at d e f h = ap (λ n. has_factor n (arr n e) (arr n f)) (arrow_dimension d f h)

pub factors_zero : (e f : Tree) → IsArrow zero f → factors_tree e f ≡ true
unfolding has_factor
factors_zero e f h = factors_tree_at zero e f h

base_is : (e f : Arr zero) → arr_tree zero (factor_through zero e f) ≡ ends f.from e.from
unfolding factor_through
base_is e f = refl

pub factor_tree-ends : (u v x y : Label) → factor_tree (ends u v) (ends x y) ≡ ends x u
factor_tree-ends u v x y =
    let p = from_at-ends x y in
    let q = from_at-ends u v in
    factor_tree_at zero (ends u v) (ends x y) (IsArrow-ends x y) ∙ base_is (arr zero (ends u v)) (arr zero (ends x y)) ∙ (λ i. ends (p i) (q i))

-- ---- one level up

-- what the test and the factor are made of
pub record HasFactor (P : Tree → Tree → Type 0) (e f : Tree) : Type 0 where
  pub target_len : length (regs f) ≡ length (regs e)
  pub outer_len : length (sings e) ≡ length (heights e)
  pub inner_len : length (sings f) ≡ length (heights f)
  pub regs_pos : 0 < length (regs e)
  pub outer_monotone : IsMonotone (heights e)
  pub inner_monotone : IsMonotone (heights f)
  pub outer_below : (j : ℕ) → j < length (heights e) → suc (get_or (heights e) j 0) < length (regs e)
  pub regs_are : (k : ℕ) → k < length (regs e) → P (reg_at e k) (reg_at f k)
  pub sings_are : are_hit (heights e) (heights f) ≡ true → (i : ℕ) → i < length (heights f)
      → P (sing_at e (dual (heights e) (get_or (heights f) i 0))) (sing_at f i)
  pub no_heights : are_hit (heights e) (heights f) ≡ false → factors_tree e f ≡ false
  pub test : are_hit (heights e) (heights f) ≡ true → factors_tree e f ≡ (regs_factor e f && sings_factor e f)
  pub tree : are_hit (heights e) (heights f) ≡ true → factor_tree e f ≡ zag (map (dual (heights e)) (heights f))
      (tab (λ j. reg_factor e f (height_over e j)) (suc (length (heights e))))
      (tab (sing_factor e f) (length (heights f)))

-- a height that is hit is hit by one of the list
pub hit_is : (es : List ℕ) (h : ℕ) → IsMonotone es → dual es h < dual es (suc h)
    → (dual es h < length es) × (get_or es (dual es h) 0 ≡ h)
hit_is es h m l = (let a = dual-le-length es (suc h) in omega arith, in_fibre es m (dual es h) h (omega arith) l)

-- each of the heights is, if all are
pub hit_at : (es hs : List ℕ) (i : ℕ) → are_hit es hs ≡ true → i < length hs → dual es (get_or hs i 0) < dual es (suc (get_or hs i 0))
hit_at es hs i h l = ltb-true _ _ (all_in (is_hit es) hs (get_or hs i 0) h (contains_at hs i (get_or hs i 0) l refl))

-- tests that agree below n
same_tests : (n : ℕ) (p q : ℕ → Bool) → ((i : ℕ) → i < n → p i ≡ q i) → list_all p (upto n) ≡ list_all q (upto n)
same_tests n p q h = elim (cases_Bool (list_all q (upto n))) [
  | inl t ↦ list_all_from p 0 n (λ i a l. h i (omega arith) ∙ list_all_to q 0 n t i a l) ∙ sym t
  | inr t ↦ elim (cases_Bool (list_all p (upto n))) [
    | inl s ↦ let u = list_all_from q 0 n (λ i a l. sym (h i (omega arith)) ∙ list_all_to p 0 n s i a l) in absurd (cc)
    | inr s ↦ s ∙ sym t
  ]
]

module _ (d : ℕ) (e f : Tree) (c : AreIntoOneAt (suc d) e f) where
  target_is : length (regs f) ≡ length (regs e)
  target_is =
      let a = arr-regs_len d e in
      let b = arr-regs_len d f in
      let l = c.outer_valid.regs_len in
      let m = c.inner_valid.regs_len in
      omega arith

  reg_pair : (k : ℕ) → k < length (regs e) → AreIntoOneAt d (reg_at e k) (reg_at f k)
  reg_pair k l =
      let a = arr-regs_len d e in
      let b = c.outer_valid.regs_len in
      let t = target_is in
      let m : k < length (regs f) = omega arith in
      record {
        outer = c.outer.regs_are k l;
        inner = c.inner.regs_are k m;
        middle = reg d c.middle (dual (heights e) k);
        source = reg d c.source (dual (heights f) k);
        target = reg d c.target k;
        outer_valid = subst (ValidArrow d _ _) (arr-reg d e k l) (c.outer_valid.regs k (omega arith));
        inner_valid = subst (ValidArrow d _ _) (arr-reg d f k m) (c.inner_valid.regs k (omega arith));
      }

  module _ (hit : are_hit (heights e) (heights f) ≡ true) where
    place : (i : ℕ) → i < length (heights f) → dual (heights e) (get_or (heights f) i 0) < length (sings e)
    place i l =
        let h = (hit_is (heights e) (get_or (heights f) i 0) c.outer.monotone (hit_at (heights e) (heights f) i hit l)).0 in
        let a = c.outer.sings_len in
        omega arith

    inner_within : (i : ℕ) → i < length (heights f) → i < length (sings f)
    inner_within i l = let a = c.inner.sings_len in omega arith

    sing_pair : (i : ℕ) → i < length (heights f) → AreIntoOneAt d (sing_at e (dual (heights e) (get_or (heights f) i 0))) (sing_at f i)
    sing_pair i l =
        let h = get_or (heights f) i 0 in
        let j = dual (heights e) h in
        let is = (hit_is (heights e) h c.outer.monotone (hit_at (heights e) (heights f) i hit l)).1 in
        let m = place i l in
        let n = inner_within i l in
        let a = c.outer_valid.heights_len in
        let b = c.inner_valid.heights_len in
        let s = c.outer.sings_len in
        record {
          outer = c.outer.sings_are j m;
          inner = c.inner.sings_are i n;
          middle = sing d c.middle j;
          source = sing d c.source i;
          target = sing d c.target h;
          outer_valid = subst (λ (k : ℕ). ValidArrow d (sing d c.middle j) (sing d c.target k) (arr d (sing_at e j))) is
              (subst (ValidArrow d _ _) (arr-sing d e j m) (c.outer_valid.sings j (omega arith)));
          inner_valid = subst (ValidArrow d _ _) (arr-sing d f i n) (c.inner_valid.sings i (omega arith));
        }

    reg_test_is : (k : ℕ) → k < length (regs e) → has_factor d (arrow_reg d (arr (suc d) e) k) (arrow_reg d (arr (suc d) f) k) ≡ factors_tree (reg_at e k) (reg_at f k)
    reg_test_is k l =
        let t = target_is in
        let m : k < length (regs f) = omega arith in
        let p = arr-reg d e k l in
        let q = arr-reg d f k m in
        (λ i. has_factor d (p i) (q i)) ∙ sym (factors_tree_at d (reg_at e k) (reg_at f k) (c.inner.regs_are k m))

    sing_test_is : (i : ℕ) → i < length (heights f)
        → has_factor d (arrow_sing d (arr (suc d) e) (dual (heights e) (get_or (heights f) i 0))) (arrow_sing d (arr (suc d) f) i)
        ≡ factors_tree (sing_at e (dual (heights e) (get_or (heights f) i 0))) (sing_at f i)
    sing_test_is i l =
        let n = inner_within i l in
        let p = arr-sing d e (dual (heights e) (get_or (heights f) i 0)) (place i l) in
        let q = arr-sing d f i n in
        (λ x. has_factor d (p x) (q x)) ∙ sym (factors_tree_at d _ (sing_at f i) (c.inner.sings_are i n))

    test_is : factors_tree e f ≡ (regs_factor e f && sings_factor e f)
    unfolding has_factor
    test_is =
        let E : Arr (suc d) = arr (suc d) e in
        let F : Arr (suc d) = arr (suc d) f in
        let rl = arr-regs_len d e in
        let sl = arr-sings_len d f ∙ c.inner.sings_len in
        let rs : list_all (λ k. has_factor d (arrow_reg d E k) (arrow_reg d F k)) (upto (length E.regs)) ≡ regs_factor e f =
        ap (λ n. list_all (λ k. has_factor d (arrow_reg d E k) (arrow_reg d F k)) (upto n)) rl ∙ same_tests (length (regs e)) _ _ reg_test_is in
        let ss : list_all (λ i. has_factor d (arrow_sing d E (dual (heights e) (get_or (heights f) i 0))) (arrow_sing d F i)) (upto (length F.sings)) ≡ sings_factor e f =
        ap (λ n. list_all (λ i. has_factor d (arrow_sing d E (dual (heights e) (get_or (heights f) i 0))) (arrow_sing d F i)) (upto n)) sl ∙ same_tests (length (heights f)) _ _ sing_test_is in
        factors_tree_at (suc d) e f c.inner ∙ (λ i. hit i && rs i && ss i)

    over_within : (j : ℕ) → height_over e j < length (regs e)
    over_within j = elim (cases_lt j (length (heights e))) [
      | inl l ↦ let a = c.outer.below j l in let b = get_or_default (heights e) j (length (regs e) - 1) 0 l in omega arith
      | inr l ↦ let a = get_or_past (heights e) j (length (regs e) - 1) l in let b = c.outer.regs_len in omega arith
    ]

    reg_tree_is : (k : ℕ) → k < length (regs e)
        → arr_tree d (factor_through d (arrow_reg d (arr (suc d) e) k) (arrow_reg d (arr (suc d) f) k)) ≡ reg_factor e f k
    reg_tree_is k l =
        let t = target_is in
        let m : k < length (regs f) = omega arith in
        let p = arr-reg d e k l in
        let q = arr-reg d f k m in
        (λ i. arr_tree d (factor_through d (p i) (q i))) ∙ sym (factor_tree_at d (reg_at e k) (reg_at f k) (c.inner.regs_are k m))

    sing_tree_is : (i : ℕ) → i < length (heights f)
        → arr_tree d (factor_through d (arrow_sing d (arr (suc d) e) (dual (heights e) (get_or (heights f) i 0))) (arrow_sing d (arr (suc d) f) i))
        ≡ sing_factor e f i
    sing_tree_is i l =
        let n = inner_within i l in
        let p = arr-sing d e (dual (heights e) (get_or (heights f) i 0)) (place i l) in
        let q = arr-sing d f i n in
        (λ x. arr_tree d (factor_through d (p x) (q x))) ∙ sym (factor_tree_at d _ (sing_at f i) (c.inner.sings_are i n))

    tree_is : factor_tree e f ≡ zag (map (dual (heights e)) (heights f))
        (tab (λ j. reg_factor e f (height_over e j)) (suc (length (heights e))))
        (tab (sing_factor e f) (length (heights f)))
    unfolding factor_through
    tree_is =
        let E : Arr (suc d) = arr (suc d) e in
        let F : Arr (suc d) = arr (suc d) f in
        let rl = arr-regs_len d e in
        let r = λ (j : ℕ). factor_through d (arrow_reg d E (regular_over d E j)) (arrow_reg d F (regular_over d E j)) in
        let s = λ (i : ℕ). factor_through d (arrow_sing d E (dual (heights e) (get_or (heights f) i 0))) (arrow_sing d F i) in
        let el = arr-sings_len d e ∙ c.outer.sings_len in
        let fl = arr-sings_len d f ∙ c.inner.sings_len in
        let rs = slices_tab (suc (length (heights e))) (tab r (suc (length E.sings))) (no_arr d) (arr_tree d) (λ j. reg_factor e f (height_over e j))
        (length-tab r (suc (length E.sings)) ∙ ap suc el)
        (λ j l. ap (arr_tree d) (get-tab r (suc (length E.sings)) j (no_arr d) (omega arith))
        ∙ ap (λ (n : ℕ). arr_tree d (factor_through d (arrow_reg d E (get_or (heights e) j (n - 1))) (arrow_reg d F (get_or (heights e) j (n - 1))))) rl
        ∙ reg_tree_is (height_over e j) (over_within j)) in
        let ss = slices_tab (length (heights f)) (tab s (length F.sings)) (no_arr d) (arr_tree d) (sing_factor e f)
        (length-tab s (length F.sings) ∙ fl)
        (λ i l. ap (arr_tree d) (get-tab s (length F.sings) i (no_arr d) (omega arith)) ∙ sing_tree_is i l) in
        factor_tree_at (suc d) e f c.inner ∙ (λ i. zag (map (dual (heights e)) (heights f)) (rs i) (ss i))

  no_heights_is : are_hit (heights e) (heights f) ≡ false → factors_tree e f ≡ false
  unfolding has_factor
  no_heights_is miss =
      let E : Arr (suc d) = arr (suc d) e in
      let F : Arr (suc d) = arr (suc d) f in
      factors_tree_at (suc d) e f c.inner
      ∙ (λ x. miss x && list_all (λ k. has_factor d (arrow_reg d E k) (arrow_reg d F k)) (upto (length E.regs))
      && list_all (λ i. has_factor d (arrow_sing d E (dual (heights e) (get_or (heights f) i 0))) (arrow_sing d F i)) (upto (length F.sings)))

  has_factor_above : HasFactor (AreIntoOneAt d) e f
  has_factor_above = record {
    target_len = target_is;
    outer_len = c.outer.sings_len;
    inner_len = c.inner.sings_len;
    regs_pos = c.outer.regs_len;
    outer_monotone = c.outer.monotone;
    inner_monotone = c.inner.monotone;
    outer_below = c.outer.below;
    regs_are = reg_pair;
    sings_are = sing_pair;
    no_heights = no_heights_is;
    test = test_is;
    tree = tree_is;
  }

some_dimension : (d : ℕ) (e f : Tree) → HasFactor (AreIntoOneAt d) e f → HasFactor AreIntoOne e f
some_dimension d e f h = record {
  target_len = h.target_len;
  outer_len = h.outer_len;
  inner_len = h.inner_len;
  regs_pos = h.regs_pos;
  outer_monotone = h.outer_monotone;
  inner_monotone = h.inner_monotone;
  outer_below = h.outer_below;
  regs_are = λ k l. record { dim = d; at_dim = h.regs_are k l };
  sings_are = λ t i l. record { dim = d; at_dim = h.sings_are t i l };
  no_heights = h.no_heights;
  test = h.test;
  tree = h.tree;
}

has_factor_at : (d : ℕ) (e f : Tree) → AreIntoOneAt d e f → 0 < d → HasFactor AreIntoOne e f
has_factor_at zero e f c l = absurd (omega arith)
has_factor_at (suc d) e f c l = some_dimension d e f (has_factor_above d e f c)

pub has_factor_of : (e f : Tree) → AreIntoOne e f → 0 < dimension_of f → HasFactor AreIntoOne e f
has_factor_of e f c l = has_factor_at c.dim e f c.at_dim (omega (arith, arrow_dimension c.dim f c.at_dim.inner))

-- ---- its shape

mono_between : (es hs : List ℕ) → IsMonotone es → IsMonotone hs → IsMonotone (map (dual es) hs)
mono_between es hs m n = record {
  rises = λ i j l k.
      let a = length-map hs (dual es) in
      let p = get_or-map (dual es) hs i 0 0 (omega arith) in
      let q = get_or-map (dual es) hs j 0 0 (omega arith) in
      let r = dual_mono es m (get_or hs i 0) (get_or hs j 0) (n.rises i j l (omega arith)) in
      omega arith;
}

-- a factor has the shape of an arrow
abbrev HasShape : ℕ → Type 0
HasShape d = (e f : Tree) → AreIntoOneAt d e f → factors_tree e f ≡ true → IsArrow d (factor_tree e f)

shape_hit : (d : ℕ) → HasShape d → (e f : Tree) → AreIntoOneAt (suc d) e f → factors_tree e f ≡ true → are_hit (heights e) (heights f) ≡ true
    → IsArrow (suc d) (factor_tree e f)
shape_hit d ih e f c h hit =
    let has = has_factor_above d e f c in
    let both = and_parts (regs_factor e f) (sings_factor e f) (sym (has.test hit) ∙ h) in
    let r = λ (j : ℕ). reg_factor e f (height_over e j) in
    let lr = length-tab r (suc (length (heights e))) in
    let ls = length-tab (sing_factor e f) (length (heights f)) in
    let lh = length-map (heights f) (dual (heights e)) in
    subst (IsArrow (suc d)) (sym (has.tree hit))
    (IsArrow-zag d (map (dual (heights e)) (heights f)) (tab r (suc (length (heights e)))) (tab (sing_factor e f) (length (heights f))) (record {
      regs_len = omega arith;
      sings_len = omega arith;
      monotone = mono_between (heights e) (heights f) c.outer.monotone c.inner.monotone;
      below = λ i l. (let m : i < length (heights f) = omega arith in
          let p = get_or-map (dual (heights e)) (heights f) i 0 0 m in
          let q = (hit_is (heights e) (get_or (heights f) i 0) c.outer.monotone (hit_at (heights e) (heights f) i hit m)).0 in
          omega arith);
      regs_are = λ j l. (let m : j < suc (length (heights e)) = omega arith in
          let k = height_over e j in
          let w = over_within d e f c hit j in
          subst (IsArrow d) (sym (get-tab r (suc (length (heights e))) j nil m))
          (ih (reg_at e k) (reg_at f k) (has.regs_are k w) (list_all_to (λ k. factors_tree (reg_at e k) (reg_at f k)) 0 (length (regs e)) both.0 k (omega arith) (omega arith))));
      sings_are = λ i l. (let m : i < length (heights f) = omega arith in
          subst (IsArrow d) (sym (get-tab (sing_factor e f) (length (heights f)) i nil m))
          (ih (sing_at e (dual (heights e) (get_or (heights f) i 0))) (sing_at f i) (has.sings_are hit i m)
          (list_all_to (λ i. factors_tree (sing_at e (dual (heights e) (get_or (heights f) i 0))) (sing_at f i)) 0 (length (heights f)) both.1 i (omega arith) (omega arith))));
    }))

shape_above : (d : ℕ) → HasShape d → HasShape (suc d)
shape_above d ih e f c h = elim (cases_Bool (are_hit (heights e) (heights f))) [
  | inl hit ↦ shape_hit d ih e f c h hit
  | inr miss ↦ let none = (has_factor_above d e f c).no_heights miss in absurd (cc)
]

pub factor_shape : (d : ℕ) → HasShape d
factor_shape zero = λ e f c h. subst (IsArrow zero) (sym (factor_tree_at zero e f c.inner ∙ base_is (arr zero e) (arr zero f))) (IsArrow-ends _ _)
factor_shape (suc d) = shape_above d (factor_shape d)

pub IsArrowTree-factor_tree : (e f : Tree) → AreIntoOne e f → factors_tree e f ≡ true → IsArrowTree (factor_tree e f)
IsArrowTree-factor_tree e f c h = arrow_tree c.dim (factor_tree e f) (factor_shape c.dim e f c.at_dim h)

-- ---- for a program

-- both have one dimension
pub one_dimension : (e f : Tree) → AreIntoOne e f → dimension_of e ≡ dimension_of f
one_dimension e f c = arrow_dimension c.dim e c.at_dim.outer ∙ sym (arrow_dimension c.dim f c.at_dim.inner)

-- a test that fails once, and one that is passed each time
pub one_missing : (n : ℕ) (p : ℕ → Bool) (k : ℕ) → k < n → p k ≡ false → list_all p (upto n) ≡ false
one_missing n p k l h = elim (cases_Bool (list_all p (upto n))) [
  | inl t ↦ let a = list_all_to p 0 n t k (omega arith) (omega arith) in absurd (cc)
  | inr t ↦ t
]

pub all_there : (n : ℕ) (p : ℕ → Bool) → ((k : ℕ) → k < n → p k ≡ true) → list_all p (upto n) ≡ true
all_there n p h = list_all_from p 0 n (λ i a l. h i (omega arith))

-- slices that are missing
pub regs_missing : (e f : Tree) → AreIntoOne e f → 0 < dimension_of f → are_hit (heights e) (heights f) ≡ true → regs_factor e f ≡ false → factors_tree e f ≡ false
regs_missing e f c l hit miss = (has_factor_of e f c l).test hit ∙ ap (λ b. b && sings_factor e f) miss

pub sings_missing : (e f : Tree) → AreIntoOne e f → 0 < dimension_of f → are_hit (heights e) (heights f) ≡ true → sings_factor e f ≡ false → factors_tree e f ≡ false
sings_missing e f c l hit miss = (has_factor_of e f c l).test hit ∙ ap (λ b. regs_factor e f && b) miss ∙ and_false (regs_factor e f)
  where
    and_false : (b : Bool) → (b && false) ≡ false
    and_false true = refl
    and_false false = refl

pub no_heights_missing : (e f : Tree) → AreIntoOne e f → 0 < dimension_of f → are_hit (heights e) (heights f) ≡ false → factors_tree e f ≡ false
no_heights_missing e f c l miss = (has_factor_of e f c l).no_heights miss

pub none_missing : (e f : Tree) → AreIntoOne e f → 0 < dimension_of f → are_hit (heights e) (heights f) ≡ true → regs_factor e f ≡ true → sings_factor e f ≡ true
    → factors_tree e f ≡ true
none_missing e f c l hit rs ss = (has_factor_of e f c l).test hit ∙ and_from (regs_factor e f) (sings_factor e f) rs ss
