-- Factors of arrows of a store, slice by slice, while the store grows.
use Rattle.std.proofs.Common.{◌≡◌, ℕ, suc, ◌<◌, ◌+◌, ◌-◌, List, [], ◌∷◌, ◌++◌, map, take, length, get_or, Bool, true, false, Option, Some, None, Result, sym, ap, subst, ◌∙◌, arith, inl, inr}
use Rattle.std.specs.Result.{IsErr}
use Rattle.std.proofs.lemmas.Bool.{cases_Bool, cases_lt, ltb-true, lt-ltb, and_from}
use Rattle.std.proofs.lemmas.List.{take_more, map-append, get_or-map, get_or_default, get_or_past}
use Rattle.std.proofs.lemmas.List.Folds.{list_all_more, list_all_at}
use Rattle.std.proofs.lemmas.List.FromFn.{map-range_with_len_more}
use Rattle.std.proofs.lemmas.Result.{IfOk-from_err}
use Rattle.diagram_terms.specs.Tree.{Tree, nil, zag, heights, regs}
use Rattle.diagram_terms.specs.Dimension.{dimension_of, IsArrowTree}
use Rattle.diagram_terms.specs.Dual.{IsMonotone, dual, tab}
use Rattle.diagram_terms.specs.Nodes.{picked}
use Rattle.diagram_terms.specs.Shape.{reg_at, sing_at}
use Rattle.diagram_terms.proofs.Dimensions.{arrow_parts_of, dimension_of-arrow_reg, dimension_of-arrow_sing}
use Rattle.diagram_terms.proofs.Duals.{fibre_high, length-tab, get-tab}
use Rattle.hashcons.specs.Contents.{Contents, Grows, IsStore, IsArrowOf, arrow_at}
use Rattle.hashcons.specs.Gathers.{Gathers}
use Rattle.hashcons.proofs.OneMoreTree.{Grows-refl}
use Rattle.hashcons.proofs.Growth.{Grows-trans, store-kept, arrow-kept, arrow_at-kept, gathers-arrows_grow, gathers-picked, gathers-below}
use Rattle.hashcons.specs.Nodes.{AreArrowChildren}
use Rattle.degeneracy.specs.FoundFactors.{FoundIf, IsArrowWith}
use Rattle.degeneracy.specs.declared.factor_kept.FactorKept.{FactorKept}
use Rattle.degeneracy.specs.FactorKeeps.{AreFactors, IsKeptFactor, Finds}
use Rattle.degeneracy.specs.FactorTrees.{factors_tree, factor_tree, AreIntoOne, is_hit, are_hit, sings_factor, reg_factor, sing_factor, height_over, slices_over}
use Rattle.degeneracy.proofs.KeptFactors.{factors-grow}
use Rattle.degeneracy.proofs.FactorsBySlices.{has_factor_of, hit_is, one_dimension, IsArrowTree-factor_tree}

-- ---- answers

pub found-none : {X : Type 0} (test : Bool) (P : X → Type 0) (o : Option X) → o ≡ None → FoundIf test P o → test ≡ false
found-none test P o e h = subst (FoundIf test P) e h

pub found-some : {X : Type 0} (test : Bool) (P : X → Type 0) (o : Option X) (x : X) → o ≡ Some x → FoundIf test P o → (test ≡ true) × P x
found-some test P o x e h = subst (FoundIf test P) e h

pub Finds-err : {X E : Type 0} (old new : Contents) (kept : FactorKept) (F : X → Type 0) (r : Result X E) → Grows old new → AreFactors new kept
    → IsErr r → Finds old new kept F r
Finds-err old new kept F r g h e = record { grows = g; right = h; found = IfOk-from_err r F e }

-- ---- heights

-- a height that none of the list goes to
pub not_hit : (es : List ℕ) (h : ℕ) → IsMonotone es → (dual es h < length es → get_or es (dual es h) 0 ≡ h → ⊥) → is_hit es h ≡ false
not_hit es h m miss = elim (cases_Bool (is_hit es h)) [
  | inl t ↦ let is = hit_is es h m (ltb-true _ _ t) in absurd (miss is.0 is.1)
  | inr t ↦ t
]

pub one_hit : (es : List ℕ) (h : ℕ) → IsMonotone es → dual es h < length es → get_or es (dual es h) 0 ≡ h → is_hit es h ≡ true
one_hit es h m l e = lt-ltb _ _ (fibre_high es m (dual es h) h l e)

pub none_hit : (es hs : List ℕ) (i : ℕ) → i < length hs → is_hit es (get_or hs i 0) ≡ false → are_hit es hs ≡ false
none_hit es hs i l h = list_all_at (is_hit es) hs i 0 l h

pub hit_more : (es hs : List ℕ) (i : ℕ) → i < length hs → are_hit es (take i hs) ≡ true → is_hit es (get_or hs i 0) ≡ true
    → are_hit es (take (i + 1) hs) ≡ true
hit_more es hs i l h k = list_all_more (is_hit es) hs i 0 l ∙ and_from _ _ h k

pub between_more : (es hs : List ℕ) (i : ℕ) → i < length hs
    → map (dual es) (take (i + 1) hs) ≡ map (dual es) (take i hs) ++ dual es (get_or hs i 0) ∷ []
between_more es hs i l = ap (map (dual es)) (take_more hs i 0 l) ∙ map-append (dual es) (take i hs) (get_or hs i 0 ∷ [])

-- ---- the regular heights of the source

pub height_below : (e : Tree) → IsArrowTree e → 0 < dimension_of e → (j : ℕ) → j < length (heights e) → suc (get_or (heights e) j 0) < length (regs e)
height_below e h l j k = (arrow_parts_of e h l).below j k

pub over_height : (e : Tree) (j : ℕ) → j < length (heights e) → height_over e j ≡ get_or (heights e) j 0
over_height e j l = get_or_default (heights e) j (length (regs e) - 1) 0 l

pub over_last : (e : Tree) → height_over e (length (heights e)) ≡ length (regs e) - 1
over_last e = get_or_past (heights e) (length (heights e)) (length (regs e) - 1) (omega arith)

pub tab_more : {X : Type 0} (f : ℕ → X) (n : ℕ) → tab f (n + 1) ≡ tab f n ++ f n ∷ []
tab_more f n = map-range_with_len_more f 0 n n (omega arith)

over_below : (e : Tree) → IsArrowTree e → 0 < dimension_of e → (j : ℕ) → j < suc (length (heights e)) → height_over e j < length (regs e)
over_below e h l j k = elim (cases_lt j (length (heights e))) [
  | inl q ↦ let a = height_below e h l j q in let b = over_height e j q in omega arith
  | inr q ↦ let a = get_or_past (heights e) j (length (regs e) - 1) q in let b = (arrow_parts_of e h l).regs_len in omega arith
]

-- those among the gathered ids that stand over the regular heights
pub gathers-over : (ts : List Tree) (e : Tree) (ids : List ℕ) (g : ℕ → Tree) → IsArrowTree e → 0 < dimension_of e → Gathers ts ids (length (regs e)) g
    → Gathers ts (slices_over e ids) (suc (length (heights e))) (λ j. g (height_over e j))
gathers-over ts e ids g shape above h =
    let f = λ (j : ℕ). get_or ids (height_over e j) 0 in
    let n = suc (length (heights e)) in
    record {
      len = length-tab f n;
      of_store = λ j l. subst (λ (i : ℕ). i < length ts) (sym (get-tab f n j 0 l)) (h.of_store (height_over e j) (over_below e shape above j l));
      are = λ j l. ap (λ i. get_or ts i nil) (get-tab f n j 0 l) ∙ h.are (height_over e j) (over_below e shape above j l);
    }

-- a place among the heights between
pub height_place : (es hs places : List ℕ) (i : ℕ) → places ≡ map (dual es) hs → i < length hs → get_or places i 0 ≡ dual es (get_or hs i 0)
height_place es hs places i e l = ap (λ ids. get_or ids i 0) e ∙ get_or-map (dual es) hs i 0 0 l

-- ---- slices in a store that grew

pub into_same : (e f o i : Tree) → o ≡ e → i ≡ f → AreIntoOne e f → AreIntoOne o i
into_same e f o i p q c = subst (λ (t : Tree). AreIntoOne t i) (sym p) (subst (AreIntoOne e) (sym q) c)

module _ (old now : Contents) (a x : ℕ) (grows : Grows old now) (l : IsArrowOf old a) where
  pub reg_is : (k : ℕ) → arrow_at now x ≡ reg_at (arrow_at now a) k → arrow_at now x ≡ reg_at (arrow_at old a) k
  reg_is k p = p ∙ ap (λ t. reg_at t k) (grows.arrow_trees a l)

  pub sing_is : (k : ℕ) → arrow_at now x ≡ sing_at (arrow_at now a) k → arrow_at now x ≡ sing_at (arrow_at old a) k
  sing_is k p = p ∙ ap (λ t. sing_at t k) (grows.arrow_trees a l)

-- what was found of the same trees
pub arrow_with-same : (c : Contents) (t u : Tree) (a : ℕ) → t ≡ u → IsArrowWith c t a → IsArrowWith c u a
arrow_with-same c t u a e h = record { of_store = h.of_store; tree = h.tree ∙ e }

-- one more
pub more_there : (P : ℕ → Type 0) (i : ℕ) → ((k : ℕ) → k < i → P k) → P i → (k : ℕ) → k < i + 1 → P k
more_there P i below here k l = elim (cases_lt k i) [
  | inl q ↦ below k q
  | inr q ↦ let e : i ≡ k = omega arith in subst P e here
]

pub ruleset factoring = (Grows-refl, Grows-trans, store-kept, arrow-kept, arrow_at-kept, factors-grow, one_dimension, dimension_of-arrow_reg, dimension_of-arrow_sing)

-- ---- a factor that was put together

module _ (old mid new : Contents) (e f : ℕ) (outer : IsArrowOf old e) (inner : IsArrowOf old f) (store : IsStore old)
    (c : AreIntoOne (arrow_at old e) (arrow_at old f)) (above : 0 < dimension_of (arrow_at old f)) (r : Grows old mid) (s : Grows mid new) where
  mid_e : arrow_at mid e ≡ arrow_at old e
  mid_e = r.arrow_trees e outer

  mid_f : arrow_at mid f ≡ arrow_at old f
  mid_f = r.arrow_trees f inner

  -- the tests of the later store are those of the first one
  pub sings_then : (b : Bool) → sings_factor (arrow_at mid e) (arrow_at mid f) ≡ b → sings_factor (arrow_at old e) (arrow_at old f) ≡ b
  sings_then b h = (λ i. sings_factor (sym mid_e i) (sym mid_f i)) ∙ h

  module _ (all rs ss : List ℕ) (a : Gathers mid.arrows all (length (regs (arrow_at old e))) (reg_factor (arrow_at old e) (arrow_at old f)))
      (q : rs ≡ slices_over (arrow_at new e) all)
      (b : Gathers new.arrows ss (length (heights (arrow_at mid f))) (sing_factor (arrow_at mid e) (arrow_at mid f))) where
    over : Gathers new.arrows rs (suc (length (heights (arrow_at old e)))) (λ j. reg_factor (arrow_at old e) (arrow_at old f) (height_over (arrow_at old e) j))
    over =
        let n : 0 < dimension_of (arrow_at old e) = omega (arith, one_dimension (arrow_at old e) (arrow_at old f) c) in
        let is = q ∙ ap (λ u. slices_over u all) (s.arrow_trees e (r.arrows e outer) ∙ mid_e) in
        subst (λ (ids : List ℕ). Gathers new.arrows ids (suc (length (heights (arrow_at old e)))) (λ j. reg_factor (arrow_at old e) (arrow_at old f) (height_over (arrow_at old e) j))) (sym is)
        (gathers-over new.arrows (arrow_at old e) all (reg_factor (arrow_at old e) (arrow_at old f)) (store.arrows e outer) n
        (gathers-arrows_grow mid new all _ _ s a))

    sings_are : Gathers new.arrows ss (length (heights (arrow_at old f))) (sing_factor (arrow_at old e) (arrow_at old f))
    sings_are =
        subst (λ (u : Tree). Gathers new.arrows ss (length (heights u)) (sing_factor (arrow_at old e) u)) mid_f
        (subst (λ (u : Tree). Gathers new.arrows ss (length (heights (arrow_at mid f))) (sing_factor u (arrow_at mid f))) mid_e b)

    pub described_factor : (hs : List ℕ) → hs ≡ map (dual (heights (arrow_at old e))) (heights (arrow_at old f))
        → are_hit (heights (arrow_at old e)) (heights (arrow_at old f)) ≡ true
        → zag hs (picked new.arrows rs) (picked new.arrows ss) ≡ factor_tree (arrow_at old e) (arrow_at old f)
    described_factor hs h hit =
        let p = gathers-picked new.arrows rs _ _ over in
        let o = gathers-picked new.arrows ss _ _ sings_are in
        (λ i. zag (h i) (p i) (o i)) ∙ sym ((has_factor_of (arrow_at old e) (arrow_at old f) c above).tree hit)

    pub factor_children : AreArrowChildren (length new.arrows) rs ss
    factor_children = record { regs = gathers-below new.arrows rs _ _ over; sings = gathers-below new.arrows ss _ _ sings_are }

-- it is kept from then on
pub factor_kept : (old new : Contents) (e f g : ℕ) → Grows old new → IsArrowOf old e → IsArrowOf old f → factors_tree (arrow_at old e) (arrow_at old f) ≡ true
    → IsArrowWith new (factor_tree (arrow_at old e) (arrow_at old f)) g → IsKeptFactor new e f g
factor_kept old new e f g grows outer inner has is =
    let p = sym (grows.arrow_trees e outer) in
    let q = sym (grows.arrow_trees f inner) in
    record {
      outer = grows.arrows e outer;
      inner = grows.arrows f inner;
      has = (λ i. factors_tree (sym p i) (sym q i)) ∙ has;
      is = arrow_with-same new _ _ g (λ i. factor_tree (p i) (q i)) is;
    }

-- what was found of slices is of these slices
pub found_of : (e f o i : Tree) → o ≡ e → i ≡ f → (b : Bool) → factors_tree o i ≡ b → factors_tree e f ≡ b
found_of e f o i p q b h = (λ n. factors_tree (sym p n) (sym q n)) ∙ h
