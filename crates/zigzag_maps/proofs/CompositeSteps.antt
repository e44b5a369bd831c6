-- The composite of two arrows of a store, slice by slice, while the store grows.
use Rattle.std.proofs.Common.{◌≡◌, ℕ, suc, ◌<◌, ◌≤◌, ◌+◌, ◌-◌, List, length, get_or, sym, ap, subst, ◌∙◌, arith, Ok}
use Rattle.diagram_terms.specs.Tree.{Tree, zag, heights, regs, sings}
use Rattle.diagram_terms.specs.Dual.{dual, after}
use Rattle.diagram_terms.specs.Dimension.{dimension_of}
use Rattle.diagram_terms.specs.Nodes.{picked}
use Rattle.diagram_terms.specs.Shape.{reg_at, sing_at}
use Rattle.diagram_terms.proofs.Decisions.{dual_next}
use Rattle.diagram_terms.proofs.Dimensions.{dimension_of-arrow_reg, dimension_of-arrow_sing}
use Rattle.diagram_terms.proofs.Duals.{dual-le-length}
use Rattle.hashcons.specs.Contents.{Contents, Grows, IsStore, IsArrowOf, arrow_at}
use Rattle.hashcons.specs.Gathers.{Gathers}
use Rattle.hashcons.specs.Made.{MakesArrows}
use Rattle.smallvec.specs.SmallVec.{SmallVec}
use Rattle.hashcons.proofs.Growth.{gathers-arrows_grow, gathers-picked}
use Rattle.diagram_terms.specs.Operations.{composite_tree}
use Rattle.diagram_terms.specs.ValidTrees.{AreComposable}
use Rattle.zigzag_maps.proofs.CompositeSlices.{has_composite}

composable_same : (g f o i : Tree) → g ≡ o → f ≡ i → AreComposable g f → AreComposable o i
composable_same g f o i p q c = subst (λ (t : Tree). AreComposable t i) p (subst (AreComposable g) q c)

module _ (old now : Contents) (g f : ℕ) (grows : Grows old now) (outer : IsArrowOf old g) (inner : IsArrowOf old f) where
  g_is : arrow_at now g ≡ arrow_at old g
  g_is = grows.arrow_trees g outer

  f_is : arrow_at now f ≡ arrow_at old f
  f_is = grows.arrow_trees f inner

  -- the slices that are composed next
  module _ (c : AreComposable (arrow_at old g) (arrow_at old f)) (above : 0 < dimension_of (arrow_at old f)) (o i : ℕ) where
    pub reg_pair : (k j : ℕ) → k < length (regs (arrow_at now g)) → j ≡ dual (heights (arrow_at now g)) k
        → arrow_at now o ≡ reg_at (arrow_at now g) k → arrow_at now i ≡ reg_at (arrow_at now f) j → AreComposable (arrow_at now o) (arrow_at now i)
    reg_pair k j l e p q =
        let has = has_composite (arrow_at old g) (arrow_at old f) c above in
        let m : k < length (regs (arrow_at old g)) = omega (arith, ap (λ t. length (regs t)) g_is) in
        composable_same _ _ _ _ (ap (λ t. reg_at t k) (sym g_is) ∙ sym p)
        (ap (λ t. reg_at (arrow_at old f) (dual (heights t) k)) (sym g_is) ∙ ap (reg_at (arrow_at old f)) (sym e) ∙ ap (λ t. reg_at t j) (sym f_is) ∙ sym q) (has.regs_are k m)

    pub sing_pair : (k j : ℕ) → k < length (heights (arrow_at now f)) → j ≡ get_or (heights (arrow_at now f)) k 0
        → arrow_at now o ≡ sing_at (arrow_at now g) j → arrow_at now i ≡ sing_at (arrow_at now f) k → AreComposable (arrow_at now o) (arrow_at now i)
    sing_pair k j l e p q =
        let has = has_composite (arrow_at old g) (arrow_at old f) c above in
        let m : k < length (heights (arrow_at old f)) = omega (arith, ap (λ t. length (heights t)) f_is) in
        composable_same _ _ _ _
        (ap (λ t. sing_at (arrow_at old g) (get_or (heights t) k 0)) (sym f_is) ∙ ap (sing_at (arrow_at old g)) (sym e) ∙ ap (λ t. sing_at t j) (sym g_is) ∙ sym p)
        (ap (λ t. sing_at t k) (sym f_is) ∙ sym q) (has.sings_are k m)

  -- the composite that was made of them
  module _ (o i : ℕ) where
    pub reg_made : (k j : ℕ) → j ≡ dual (heights (arrow_at now g)) k → arrow_at now o ≡ reg_at (arrow_at now g) k → arrow_at now i ≡ reg_at (arrow_at now f) j
        → composite_tree (arrow_at now o) (arrow_at now i) ≡ composite_tree (reg_at (arrow_at old g) k) (reg_at (arrow_at old f) (dual (heights (arrow_at old g)) k))
    reg_made k j e p q =
        (λ n. composite_tree (p n) (q n)) ∙ ap (λ m. composite_tree (reg_at (arrow_at now g) k) (reg_at (arrow_at now f) m)) e
        ∙ (λ n. composite_tree (reg_at (g_is n) k) (reg_at (f_is n) (dual (heights (g_is n)) k)))

    pub sing_made : (k j : ℕ) → j ≡ get_or (heights (arrow_at now f)) k 0 → arrow_at now o ≡ sing_at (arrow_at now g) j → arrow_at now i ≡ sing_at (arrow_at now f) k
        → composite_tree (arrow_at now o) (arrow_at now i) ≡ composite_tree (sing_at (arrow_at old g) (get_or (heights (arrow_at old f)) k 0)) (sing_at (arrow_at old f) k)
    sing_made k j e p q =
        (λ n. composite_tree (p n) (q n)) ∙ ap (λ m. composite_tree (sing_at (arrow_at now g) m) (sing_at (arrow_at now f) k)) e
        ∙ (λ n. composite_tree (sing_at (g_is n) (get_or (heights (f_is n)) k 0)) (sing_at (f_is n) k))

-- a slice has one dimension less
pub reg_dim : (c : Contents) (f i j d : ℕ) → IsStore c → IsArrowOf c f → d ≡ dimension_of (arrow_at c f) → 0 < d → j < length (regs (arrow_at c f))
    → arrow_at c i ≡ reg_at (arrow_at c f) j → d - 1 ≡ dimension_of (arrow_at c i)
reg_dim c f i j d store l e above m is =
    let a = dimension_of-arrow_reg (arrow_at c f) j (store.arrows f l) (omega arith) m in
    let b = ap dimension_of is in
    omega arith

pub sing_dim : (c : Contents) (f i j d : ℕ) → IsStore c → IsArrowOf c f → d ≡ dimension_of (arrow_at c f) → 0 < d → j < length (sings (arrow_at c f))
    → arrow_at c i ≡ sing_at (arrow_at c f) j → d - 1 ≡ dimension_of (arrow_at c i)
sing_dim c f i j d store l e above m is =
    let a = dimension_of-arrow_sing (arrow_at c f) j (store.arrows f l) (omega arith) m in
    let b = ap dimension_of is in
    omega arith

-- the node that is put last describes the composite
pub described_composite : {E : Type 0} (old mid new : Contents) (g f : ℕ) (hs : List ℕ) (rs ss : SmallVec ℕ) → IsArrowOf old g → IsArrowOf old f
    → AreComposable (arrow_at old g) (arrow_at old f) → 0 < dimension_of (arrow_at old f)
    → hs ≡ after (heights (arrow_at old g)) (heights (arrow_at old f))
    → MakesArrows {E = E} old mid (length (regs (arrow_at old g))) (λ k. composite_tree (reg_at (arrow_at old g) k) (reg_at (arrow_at old f) (dual (heights (arrow_at old g)) k))) (Ok rs)
    → MakesArrows {E = E} mid new (length (heights (arrow_at mid f))) (λ i. composite_tree (sing_at (arrow_at mid g) (get_or (heights (arrow_at mid f)) i 0)) (sing_at (arrow_at mid f) i)) (Ok ss)
    → zag hs (picked new.arrows rs.items) (picked new.arrows ss.items) ≡ composite_tree (arrow_at old g) (arrow_at old f)
described_composite old mid new g f hs rs ss outer inner c above e r s =
    let has = has_composite (arrow_at old g) (arrow_at old f) c above in
    let r2 = gathers-picked new.arrows rs.items _ _ (gathers-arrows_grow mid new rs.items _ _ s.grows r.gathers) in
    let g_is = r.grows.arrow_trees g outer in
    let f_is = r.grows.arrow_trees f inner in
    let s2 = gathers-picked new.arrows ss.items _ _ (subst (λ (u : Tree). Gathers new.arrows ss.items (length (heights u)) (λ i. composite_tree (sing_at (arrow_at old g) (get_or (heights u) i 0)) (sing_at u i))) f_is
    (subst (λ (u : Tree). Gathers new.arrows ss.items (length (heights (arrow_at mid f))) (λ i. composite_tree (sing_at u (get_or (heights (arrow_at mid f)) i 0)) (sing_at (arrow_at mid f) i))) g_is s.gathers)) in
    (λ n. zag (e n) (r2 n) (s2 n)) ∙ sym has.tree

-- the dual at the next height is within the middle
pub dual_within : (old now : Contents) (g f k j : ℕ) → Grows old now → IsArrowOf old g → IsArrowOf old f → AreComposable (arrow_at old g) (arrow_at old f)
    → 0 < dimension_of (arrow_at old f) → j ≡ dual (heights (arrow_at now g)) k → j < length (regs (arrow_at now f))
dual_within old now g f k j grows outer inner c above e =
    let has = has_composite (arrow_at old g) (arrow_at old f) c above in
    let m = has.middle_len in
    let a = ap (λ t. dual (heights t) k) (grows.arrow_trees g outer) in
    let b = ap (λ t. length (regs t)) (grows.arrow_trees f inner) in
    let l = dual-le-length (heights (arrow_at old g)) k in
    omega arith

-- and not below the dual at the height before
pub dual_rises : (old now : Contents) (g k j : ℕ) → Grows old now → IsArrowOf old g → j ≡ dual (heights (arrow_at old g)) k → j ≤ dual (heights (arrow_at now g)) (k + 1)
dual_rises old now g k j grows outer e =
    let a = ap (λ t. dual (heights t) (suc k)) (grows.arrow_trees g outer) in
    let l = dual_next (heights (arrow_at old g)) k in
    let n : suc k ≡ k + 1 = omega arith in
    let b = ap (dual (heights (arrow_at now g))) n in
    omega arith
