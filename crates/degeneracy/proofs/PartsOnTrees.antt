-- The parts of a degeneracy on trees: their slices and legs, their shape, and that they stand for the parts of the family.
use Rattle.std.proofs.Common.{◌≡◌, ℕ, zero, suc, ◌<◌, ◌≤◌, length, get_or, refl, sym, ap, subst, ◌∙◌, arith, inl, inr}
use Rattle.std.proofs.lemmas.Bool.{cases_lt, cond-true, cond-false, lt-ltb, le-ltb}
use Rattle.diagram_terms.specs.Tree.{Tree, nil, heights, regs, sings, fwds, bwds, regs-zig, sings-zig, fwds-zig, bwds-zig, heights-zag, regs-zag, sings-zag}
use Rattle.diagram_terms.specs.Family.{Dia, Arr, reg, sing, fwd, bwd, arrow_reg, arrow_sing}
use Rattle.diagram_terms.specs.Decoded.{dia, arr, arr_tree}
use Rattle.diagram_terms.specs.Composite.{comp, ident}
use Rattle.diagram_terms.specs.Dual.{upto, tab, dual}
use Rattle.diagram_terms.specs.Shape.{IsDiagram, IsArrow, reg_at, sing_at, fwd_at, bwd_at}
use Rattle.diagram_terms.specs.Dimension.{dimension_of, IsDiagramTree, IsArrowTree}
use Rattle.diagram_terms.specs.Operations.{identity_tree, composite_tree}
use Rattle.diagram_terms.specs.Degeneracy.{SplitsInto}
use Rattle.diagram_terms.proofs.Dimensions.{arrow_dimension, diagram_tree, arrow_tree}
use Rattle.diagram_terms.proofs.Duals.{length-upto, get-upto, mono-upto, length-tab, get-tab}
use Rattle.diagram_terms.proofs.Glue.{arr-arr_tree, arr_tree-arr, dia-reg, dia-sing, dia-fwd, dia-bwd, dia-sings_len, dia-regs_len, dia-fwds_len, dia-bwds_len, dia-reg_below, dia-sing_below, dia-fwd_below, dia-bwd_below, arr-reg, arr-sing, arr-regs_len, arr-sings_len}
use Rattle.diagram_terms.proofs.NotionsOnTrees.{on_diagram_at, on_arrow_at}
use Rattle.diagram_terms.proofs.Parts.{same_arrows, same_diagrams}
use Rattle.diagram_terms.proofs.Shapes.{IsDiagram-zig, IsArrow-zag}
use Rattle.degeneracy_laws.proofs.SplitParts.{at_hit-yes, at_hit-no, middle, simple_part, parallel_part, middle-regs_len, middle-sings_len, middle-fwds_len, middle-bwds_len, middle-reg, middle-sing, middle-fwd, middle-bwd, simple_part-heights, simple_part-regs_len, simple_part-sings_len, simple_part-reg, simple_part-sing, parallel_part-heights, parallel_part-regs, parallel_part-reg, parallel_part-sings_len, parallel_part-sing}
use Rattle.degeneracy_laws.proofs.SplitParts as laws
use Rattle.zigzag_maps.specs.MapTrees.{IsValidArrowAt, IsValidArrowTree}
use Rattle.zigzag_maps.proofs.CompositeSlices.{composite_shape}
use Rattle.zigzag_maps.proofs.IdentitySlices.{identity_shape}
use Rattle.zigzag_maps.proofs.ValidArrows.{dual_in, regs_is, heights_is, sings_is}
use Rattle.degeneracy.specs.DegeneracyTrees.{IsDegeneracyTree}
use Rattle.degeneracy.specs.SplitTrees.{SplitsAt, SplitsTree, at_hit, middle_reg, middle_sing, middle_fwd, middle_bwd, simple_reg, parallel_sing, middle_tree, simple_tree, parallel_tree}
use Rattle.degeneracy.proofs.DegenerateShapes.{from_tree, fwd_meets, fwd_edge}
use Rattle.degeneracy.proofs.ParallelParts.{shape_splits}

-- ---- by whether a height goes to k

hit_yes : (f : Tree) (k : ℕ) (x y : Tree) → dual (heights f) k < dual (heights f) (suc k) → at_hit f k x y ≡ x
hit_yes f k x y l = cond-true _ x y (lt-ltb _ _ l)

hit_no : (f : Tree) (k : ℕ) (x y : Tree) → dual (heights f) (suc k) ≤ dual (heights f) k → at_hit f k x y ≡ y
hit_no f k x y l = cond-false _ x y (le-ltb _ _ l)

module _ (s t f : Tree) (k : ℕ) where
  module _ (l : dual (heights f) k < dual (heights f) (suc k)) where
    pub middle_sing-hit : middle_sing s f k ≡ sing_at s (dual (heights f) k)
    unfolding middle_sing
    middle_sing-hit = hit_yes f k _ _ l

    pub middle_fwd-hit : middle_fwd s f k ≡ fwd_at s (dual (heights f) k)
    unfolding middle_fwd
    middle_fwd-hit = hit_yes f k _ _ l

    pub middle_bwd-hit : middle_bwd s f k ≡ bwd_at s (dual (heights f) k)
    unfolding middle_bwd
    middle_bwd-hit = hit_yes f k _ _ l

    pub parallel_sing-hit : parallel_sing t f k ≡ sing_at f (dual (heights f) k)
    unfolding parallel_sing
    parallel_sing-hit = hit_yes f k _ _ l

  module _ (l : dual (heights f) (suc k) ≤ dual (heights f) k) where
    pub middle_sing-missed : middle_sing s f k ≡ reg_at s (dual (heights f) k)
    unfolding middle_sing
    middle_sing-missed = hit_no f k _ _ l

    pub middle_fwd-missed : middle_fwd s f k ≡ simple_reg s f k
    unfolding middle_fwd simple_reg
    middle_fwd-missed = hit_no f k _ _ l

    pub middle_bwd-missed : middle_bwd s f k ≡ simple_reg s f k
    unfolding middle_bwd simple_reg
    middle_bwd-missed = hit_no f k _ _ l

    pub parallel_sing-missed : parallel_sing t f k ≡ composite_tree (fwd_at t k) (reg_at f k)
    unfolding parallel_sing
    parallel_sing-missed = hit_no f k _ _ l

pub middle_reg-is : (s f : Tree) (j : ℕ) → middle_reg s f j ≡ reg_at s (dual (heights f) j)
unfolding middle_reg
middle_reg-is s f j = refl

pub simple_reg-is : (s f : Tree) (j : ℕ) → simple_reg s f j ≡ identity_tree (reg_at s (dual (heights f) j))
unfolding simple_reg
simple_reg-is s f j = refl

-- ---- each slice and leg, at the dimension

identity_is : (d : ℕ) (u : Tree) → IsDiagram d u → arr d (identity_tree u) ≡ ident d (dia d u)
identity_is d u h = ap (arr d) (on_diagram_at _ d u h) ∙ arr-arr_tree d (ident d (dia d u))

module _ (d : ℕ) (s t f : Tree) (v : IsValidArrowAt (suc d) s t f) where
  abbrev X : Dia (suc d)
  X = dia (suc d) s

  abbrev Y : Dia (suc d)
  Y = dia (suc d) t

  abbrev F : Arr (suc d)
  F = arr (suc d) f

  hit_in : (k : ℕ) → dual (heights f) k < dual (heights f) (suc k) → dual (heights f) k < length (sings s)
  hit_in k l = let a = dual_in d s t f v (suc k) in omega arith

  target_len : length Y.sings ≡ length (sings t)
  target_len = dia-sings_len d t

  source_reg : (j : ℕ) → dia d (reg_at s (dual (heights f) j)) ≡ reg d X (dual (heights f) j)
  source_reg j = sym (dia-reg d s v.source.shape _ (dual_in d s t f v j))

  middle_reg-at : (j : ℕ) → IsDiagram d (middle_reg s f j) × (dia d (middle_reg s f j) ≡ reg d X (dual (heights f) j))
  middle_reg-at j =
      let e = middle_reg-is s f j in
      (subst (IsDiagram d) (sym e) (v.source.shape.regs_are _ (dual_in d s t f v j)), ap (dia d) e ∙ source_reg j)

  simple_reg-at : (j : ℕ) → IsArrow d (simple_reg s f j) × (arr d (simple_reg s f j) ≡ ident d (reg d X (dual (heights f) j)))
  simple_reg-at j =
      let e = simple_reg-is s f j in
      let h = v.source.shape.regs_are _ (dual_in d s t f v j) in
      (subst (IsArrow d) (sym e) (identity_shape d _ h), ap (arr d) e ∙ identity_is d _ h ∙ ap (ident d) (source_reg j))

  simple_sing-at : (i : ℕ) → i < length (sings s) → IsArrow d (identity_tree (sing_at s i)) × (arr d (identity_tree (sing_at s i)) ≡ ident d (sing d X i))
  simple_sing-at i l =
      let h = v.source.shape.sings_are i l in
      (identity_shape d _ h, identity_is d _ h ∙ ap (ident d) (sym (dia-sing d s v.source.shape i l)))

  middle_sing-at : (k : ℕ) → IsDiagram d (middle_sing s f k)
      × (dia d (middle_sing s f k) ≡ laws.at_hit (heights f) k (sing d X (dual (heights f) k)) (reg d X (dual (heights f) k)))
  middle_sing-at k = elim (cases_lt (dual (heights f) k) (dual (heights f) (suc k))) [
    | inl p ↦
        let e = middle_sing-hit s t f k p in
        let m = hit_in k p in (
          subst (IsDiagram d) (sym e) (v.source.shape.sings_are _ m),
          ap (dia d) e ∙ sym (dia-sing d s v.source.shape _ m) ∙ sym (at_hit-yes (heights f) k _ _ p),
        )
    | inr p ↦
        let e = middle_sing-missed s t f k p in (
          subst (IsDiagram d) (sym e) (v.source.shape.regs_are _ (dual_in d s t f v k)),
          ap (dia d) e ∙ source_reg k ∙ sym (at_hit-no (heights f) k _ _ p),
        )
  ]

  middle_fwd-at : (k : ℕ) → IsArrow d (middle_fwd s f k)
      × (arr d (middle_fwd s f k) ≡ laws.at_hit (heights f) k (fwd d X (dual (heights f) k)) (ident d (reg d X (dual (heights f) k))))
  middle_fwd-at k = elim (cases_lt (dual (heights f) k) (dual (heights f) (suc k))) [
    | inl p ↦
        let e = middle_fwd-hit s t f k p in
        let m = hit_in k p in (
          subst (IsArrow d) (sym e) (v.source.shape.fwds_are _ m),
          ap (arr d) e ∙ sym (dia-fwd d s v.source.shape _ m) ∙ sym (at_hit-yes (heights f) k _ _ p),
        )
    | inr p ↦
        let e = middle_fwd-missed s t f k p in
        let r = simple_reg-at k in
        (subst (IsArrow d) (sym e) r.0, ap (arr d) e ∙ r.1 ∙ sym (at_hit-no (heights f) k _ _ p))
  ]

  middle_bwd-at : (k : ℕ) → IsArrow d (middle_bwd s f k)
      × (arr d (middle_bwd s f k) ≡ laws.at_hit (heights f) k (bwd d X (dual (heights f) k)) (ident d (reg d X (dual (heights f) k))))
  middle_bwd-at k = elim (cases_lt (dual (heights f) k) (dual (heights f) (suc k))) [
    | inl p ↦
        let e = middle_bwd-hit s t f k p in
        let m = hit_in k p in (
          subst (IsArrow d) (sym e) (v.source.shape.bwds_are _ m),
          ap (arr d) e ∙ sym (dia-bwd d s v.source.shape _ m) ∙ sym (at_hit-yes (heights f) k _ _ p),
        )
    | inr p ↦
        let e = middle_bwd-missed s t f k p in
        let r = simple_reg-at k in
        (subst (IsArrow d) (sym e) r.0, ap (arr d) e ∙ r.1 ∙ sym (at_hit-no (heights f) k _ _ p))
  ]

  parallel_sing-at : (k : ℕ) → k < length (sings t) → IsArrow d (parallel_sing t f k)
      × (arr d (parallel_sing t f k) ≡ laws.at_hit (heights f) k (arrow_sing d F (dual (heights f) k)) (comp d (fwd d Y k) (arrow_reg d F k)))
  parallel_sing-at k l = elim (cases_lt (dual (heights f) k) (dual (heights f) (suc k))) [
    | inl p ↦
        let e = parallel_sing-hit s t f k p in
        let m : dual (heights f) k < length (sings f) = omega (arith, hit_in k p, heights_is d s t f v, sings_is d s t f v) in (
          subst (IsArrow d) (sym e) (v.shape.sings_are _ m),
          ap (arr d) e ∙ sym (arr-sing d f _ m) ∙ sym (at_hit-yes (heights f) k _ _ p),
        )
    | inr p ↦
        let e = parallel_sing-missed s t f k p in (
          subst (IsArrow d) (sym e) (composite_shape d _ _ (fwd_meets d s t f v k l)),
          ap (arr d) e ∙ sym (fwd_edge d s t f v k l) ∙ sym (at_hit-no (heights f) k _ _ p),
        )
  ]

  -- ---- the middle

  middle_shape : IsDiagram (suc d) (middle_tree s t f)
  unfolding middle_tree
  middle_shape =
      let n = length (sings t) in
      let a = length-tab (middle_reg s f) (length (regs f)) in
      let b = length-tab (middle_sing s f) n in
      let g = length-tab (middle_fwd s f) n in
      let h = length-tab (middle_bwd s f) n in
      let r = regs_is d s t f v in
      IsDiagram-zig d _ _ _ _ (record {
        regs_len = omega arith;
        fwds_len = omega arith;
        bwds_len = omega arith;
        regs_are = λ j l. subst (IsDiagram d) (sym (get-tab (middle_reg s f) (length (regs f)) j nil (omega arith))) (middle_reg-at j).0;
        sings_are = λ k l. subst (IsDiagram d) (sym (get-tab (middle_sing s f) n k nil (omega arith))) (middle_sing-at k).0;
        fwds_are = λ k l. subst (IsArrow d) (sym (get-tab (middle_fwd s f) n k nil (omega arith))) (middle_fwd-at k).0;
        bwds_are = λ k l. subst (IsArrow d) (sym (get-tab (middle_bwd s f) n k nil (omega arith))) (middle_bwd-at k).0;
      })

  middle_is : dia (suc d) (middle_tree s t f) ≡ middle d X Y F
  unfolding middle_tree
  middle_is =
      let n = length (sings t) in
      let m = length (regs f) in
      let M = middle_tree s t f in
      let rs = regs-zig (tab (middle_reg s f) m) (tab (middle_sing s f) n) (tab (middle_fwd s f) n) (tab (middle_bwd s f) n) in
      let ss = sings-zig (tab (middle_reg s f) m) (tab (middle_sing s f) n) (tab (middle_fwd s f) n) (tab (middle_bwd s f) n) in
      let fs = fwds-zig (tab (middle_reg s f) m) (tab (middle_sing s f) n) (tab (middle_fwd s f) n) (tab (middle_bwd s f) n) in
      let bs = bwds-zig (tab (middle_reg s f) m) (tab (middle_sing s f) n) (tab (middle_fwd s f) n) (tab (middle_bwd s f) n) in
      let rl : length (regs M) ≡ m = ap length rs ∙ length-tab (middle_reg s f) m in
      let sl : length (sings M) ≡ n = ap length ss ∙ length-tab (middle_sing s f) n in
      let fl : length (fwds M) ≡ n = ap length fs ∙ length-tab (middle_fwd s f) n in
      let bl : length (bwds M) ≡ n = ap length bs ∙ length-tab (middle_bwd s f) n in
      let r = regs_is d s t f v in
      let tl = target_len in
      let dr = dia-regs_len d M in
      let ds = dia-sings_len d M in
      let df = dia-fwds_len d M in
      let db = dia-bwds_len d M in
      let lr = middle-regs_len d X Y F in
      let ls = middle-sings_len d X Y F in
      let lf = middle-fwds_len d X Y F in
      let lb = middle-bwds_len d X Y F in
      same_diagrams d (dia (suc d) M) (middle d X Y F)
      (omega arith)
      (λ j l. dia-reg_below d M j (omega arith) ∙ ap (λ ts. dia d (get_or ts j nil)) rs ∙ ap (dia d) (get-tab (middle_reg s f) m j nil (omega arith))
      ∙ (middle_reg-at j).1 ∙ sym (middle-reg d X Y F j (omega arith)))
      (omega arith)
      (λ k l. dia-sing_below d M k (omega arith) ∙ ap (λ ts. dia d (get_or ts k nil)) ss ∙ ap (dia d) (get-tab (middle_sing s f) n k nil (omega arith))
      ∙ (middle_sing-at k).1 ∙ sym (middle-sing d X Y F k (omega arith)))
      (omega arith)
      (λ k l. dia-fwd_below d M k (omega arith) ∙ ap (λ ts. arr d (get_or ts k nil)) fs ∙ ap (arr d) (get-tab (middle_fwd s f) n k nil (omega arith))
      ∙ (middle_fwd-at k).1 ∙ sym (middle-fwd d X Y F k (omega arith)))
      (omega arith)
      (λ k l. dia-bwd_below d M k (omega arith) ∙ ap (λ ts. arr d (get_or ts k nil)) bs ∙ ap (arr d) (get-tab (middle_bwd s f) n k nil (omega arith))
      ∙ (middle_bwd-at k).1 ∙ sym (middle-bwd d X Y F k (omega arith)))

  -- ---- the simple part

  simple_shape : IsArrow (suc d) (simple_tree s f)
  unfolding simple_tree
  simple_shape =
      let m = length (regs f) in
      let n = length (sings s) in
      let S = λ (i : ℕ). identity_tree (sing_at s i) in
      let a = length-tab (simple_reg s f) m in
      let b = length-tab S n in
      let r = regs_is d s t f v in
      let h = heights_is d s t f v in
      IsArrow-zag d _ _ _ (record {
        regs_len = omega arith;
        sings_len = omega arith;
        monotone = v.shape.monotone;
        below = λ i l. (let w = v.shape.below i l in omega arith);
        regs_are = λ j l. subst (IsArrow d) (sym (get-tab (simple_reg s f) m j nil (omega arith))) (simple_reg-at j).0;
        sings_are = λ i l. subst (IsArrow d) (sym (get-tab S n i nil (omega arith))) (simple_sing-at i (omega arith)).0;
      })

  simple_is : arr (suc d) (simple_tree s f) ≡ simple_part d X Y F
  unfolding simple_tree
  simple_is =
      let m = length (regs f) in
      let n = length (sings s) in
      let S = λ (i : ℕ). identity_tree (sing_at s i) in
      let A = simple_tree s f in
      let hs = heights-zag (heights f) (tab (simple_reg s f) m) (tab S n) in
      let rs = regs-zag (heights f) (tab (simple_reg s f) m) (tab S n) in
      let ss = sings-zag (heights f) (tab (simple_reg s f) m) (tab S n) in
      let rl : length (regs A) ≡ m = ap length rs ∙ length-tab (simple_reg s f) m in
      let sl : length (sings A) ≡ n = ap length ss ∙ length-tab S n in
      let r = regs_is d s t f v in
      let tl = target_len in
      let xl = dia-sings_len d s in
      let dr = arr-regs_len d A in
      let ds = arr-sings_len d A in
      let lr = simple_part-regs_len d X Y F in
      let ls = simple_part-sings_len d X Y F in
      same_arrows d (arr (suc d) A) (simple_part d X Y F) (hs ∙ sym (simple_part-heights d X Y F))
      (omega arith)
      (λ j l. arr-reg d A j (omega arith) ∙ ap (λ ts. arr d (get_or ts j nil)) rs ∙ ap (arr d) (get-tab (simple_reg s f) m j nil (omega arith))
      ∙ (simple_reg-at j).1 ∙ sym (simple_part-reg d X Y F j (omega arith)))
      (omega arith)
      (λ i l. arr-sing d A i (omega arith) ∙ ap (λ ts. arr d (get_or ts i nil)) ss ∙ ap (arr d) (get-tab S n i nil (omega arith))
      ∙ (simple_sing-at i (omega arith)).1 ∙ sym (simple_part-sing d X Y F i (omega arith)))

  -- ---- the parallel part

  parallel_shape : IsArrow (suc d) (parallel_tree t f)
  unfolding parallel_tree
  parallel_shape =
      let m = length (regs f) in
      let n = length (sings t) in
      let a = length-tab (reg_at f) m in
      let b = length-tab (parallel_sing t f) n in
      let u = length-upto n in
      let r = regs_is d s t f v in
      IsArrow-zag d _ _ _ (record {
        regs_len = omega arith;
        sings_len = omega arith;
        monotone = mono-upto n;
        below = λ i l. (let w = get-upto n i (omega arith) in omega arith);
        regs_are = λ j l. subst (IsArrow d) (sym (get-tab (reg_at f) m j nil (omega arith))) (v.shape.regs_are j (omega arith));
        sings_are = λ k l. subst (IsArrow d) (sym (get-tab (parallel_sing t f) n k nil (omega arith))) (parallel_sing-at k (omega arith)).0;
      })

  parallel_is : arr (suc d) (parallel_tree t f) ≡ parallel_part d X Y F
  unfolding parallel_tree
  parallel_is =
      let m = length (regs f) in
      let n = length (sings t) in
      let B = parallel_tree t f in
      let hs = heights-zag (upto n) (tab (reg_at f) m) (tab (parallel_sing t f) n) in
      let rs = regs-zag (upto n) (tab (reg_at f) m) (tab (parallel_sing t f) n) in
      let ss = sings-zag (upto n) (tab (reg_at f) m) (tab (parallel_sing t f) n) in
      let rl : length (regs B) ≡ m = ap length rs ∙ length-tab (reg_at f) m in
      let sl : length (sings B) ≡ n = ap length ss ∙ length-tab (parallel_sing t f) n in
      let tl = target_len in
      let fl = arr-regs_len d f in
      let dr = arr-regs_len d B in
      let ds = arr-sings_len d B in
      let lr = ap length (parallel_part-regs d X Y F) in
      let ls = parallel_part-sings_len d X Y F in
      same_arrows d (arr (suc d) B) (parallel_part d X Y F) (hs ∙ ap upto (sym tl) ∙ sym (parallel_part-heights d X Y F))
      (omega arith)
      (λ j l. arr-reg d B j (omega arith) ∙ ap (λ ts. arr d (get_or ts j nil)) rs ∙ ap (arr d) (get-tab (reg_at f) m j nil (omega arith))
      ∙ sym (arr-reg d f j (omega arith)) ∙ sym (parallel_part-reg d X Y F j))
      (omega arith)
      (λ k l. arr-sing d B k (omega arith) ∙ ap (λ ts. arr d (get_or ts k nil)) ss ∙ ap (arr d) (get-tab (parallel_sing t f) n k nil (omega arith))
      ∙ (parallel_sing-at k (omega arith)).1 ∙ sym (parallel_part-sing d X Y F k (omega arith)))

  -- ---- the split

  splits_at : IsDegeneracyTree s t f → SplitsAt d s t f (middle_tree s t f) (simple_tree s f) (parallel_tree t f)
  splits_at h =
      let q = from_tree (suc d) s t f v.source v.target v.shape h in
      let split : SplitsInto d X Y F (middle d X Y F) (simple_part d X Y F) (parallel_part d X Y F) =
      shape_splits d X Y F v.source.valid v.target.valid q in
      let one = subst (λ (M : Dia (suc d)). SplitsInto d X Y F M (simple_part d X Y F) (parallel_part d X Y F)) (sym middle_is) split in
      let two = subst (λ (a : Arr (suc d)). SplitsInto d X Y F (dia (suc d) (middle_tree s t f)) a (parallel_part d X Y F)) (sym simple_is) one in
      record {
        source = v.source.shape;
        middle = middle_shape;
        target = v.target.shape;
        shape = v.shape;
        simple = simple_shape;
        parallel = parallel_shape;
        splits = subst (SplitsInto d X Y F (dia (suc d) (middle_tree s t f)) (arr (suc d) (simple_tree s f))) (sym parallel_is) two;
      }

-- ---- at any dimension above 0

pub record HasParts (s t f m a b : Tree) : Type 0 where
  pub splits : SplitsTree s t f m a b
  pub simple : IsValidArrowTree s m a
  pub parallel : IsValidArrowTree m t b
  pub composite : composite_tree b a ≡ f

parts_at : (d : ℕ) (s t f m a b : Tree) → IsValidArrowAt (suc d) s t f → SplitsAt d s t f m a b → HasParts s t f m a b
parts_at d s t f m a b v h =
    let q = h.splits in
    record {
      splits = record { dim = d; at_dim = h };
      simple = record {
        dim = suc d;
        at_dim = record { source = v.source; target = record { shape = h.middle; valid = q.middle }; shape = h.simple; valid = q.simple.valid };
      };
      parallel = record {
        dim = suc d;
        at_dim = record { source = record { shape = h.middle; valid = q.middle }; target = v.target; shape = h.parallel; valid = q.parallel.valid };
      };
      composite = on_arrow_at _ (suc d) a h.simple ∙ ap (arr_tree (suc d)) q.composite ∙ arr_tree-arr (suc d) f h.shape;
    }

parts_above : (n : ℕ) (s t f : Tree) → IsValidArrowAt n s t f → 0 < n → IsDegeneracyTree s t f
    → HasParts s t f (middle_tree s t f) (simple_tree s f) (parallel_tree t f)
parts_above zero s t f v l h = absurd (omega arith)
parts_above (suc d) s t f v l h = parts_at d s t f _ _ _ v (splits_at d s t f v h)

pub parts_of : (s t f : Tree) → IsValidArrowTree s t f → 0 < dimension_of f → IsDegeneracyTree s t f
    → HasParts s t f (middle_tree s t f) (simple_tree s f) (parallel_tree t f)
parts_of s t f v l h = parts_above v.dim s t f v.at_dim (omega (arith, arrow_dimension v.dim f v.at_dim.shape)) h

-- the trees have the right shape, whether f is a degeneracy or not
pub record HavePartShapes (s t f : Tree) : Type 0 where
  pub middle : IsDiagramTree (middle_tree s t f)
  pub simple : IsArrowTree (simple_tree s f)
  pub parallel : IsArrowTree (parallel_tree t f)

shapes_above : (n : ℕ) (s t f : Tree) → IsValidArrowAt n s t f → 0 < n → HavePartShapes s t f
shapes_above zero s t f v l = absurd (omega arith)
shapes_above (suc d) s t f v l = record {
  middle = diagram_tree (suc d) _ (middle_shape d s t f v);
  simple = arrow_tree (suc d) _ (simple_shape d s t f v);
  parallel = arrow_tree (suc d) _ (parallel_shape d s t f v);
}

pub part_shapes : (s t f : Tree) → IsValidArrowTree s t f → 0 < dimension_of f → HavePartShapes s t f
part_shapes s t f v l = shapes_above v.dim s t f v.at_dim (omega (arith, arrow_dimension v.dim f v.at_dim.shape))
