-- The normal form of a tree above dimension 0, by those of its slices.
use Rattle.std.proofs.Common.{◌≡◌, ℕ, suc, ◌<◌, ◌≤◌, List, [], ◌∷◌, ◌++◌, length, map, not, ◌&&◌, ◌||◌, nat_lt, sym, ap, subst, ◌∙◌, arith, inl, inr}
use Rattle.std.specs.List.{Contains, filter}
use Rattle.std.proofs.lemmas.List.{map-append, length-map, get_or_default}
use Rattle.std.proofs.lemmas.List.Elements.{Contains-append_cases, Contains-append_right}
use Rattle.std.proofs.lemmas.Simd.{map-map}
use Rattle.diagram_terms.specs.declared.place.Keep.TheVariants as keep
use Rattle.diagram_terms.specs.Composite.{comp}
use Rattle.diagram_terms.specs.Decoded.{dia, arr, dia_tree, arr_tree}
use Rattle.diagram_terms.specs.Dual.{tab, upto}
use Rattle.diagram_terms.specs.Factors.{factor_through}
use Rattle.diagram_terms.specs.Family.{Dia, Arr, reg, sing}
use Rattle.diagram_terms.specs.Least.{Leg, leg_at}
use Rattle.diagram_terms.specs.Loose.{is_identity}
use Rattle.diagram_terms.specs.NormalForms.{Parts, normal_form, regular_slices, slices_over, parts_over, fwd_way, bwd_way, ways_into, fwd_between, bwd_between, is_kept, kept_heights, reg_part, sing_part, assembled}
use Rattle.diagram_terms.specs.Operations.{composite_tree}
use Rattle.diagram_terms.specs.Shape.{IsArrow, reg_at, sing_at, fwd_at, bwd_at}
use Rattle.diagram_terms.specs.Tree.{Tree, zig, zag, sings}
use Rattle.diagram_terms.specs.Valid.{ValidArrow}
use Rattle.diagram_terms.specs.ValidTrees.{IsValidTreeAt}
use Rattle.diagram_terms.proofs.Duals.{get-tab}
use Rattle.diagram_terms.proofs.Glue.{arr-arr_tree, arr_tree-arr, dia_tree-dia, dia-reg, dia-sing, dia-fwd, dia-bwd, dia-sings_len}
use Rattle.diagram_terms.proofs.NotionsOnTrees.{on_arrow_at}
use Rattle.map_laws.proofs.ValidComposites.{composites_are_valid}
use Rattle.normal_form_laws.proofs.Members.{in_head, in_tail, in_none, in_cases, from_upto, from_filter}
use Rattle.hashcons.specs.NormalTrees.{TreeLeg, leg_in}
use Rattle.zigzag_maps.specs.MapTrees.{IsValidArrowAt}
use Rattle.zigzag_maps.proofs.CompositeSlices.{composite_shape}
use Rattle.zigzag_maps.proofs.ValidArrows.{reg_tree, sing_tree, fwd_at_is, bwd_at_is}
use Rattle.degeneracy.specs.FactorTrees.{factor_tree}
use Rattle.degeneracy.proofs.FactorsBySlices.{factor_tree_at}
use Rattle.normalise.specs.LegSlices.{regular_slice_trees, slice_trees_over}
use Rattle.normalise.specs.FormTrees.{leg_tree, normal_tree, reg_normal, fwd_way_tree, bwd_way_tree, way_trees, sing_normal, fwd_tree, bwd_tree, identity_test, is_kept_tree, kept_below, assembled_tree}
use Rattle.normalise.proofs.LeastForms.{normal_tree_at, normal_read, normal_arrow, factor_is_arrow, no_leg, no_tree_leg}
use Rattle.normalise.proofs.SliceTrees.{LegsIn, map_same_in, filter_same_in, regular_read, regular_valid, over_read, over_valid}

composite_tree_at : (d : ℕ) (g f : Tree) → IsArrow d f → composite_tree g f ≡ arr_tree d (comp d (arr d g) (arr d f))
composite_tree_at d g f h = on_arrow_at _ d f h

-- the composite of valid arrows
pub composite_arrow : (d : ℕ) (s m t g f : Tree) → IsValidArrowAt d s m f → IsValidArrowAt d m t g → IsValidArrowAt d s t (composite_tree g f)
composite_arrow d s m t g f a b =
    let is : arr d (composite_tree g f) ≡ comp d (arr d g) (arr d f) = ap (arr d) (composite_tree_at d g f a.shape) ∙ arr-arr_tree d (comp d (arr d g) (arr d f)) in
    record {
      source = a.source;
      target = b.target;
      shape = composite_shape d g f (record { outer = b.shape; inner = a.shape; source = dia d s; middle = dia d m; target = dia d t; inner_valid = a.valid; outer_valid = b.valid });
      valid = subst (ValidArrow d (dia d s) (dia d t)) (sym is)
          (composites_are_valid d (dia d s) (dia d m) (dia d t) (arr d f) (arr d g) a.source.valid a.target.valid b.target.valid a.valid b.valid);
    }

module _ (d : ℕ) (t : Tree) (legs : List TreeLeg) (vt : IsValidTreeAt (suc d) t) (vl : LegsIn (suc d) t legs) where
  abbrev T : Dia (suc d)
  T = dia (suc d) t

  abbrev L : List (Leg (suc d))
  L = map (leg_in (suc d)) legs

  abbrev R : List (Leg d)
  R = tab (λ j. normal_form keep.Free d (reg d T j) (regular_slices d L j)) (suc (length T.sings))

  abbrev P : Parts d
  P = parts_over d (normal_form keep.Free d) T L R

  -- ---- regular slices

  reg_read : (j : ℕ) → j ≤ length (sings t) → leg_in d (reg_normal t legs j) ≡ leg_at d R j
  reg_read j l =
      let p = dia-reg d t vt.shape j l in
      let q = regular_read d t legs vl j l in
      normal_read d (reg_at t j) (regular_slice_trees legs j) (reg_tree d t vt j l) (regular_valid d t legs vl j l)
      ∙ (λ i. normal_form keep.Free d (sym p i) (sym q i))
      ∙ sym (get-tab (λ j. normal_form keep.Free d (reg d T j) (regular_slices d L j)) (suc (length T.sings)) j (no_leg d) (omega (arith, dia-sings_len d t)))

  pub reg_arrow : (j : ℕ) → j ≤ length (sings t) → IsValidArrowAt d (reg_normal t legs j).source (reg_at t j) (reg_normal t legs j).arrow
  reg_arrow j l = normal_arrow d (reg_at t j) (regular_slice_trees legs j) (reg_tree d t vt j l) (regular_valid d t legs vl j l)

  -- ---- what leads into a singular slice

  module _ (k : ℕ) (l : k < length (sings t)) where
    fwd_arrow : IsValidArrowAt d (fwd_way_tree t legs k).source (sing_at t k) (fwd_way_tree t legs k).arrow
    fwd_arrow = composite_arrow d _ (reg_at t k) (sing_at t k) (fwd_at t k) _ (reg_arrow k (omega arith)) (fwd_at_is d t vt k l)

    bwd_arrow : IsValidArrowAt d (bwd_way_tree t legs k).source (sing_at t k) (bwd_way_tree t legs k).arrow
    bwd_arrow = composite_arrow d _ (reg_at t (suc k)) (sing_at t k) (bwd_at t k) _ (reg_arrow (suc k) l) (bwd_at_is d t vt k l)

    fwd_read : leg_in d (fwd_way_tree t legs k) ≡ fwd_way d T R k
    fwd_read =
        let a = (reg_normal t legs k).arrow in
        let p = reg_read k (omega arith) in
        let q = sym (dia-fwd d t vt.shape k l) in
        let is = ap (arr d) (composite_tree_at d (fwd_at t k) a (reg_arrow k (omega arith)).shape) ∙ arr-arr_tree d (comp d (arr d (fwd_at t k)) (arr d a))
        ∙ (λ i. comp d (q i) (p i).arrow) in
        λ i. record { source = (p i).source; arrow = is i }

    bwd_read : leg_in d (bwd_way_tree t legs k) ≡ bwd_way d T R k
    bwd_read =
        let a = (reg_normal t legs (suc k)).arrow in
        let p = reg_read (suc k) l in
        let q = sym (dia-bwd d t vt.shape k l) in
        let is = ap (arr d) (composite_tree_at d (bwd_at t k) a (reg_arrow (suc k) l).shape) ∙ arr-arr_tree d (comp d (arr d (bwd_at t k)) (arr d a))
        ∙ (λ i. comp d (q i) (p i).arrow) in
        λ i. record { source = (p i).source; arrow = is i }

    ways_read : map (leg_in d) (way_trees t legs k) ≡ ways_into d T L R k
    ways_read =
        let o = over_read d t legs vl k in
        map-append (leg_in d) (slice_trees_over legs k) (fwd_way_tree t legs k ∷ bwd_way_tree t legs k ∷ [])
        ∙ (λ i. sym o i ++ fwd_read i ∷ bwd_read i ∷ [])

    ways_valid : LegsIn d (sing_at t k) (way_trees t legs k)
    ways_valid g c = elim (Contains-append_cases (slice_trees_over legs k) (fwd_way_tree t legs k ∷ bwd_way_tree t legs k ∷ []) g c) [
      | inl o ↦ over_valid d t legs vl k g o
      | inr o ↦ elim (in_cases (fwd_way_tree t legs k) g (bwd_way_tree t legs k ∷ []) o) [
        | inl e ↦ subst (λ (x : TreeLeg). IsValidArrowAt d x.source (sing_at t k) x.arrow) e fwd_arrow
        | inr m ↦ elim (in_cases (bwd_way_tree t legs k) g [] m) [
          | inl e ↦ subst (λ (x : TreeLeg). IsValidArrowAt d x.source (sing_at t k) x.arrow) e bwd_arrow
          | inr n ↦ absurd (in_none g n)
        ]
      ]
    ]

    -- ---- the singular slice, and the legs into it

    sing_read : leg_in d (sing_normal t legs k) ≡ sing_part d P k
    sing_read =
        let p = dia-sing d t vt.shape k l in
        normal_read d (sing_at t k) (way_trees t legs k) (sing_tree d t vt k l) ways_valid
        ∙ (λ i. normal_form keep.Free d (sym p i) (ways_read i))
        ∙ sym (get-tab (λ k. normal_form keep.Free d (sing d T k) (ways_into d T L R k)) (length T.sings) k (no_leg d) (omega (arith, dia-sings_len d t)))

    sing_arrow : IsValidArrowAt d (sing_normal t legs k).source (sing_at t k) (sing_normal t legs k).arrow
    sing_arrow = normal_arrow d (sing_at t k) (way_trees t legs k) (sing_tree d t vt k l) ways_valid

    fwd_between_read : fwd_tree t legs k ≡ arr_tree d (fwd_between d T P k)
    fwd_between_read =
        factor_tree_at d (sing_normal t legs k).arrow (fwd_way_tree t legs k).arrow fwd_arrow.shape
        ∙ (λ i. arr_tree d (factor_through d (sing_read i).arrow (fwd_read i).arrow))

    bwd_between_read : bwd_tree t legs k ≡ arr_tree d (bwd_between d T P k)
    bwd_between_read =
        factor_tree_at d (sing_normal t legs k).arrow (bwd_way_tree t legs k).arrow bwd_arrow.shape
        ∙ (λ i. arr_tree d (factor_through d (sing_read i).arrow (bwd_read i).arrow))

    over_len : length (slice_trees_over legs k) ≡ length (slices_over d L k)
    over_len = sym (length-map (slice_trees_over legs k) (leg_in d)) ∙ ap length (sym (over_read d t legs vl k))

    in_fwd : Contains (way_trees t legs k) (fwd_way_tree t legs k)
    in_fwd = Contains-append_right (slice_trees_over legs k) (fwd_way_tree t legs k ∷ bwd_way_tree t legs k ∷ []) (fwd_way_tree t legs k)
        (in_head (fwd_way_tree t legs k) (bwd_way_tree t legs k ∷ []))

    in_bwd : Contains (way_trees t legs k) (bwd_way_tree t legs k)
    in_bwd = Contains-append_right (slice_trees_over legs k) (fwd_way_tree t legs k ∷ bwd_way_tree t legs k ∷ []) (bwd_way_tree t legs k)
        (in_tail (fwd_way_tree t legs k) (bwd_way_tree t legs k) (bwd_way_tree t legs k ∷ []) (in_head (bwd_way_tree t legs k) []))

    test_read : (g : TreeLeg) → Contains (way_trees t legs k) g → (f : Arr d) → factor_tree (sing_normal t legs k).arrow g.arrow ≡ arr_tree d f
        → identity_test (factor_tree (sing_normal t legs k).arrow g.arrow) ≡ is_identity d f
    test_read g c f e =
        on_arrow_at is_identity d (factor_tree (sing_normal t legs k).arrow g.arrow)
        (subst (λ (x : TreeLeg). IsArrow d (factor_tree (sing_normal t legs k).arrow x.arrow)) (sym (get_or_default (way_trees t legs k) c.0 g no_tree_leg c.1) ∙ c.2)
        (factor_is_arrow d (sing_at t k) (way_trees t legs k) (sing_tree d t vt k l) ways_valid c.0 c.1))
        ∙ ap (is_identity d) (ap (arr d) e ∙ arr-arr_tree d f)

    kept_read : is_kept_tree t legs k ≡ is_kept d T L P k
    kept_read =
        let p = test_read (fwd_way_tree t legs k) in_fwd (fwd_between d T P k) fwd_between_read in
        let q = test_read (bwd_way_tree t legs k) in_bwd (bwd_between d T P k) bwd_between_read in
        λ i. not (p i && q i) || nat_lt 0 (length_path i)
      where
        length_path : length (slice_trees_over legs k) ≡ length (slices_over d L k)
        length_path = over_len

  -- ---- put together

  kept_same : kept_below t legs (length (sings t)) ≡ kept_heights d T L P
  kept_same =
      filter_same_in (is_kept_tree t legs) (is_kept d T L P) (upto (length (sings t))) (λ k c. kept_read k (from_upto (length (sings t)) k c))
      ∙ ap (λ n. filter (is_kept d T L P) (upto n)) (sym (dia-sings_len d t))

  kept_within : (k : ℕ) → Contains (kept_below t legs (length (sings t))) k → k < length (sings t)
  kept_within k c = from_upto (length (sings t)) k (from_filter (is_kept_tree t legs) (upto (length (sings t))) k c).0

  reg_source_is : (j : ℕ) → j ≤ length (sings t) → dia_tree d (reg_part d P j).source ≡ (reg_normal t legs j).source
  reg_source_is j l = ap (λ (g : Leg d). dia_tree d g.source) (sym (reg_read j l)) ∙ dia_tree-dia d (reg_normal t legs j).source (reg_arrow j l).source.shape

  reg_arrow_is : (j : ℕ) → j ≤ length (sings t) → arr_tree d (reg_part d P j).arrow ≡ (reg_normal t legs j).arrow
  reg_arrow_is j l = ap (λ (g : Leg d). arr_tree d g.arrow) (sym (reg_read j l)) ∙ arr_tree-arr d (reg_normal t legs j).arrow (reg_arrow j l).shape

  sing_source_is : (k : ℕ) → k < length (sings t) → dia_tree d (sing_part d P k).source ≡ (sing_normal t legs k).source
  sing_source_is k l = ap (λ (g : Leg d). dia_tree d g.source) (sym (sing_read k l)) ∙ dia_tree-dia d (sing_normal t legs k).source (sing_arrow k l).source.shape

  sing_arrow_is : (k : ℕ) → k < length (sings t) → arr_tree d (sing_part d P k).arrow ≡ (sing_normal t legs k).arrow
  sing_arrow_is k l = ap (λ (g : Leg d). arr_tree d g.arrow) (sym (sing_read k l)) ∙ arr_tree-arr d (sing_normal t legs k).arrow (sing_arrow k l).shape

  regs_is_read : map (dia_tree d) (map (λ k. (reg_part d P k).source) (kept_below t legs (length (sings t)) ++ length T.sings ∷ []))
      ≡ map (λ k. (reg_normal t legs k).source) (kept_below t legs (length (sings t)) ++ length (sings t) ∷ [])
  regs_is_read =
      map-map (dia_tree d) (λ k. (reg_part d P k).source) (kept_below t legs (length (sings t)) ++ length T.sings ∷ [])
      ∙ ap (λ n. map (λ k. dia_tree d (reg_part d P k).source) (kept_below t legs (length (sings t)) ++ n ∷ [])) (dia-sings_len d t)
      ∙ map_same_in (λ k. dia_tree d (reg_part d P k).source) (λ k. (reg_normal t legs k).source) (kept_below t legs (length (sings t)) ++ length (sings t) ∷ [])
      (λ k c. reg_source_is k (elim (Contains-append_cases (kept_below t legs (length (sings t))) (length (sings t) ∷ []) k c) [
        | inl o ↦ let b = kept_within k o in omega arith
        | inr o ↦ elim (in_cases (length (sings t)) k [] o) [ inl e ↦ omega arith | inr n ↦ absurd (in_none k n) ]
      ]))

  over_kept : (f g : ℕ → Tree) → ((k : ℕ) → k < length (sings t) → f k ≡ g k) → map f (kept_below t legs (length (sings t))) ≡ map g (kept_below t legs (length (sings t)))
  over_kept f g h = map_same_in f g (kept_below t legs (length (sings t))) (λ k c. h k (kept_within k c))

  arrow_regs_read : map (arr_tree d) (map (λ (r : Leg d). r.arrow) R) ≡ tab (λ j. (reg_normal t legs j).arrow) (suc (length (sings t)))
  arrow_regs_read =
      let f = λ (j : ℕ). normal_form keep.Free d (reg d T j) (regular_slices d L j) in
      let n = dia-sings_len d t in
      map-map (arr_tree d) (λ (r : Leg d). r.arrow) R
      ∙ map-map (λ (r : Leg d). arr_tree d r.arrow) f (upto (suc (length T.sings)))
      ∙ ap (λ m. map (λ j. arr_tree d (f j).arrow) (upto (suc m))) n
      ∙ map_same_in (λ j. arr_tree d (f j).arrow) (λ j. (reg_normal t legs j).arrow) (upto (suc (length (sings t))))
      (λ j c. let b = from_upto (suc (length (sings t))) j c in
      ap (λ (r : Leg d). arr_tree d r.arrow) (sym (get-tab f (suc (length T.sings)) j (no_leg d) (omega arith))) ∙ reg_arrow_is j (omega arith))

  assembled_read : leg_tree (suc d) (assembled d T P (kept_below t legs (length (sings t)))) ≡ assembled_tree t legs
  assembled_read =
      let kept = kept_below t legs (length (sings t)) in
      let ss = map-map (dia_tree d) (λ k. (sing_part d P k).source) kept ∙ over_kept (λ k. dia_tree d (sing_part d P k).source) (λ k. (sing_normal t legs k).source) sing_source_is in
      let fs = map-map (arr_tree d) (fwd_between d T P) kept ∙ over_kept (λ k. arr_tree d (fwd_between d T P k)) (fwd_tree t legs) (λ k l. sym (fwd_between_read k l)) in
      let bs = map-map (arr_tree d) (bwd_between d T P) kept ∙ over_kept (λ k. arr_tree d (bwd_between d T P k)) (bwd_tree t legs) (λ k l. sym (bwd_between_read k l)) in
      let xs = map-map (arr_tree d) (λ k. (sing_part d P k).arrow) kept ∙ over_kept (λ k. arr_tree d (sing_part d P k).arrow) (λ k. (sing_normal t legs k).arrow) sing_arrow_is in
      λ i. record { source = zig (regs_is_read i) (ss i) (fs i) (bs i); arrow = zag kept (arrow_regs_read i) (xs i) }

  pub normal_assembled : normal_tree t legs ≡ assembled_tree t legs
  unfolding normal_form
  normal_assembled =
      normal_tree_at (suc d) t legs vt.shape
      ∙ ap (λ ks. leg_tree (suc d) (assembled d T P ks)) (sym kept_same)
      ∙ assembled_read
