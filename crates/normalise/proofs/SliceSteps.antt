-- The slices of a leg at its first heights, and at one height more.
use Rattle.std.proofs.Common.{◌≡◌, ℕ, zero, suc, ◌+◌, ◌-◌, ◌<◌, ◌≤◌, List, [], ◌∷◌, ◌++◌, length, map, get_or, nat_eq, refl, sym, ap, subst, ◌∙◌, arith}
use Rattle.std.specs.List.{filter}
use Rattle.std.proofs.lemmas.Bool.{eq-eqb, ne_eqb}
use Rattle.diagram_terms.specs.Dimension.{dimension_of}
use Rattle.diagram_terms.specs.Dual.{IsMonotone, dual, upto}
use Rattle.diagram_terms.specs.Tree.{Tree, heights}
use Rattle.diagram_terms.proofs.Decisions.{dual_next}
use Rattle.diagram_terms.proofs.Dimensions.{arrow_tree}
use Rattle.diagram_terms.proofs.Duals.{dual-le-length, fibre_high, fibre_low, in_fibre}
use Rattle.hashcons.specs.Contents.{Contents, arrow_at, leg_of}
use Rattle.hashcons.specs.NormalTrees.{TreeLeg}
use Rattle.zigzag_maps.specs.declared.map.Map.{Map}
use Rattle.zigzag_maps.specs.Found.{IsValidMap}
use Rattle.zigzag_maps.proofs.CompositeSlices.{monotone_heights}
use Rattle.zigzag_maps.proofs.SliceMaps.{arrow_of_map}
use Rattle.zigzag_maps.proofs.ValidArrows.{valid_parts}
use Rattle.normalise.specs.LegSlices.{sing_leg_tree, first_slices_to, slices_to}
use Rattle.normalise.specs.NormalMaps.{as_leg}
use Rattle.normalise.specs.StoreForms.{AreLegsWith, IsLegInto, added}
use Rattle.normalise.proofs.LeftSteps.{upto_more, filter_one, map_added, legs_push}

first_more : (k : ℕ) (g : TreeLeg) (i : ℕ)
    → first_slices_to k g (i + 1) ≡ added (nat_eq (get_or (heights g.arrow) i 0) k) (first_slices_to k g i) (sing_leg_tree g i)
first_more k g i =
    let goes = λ (j : ℕ). nat_eq (get_or (heights g.arrow) j 0) k in
    ap (λ js. map (sing_leg_tree g) (filter goes js)) (upto_more i) ∙ ap (map (sing_leg_tree g)) (filter_one goes (upto i) i)
    ∙ map_added (sing_leg_tree g) (goes i) (filter goes (upto i)) i

-- none of the heights below those that go to k
none_below : (k : ℕ) (g : TreeLeg) (n : ℕ) → IsMonotone (heights g.arrow) → n ≤ dual (heights g.arrow) k → first_slices_to k g n ≡ []
none_below k g zero m l = refl
none_below k g (suc n) m l =
    let other : get_or (heights g.arrow) n 0 ≡ k → ⊥ = λ e. let low = fibre_low (heights g.arrow) m n k e in omega arith in
    ap (first_slices_to k g) (let e : suc n ≡ n + 1 = omega arith in e)
    ∙ first_more k g n ∙ ap (λ b. added b (first_slices_to k g n) (sing_leg_tree g n)) (ne_eqb _ _ other) ∙ none_below k g n m (omega arith)

-- nor of those behind them
none_above : (k : ℕ) (g : TreeLeg) (n : ℕ) → IsMonotone (heights g.arrow) → dual (heights g.arrow) (suc k) + n ≤ length (heights g.arrow)
    → first_slices_to k g (dual (heights g.arrow) (suc k) + n) ≡ first_slices_to k g (dual (heights g.arrow) (suc k))
none_above k g zero m l = ap (first_slices_to k g) (let e : dual (heights g.arrow) (suc k) + 0 ≡ dual (heights g.arrow) (suc k) = omega arith in e)
none_above k g (suc n) m l =
    let end = dual (heights g.arrow) (suc k) in
    let i : ℕ = end + n in
    let other : get_or (heights g.arrow) i 0 ≡ k → ⊥ = λ e. let high = fibre_high (heights g.arrow) m i k (omega arith) e in omega arith in
    ap (first_slices_to k g) (let e : end + suc n ≡ i + 1 = omega arith in e)
    ∙ first_more k g i ∙ ap (λ b. added b (first_slices_to k g i) (sing_leg_tree g i)) (ne_eqb _ _ other) ∙ none_above k g n m (omega arith)

module _ (c : Contents) (k : ℕ) (x : ℕ × ℕ) (i : ℕ) (xs : List (ℕ × ℕ)) where
  abbrev g : TreeLeg
  g = leg_of c x

  module _ (t : Tree) (h : AreLegsWith c t (first_slices_to k g i) xs) where
    -- a height that goes to k adds its slice
    pub slices_push : (y : ℕ × ℕ) → get_or (heights g.arrow) i 0 ≡ k → IsLegInto c t y → leg_of c y ≡ sing_leg_tree g i
        → AreLegsWith c t (first_slices_to k g (i + 1)) (xs ++ y ∷ [])
    slices_push y e p q =
        subst (λ gs. AreLegsWith c t gs (xs ++ y ∷ [])) (sym (first_more k g i ∙ ap (λ b. added b (first_slices_to k g i) (sing_leg_tree g i)) (eq-eqb _ _ e)))
        (legs_push c t (first_slices_to k g i) xs y (sing_leg_tree g i) h p q)

module _ (c : Contents) (m : Map) (k : ℕ) (v : IsValidMap c m) (above : 0 < dimension_of (arrow_at c m.arrow)) where
  abbrev hs : List ℕ
  hs = heights (arrow_at c m.arrow)

  abbrev leg : TreeLeg
  leg = leg_of c (as_leg m)

  rises : IsMonotone hs
  rises =
      let a = arrow_of_map c m v in
      monotone_heights _ (arrow_tree a.dim _ a.at_dim.shape) above

  pub no_slices : (n : ℕ) → n ≡ dual hs k → first_slices_to k leg n ≡ []
  no_slices n e = none_below k leg n rises (omega arith)

  pub goes_to : (n i : ℕ) → n ≡ suc k → dual hs k ≤ i → i < dual hs n → get_or hs i 0 ≡ k
  goes_to n i e l h = in_fibre hs rises i k l (subst (λ x. i < dual hs x) e h)

  pub within : (n i : ℕ) → i < dual hs n → i < length hs
  within n i l = let d = dual-le-length hs n in omega arith

  pub starts_before : (n : ℕ) → n ≡ suc k → dual hs k ≤ dual hs n
  starts_before n e = subst (λ x. dual hs k ≤ dual hs x) (sym e) (dual_next hs k)

  -- those at all of its heights
  pub all_slices : (n end : ℕ) → n ≡ suc k → end ≡ dual hs n → first_slices_to k leg end ≡ slices_to k leg
  all_slices n end e is =
      let last : end ≡ dual hs (suc k) = is ∙ ap (dual hs) e in
      let d = dual-le-length hs (suc k) in
      let rest = none_above k leg (length hs - dual hs (suc k)) rises (omega arith) in
      ap (first_slices_to k leg) last ∙ sym rest
      ∙ ap (first_slices_to k leg) ((let l : dual hs (suc k) + (length hs - dual hs (suc k)) ≡ length hs = omega arith in l) ∙ (valid_parts _ _ _ (arrow_of_map c m v) above).heights_len)
