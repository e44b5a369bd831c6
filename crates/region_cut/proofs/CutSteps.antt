-- What a cut asks of the cuts of slices, and how it is made of them.
use Rattle.std.proofs.Common.{◌≡◌, ℕ, zero, suc, ◌+◌, ◌-◌, ◌<◌, ◌≤◌, List, [], ◌∷◌, ◌++◌, map, get_or, refl, sym, ap, subst, ◌∙◌, arith, Ok, Result}
use Rattle.std.proofs.lemmas.List.{get_or-map, length-map, ext_get_or}
use Rattle.std.proofs.lemmas.List.FromFn.{map-range_with_len_more}
use Rattle.diagram_terms.specs.Tree.{Tree, nil, zag, heights}
use Rattle.diagram_terms.specs.Dimension.{dimension_of, IsArrowTree}
use Rattle.diagram_terms.specs.Dual.{dual, tab}
use Rattle.diagram_terms.specs.Family.{Arr}
use Rattle.diagram_terms.specs.Decoded.{arr, arr_tree}
use Rattle.diagram_terms.specs.Nodes.{picked}
use Rattle.diagram_terms.specs.Shape.{reg_at, sing_at}
use Rattle.diagram_terms.proofs.Dimensions.{arrow_tree}
use Rattle.diagram_terms.proofs.Duals.{length-tab, get-tab}
use Rattle.diagram_terms.proofs.FamilyShapes.{arrow_shape, valid_arrow_fits}
use Rattle.diagram_terms.proofs.Glue.{arr-reg, arr-sing, arr_tree-arr}
use Rattle.smallvec.specs.SmallVec.{SmallVec}
use Rattle.hashcons.specs.Contents.{Contents, IsArrowOf, arrow_at}
use Rattle.hashcons.specs.Made.{MakesArrow, MakesArrows}
use Rattle.hashcons.proofs.OneMoreTree.{Grows-refl}
use Rattle.hashcons.proofs.Growth.{Grows-trans, store-kept, diagram-kept, arrow-kept, diagram_at-kept, arrow_at-kept, gathers-arrows_grow, gathers-picked}
use Rattle.diagram_terms.specs.Cuts.{cut_arrow}
use Rattle.diagram_terms.specs.Regions.{Reg, tab_from, reg_region, sing_region}
use Rattle.region_laws.proofs.RegionParts.{get-tab_from, length-tab_from}
use Rattle.region_laws.proofs.CutArrows.{cuts_of_arrows_are_valid}
use Rattle.region_cut.specs.declared.region.Region.{Region}
use Rattle.region_cut.specs.RegionValues.{region_of}
use Rattle.region_cut.specs.OverRegions.{IsOverSome}
use Rattle.region_cut.specs.CutTrees.{cut_height, cut_arrow_reg, cut_arrow_sing}
use Rattle.region_cut.proofs.SlicesOver.{over_same, over-reg, over-sing, regs_within, sings_within}

pub ruleset growing = (Grows-refl, Grows-trans, store-kept, arrow-kept, diagram-kept)

-- another tree of an arrow
pub over_some : (d : ℕ) (f g : Tree) (V W : Reg d) → f ≡ g → V ≡ W → IsOverSome d f V → IsOverSome d g W
over_some d f g V W p q o = record { source = o.source; over = over_same d _ _ _ _ _ _ refl p q o.over }

-- g may be cut at V, and that gives R
pub record IsCutStep (d : ℕ) (g : Tree) (V : Reg d) (R : Arr d) : Type 0 where
  pub over : IsOverSome d g V
  pub is : arr_tree d (cut_arrow d (arr d g) V) ≡ arr_tree d R

-- where u is f in a store that grew
module _ (d : ℕ) (f u : Tree) (W : Reg (suc d)) (s : IsOverSome (suc d) f W) (same : u ≡ f) where
  pub reg_cut : (k : ℕ) (g : Tree) (V : Reg d) → W.from ≤ k → k ≤ W.to → g ≡ reg_at u k → V ≡ reg_region d W k → IsCutStep d g V (cut_arrow_reg d f W k)
  unfolding cut_arrow_reg
  reg_cut k g V low high p q =
      let l = regs_within d s.source f W s.over in
      let e : g ≡ reg_at f k = p ∙ ap (λ t. reg_at t k) same in
      record {
        over = over_some d _ _ _ _ (sym e) (sym q) (record { source = _; over = over-reg d s.source f W s.over k low high });
        is = λ i. arr_tree d (cut_arrow d ((ap (arr d) e ∙ sym (arr-reg d f k (omega arith))) i) (q i));
      }

  pub sing_cut : (k : ℕ) (g : Tree) (V : Reg d) → dual (heights f) W.from ≤ k → k < dual (heights f) W.to → g ≡ sing_at u k
      → V ≡ sing_region d W (get_or (heights f) k 0) → IsCutStep d g V (cut_arrow_sing d f W k)
  unfolding cut_arrow_sing
  sing_cut k g V low high p q =
      let l = sings_within d s.source f W s.over in
      let e : g ≡ sing_at f k = p ∙ ap (λ t. sing_at t k) same in
      record {
        over = over_some d _ _ _ _ (sym e) (sym q) (record { source = _; over = over-sing d s.source f W s.over k low high });
        is = λ i. arr_tree d (cut_arrow d ((ap (arr d) e ∙ sym (arr-sing d f k (omega arith))) i) (q i));
      }

-- the trees of a list of parts
pub tab_of_parts : {X : Type 0} (h : X → Tree) (G : ℕ → X) (none : X) (a n : ℕ) → tab (λ j. h (G (a + j))) n ≡ map h (tab_from G a n)
tab_of_parts h G none a n =
    let l = length-tab (λ j. h (G (a + j))) n in
    let m = length-tab_from G a n in
    let k = length-map (tab_from G a n) h in
    ext_get_or nil _ _ (omega arith)
    (λ j b. get-tab (λ j. h (G (a + j))) n j nil (omega arith) ∙ ap h (sym (get-tab_from G a n j (a + j) none (omega arith) refl))
    ∙ sym (get_or-map h (tab_from G a n) j none nil (omega arith)))

-- the node that is put last describes the cut
pub described_cut : {E : Type 0} (old mid new : Contents) (d f a b : ℕ) (hs : List ℕ) (rs ss : SmallVec ℕ) (W : Reg (suc d)) → IsArrowOf old f
    → a ≡ dual (heights (arrow_at old f)) W.from → b ≡ dual (heights (arrow_at old f)) W.to
    → hs ≡ tab_from (cut_height d (arrow_at old f) W) a (b - a)
    → MakesArrows {E = E} old mid (suc (W.to - W.from)) (λ j. arr_tree d (cut_arrow_reg d (arrow_at old f) W (W.from + j))) (Ok rs)
    → MakesArrows {E = E} mid new (b - a) (λ i. arr_tree d (cut_arrow_sing d (arrow_at mid f) W (a + i))) (Ok ss)
    → zag hs (picked new.arrows rs.items) (picked new.arrows ss.items) ≡ arr_tree (suc d) (cut_arrow (suc d) (arr (suc d) (arrow_at old f)) W)
unfolding cut_arrow cut_height cut_arrow_reg cut_arrow_sing
described_cut old mid new d f a b hs rs ss W of_store from to h r s =
    let t = arrow_at old f in
    let n = cut_arrow d (arr d nil) (reg_region d W 0) in
    let r2 = gathers-picked new.arrows rs.items _ _ (gathers-arrows_grow mid new rs.items _ _ s.grows r.gathers) in
    let s2 = gathers-picked new.arrows ss.items _ _ s.gathers ∙ ap (λ u. tab (λ i. arr_tree d (cut_arrow_sing d u W (a + i))) (b - a)) (r.grows.arrow_trees f of_store) in
    let r3 = tab_of_parts (arr_tree d) (cut_arrow_reg d t W) n W.from (suc (W.to - W.from)) in
    let s3 = tab_of_parts (arr_tree d) (cut_arrow_sing d t W) n a (b - a) in
    (λ i. zag (h i) ((r2 ∙ r3) i) ((s2 ∙ s3) i))
    ∙ (λ i. zag (tab_from (cut_height d t W) (from i) (to i - from i)) (map (arr_tree d) (tab_from (cut_arrow_reg d t W) W.from (suc (W.to - W.from)))) (map (arr_tree d) (tab_from (cut_arrow_sing d t W) (from i) (to i - from i))))

-- its shape
pub cut_arrow_shape : (d : ℕ) (f : Tree) (W : Reg d) → IsOverSome d f W → IsArrowTree (arr_tree d (cut_arrow d (arr d f) W))
cut_arrow_shape d f W s =
    let o = s.over in
    arrow_tree d _ (arrow_shape d _ (valid_arrow_fits d _ _ _ (cuts_of_arrows_are_valid d s.source o.target (arr d f) W o.valid_source o.valid_target o.valid o.closed)))

-- at dimension 0
pub cut_at_zero : (n : ℕ) (f : Tree) (W : Reg n) → n ≡ 0 → IsOverSome n f W → f ≡ arr_tree n (cut_arrow n (arr n f) W)
unfolding cut_arrow
cut_at_zero zero f W e s = sym (arr_tree-arr zero f s.over.shape)
cut_at_zero (suc n) f W e s = absurd (omega arith)

-- heights that a loop has gathered
pub heights_more : (d a i k : ℕ) (f : Tree) (W : Reg (suc d)) (hs : List ℕ) (h : ℕ) → hs ≡ tab_from (cut_height d f W) a i → a + i ≡ k
    → h ≡ cut_height d f W k → hs ++ h ∷ [] ≡ tab_from (cut_height d f W) a (i + 1)
heights_more d a i k f W hs h e n p = (λ j. e j ++ p j ∷ []) ∙ sym (map-range_with_len_more (cut_height d f W) a i k n)

-- ---- in a store

-- an arrow with slices, in a store that grew
pub above_in : (f u : Tree) → u ≡ f → 0 < dimension_of f → 0 < dimension_of u
above_in f u e l = let p = ap dimension_of e in omega arith

-- what is cut is there already
pub Makes-same : {E : Type 0} (c : Contents) (f : ℕ) (t : Tree) → IsArrowOf c f → arrow_at c f ≡ t → MakesArrow {E = E} c c t (Ok f)
Makes-same c f t l e = record { grows = Grows-refl c; of_store = l; tree = e }

pub Makes-told : {E : Type 0} (old new : Contents) (t u : Tree) (r : Result ℕ E) → t ≡ u → MakesArrow old new t r → MakesArrow old new u r
Makes-told old new t u r e m = subst (λ v. MakesArrow old new v r) e m

module _ (n : ℕ) (f : Tree) (r : Region) (l : 0 < n) where
  one_below : n ≡ suc (n - 1)
  one_below = omega arith

  pub some_below : IsOverSome n f (region_of n r) → IsOverSome (suc (n - 1)) f (region_of (suc (n - 1)) r)
  some_below o = subst (λ m. IsOverSome m f (region_of m r)) one_below o

  pub cut_above : arr_tree (suc (n - 1)) (cut_arrow (suc (n - 1)) (arr (suc (n - 1)) f) (region_of (suc (n - 1)) r)) ≡ arr_tree n (cut_arrow n (arr n f) (region_of n r))
  cut_above = ap (λ m. arr_tree m (cut_arrow m (arr m f) (region_of m r))) (sym one_below)
