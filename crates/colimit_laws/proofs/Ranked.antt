-- What ranks say of the objects and arrows of a shape.
use Rattle.std.proofs.Common.{◌≡◌, ℕ, suc, ◌<◌, ◌≤◌, List, length, get_or, sym, ap, ◌∙◌, arith}
use Rattle.std.specs.List.{Contains}
use Rattle.std.proofs.lemmas.List.{get_or-map, length-map}
use Rattle.diagram_terms.specs.Family.{no_dia, length_of, height}
use Rattle.diagram_terms.specs.Dual.{IsMonotone, AreBelow, dual, after}
use Rattle.diagram_terms.proofs.Duals.{dual-le-length, dual_mono, dual-after, get-after, in_fibre, fibre_low, fibre_high, dual_full}
use Rattle.diagram_terms.specs.HeightClasses.{HeightMap}
use Rattle.diagram_terms.specs.Shapes.{object, Shape, ShapeArrow, IsArrowOf, IsShape, heights_of}
use Rattle.diagram_terms.specs.Ranks.{Ranks, ranks_of, rank}
use Rattle.colimit_laws.specs.RankConditions.{AreRanks}
use Rattle.colimit_laws.proofs.Membership.{contains_map}
use Rattle.colimit_laws.proofs.Names.{AllMonotone}

module _ (d : ℕ) (S : Shape (suc d)) where
  pub lengths-len : length (heights_of d S).lengths ≡ length S.objects
  lengths-len = length-map S.objects (λ X. length_of (suc d) X)

  pub length-at : (x : ℕ) → x < length S.objects → get_or (heights_of d S).lengths x 0 ≡ length (object (suc d) S x).sings
  length-at x l = get_or-map (λ X. length_of (suc d) X) S.objects x (no_dia (suc d)) 0 l

  abbrev pub map_of : ShapeArrow (suc d) → HeightMap
  map_of g = record { from = g.from; to = g.to; heights = g.arrow.heights }

  pub map_among : (g : ShapeArrow (suc d)) → Contains S.arrows g → Contains (heights_of d S).maps (map_of g)
  map_among g c = contains_map map_of S.arrows g c

module _ (d : ℕ) (S : Shape (suc d)) (vS : IsShape (suc d) S) (r : Ranks) (ar : AreRanks (heights_of d S) r) where
  pub rows-len : length r.ranks ≡ length S.objects
  rows-len = ar.rows ∙ lengths-len d S

  pub row-len : (x : ℕ) → x < length S.objects → length (ranks_of r x) ≡ length (object (suc d) S x).sings
  row-len x l = ar.columns x (let a = lengths-len d S in omega arith) ∙ length-at d S x l

  pub row-mono : (x : ℕ) → x < length S.objects → IsMonotone (ranks_of r x)
  row-mono x l = ar.monotone x (let a = lengths-len d S in omega arith)

  pub row-below : (x : ℕ) → x < length S.objects → AreBelow (ranks_of r x) r.count
  row-below x l = ar.below x (let a = lengths-len d S in omega arith)

  pub all_monotone : AllMonotone r
  all_monotone x l = row-mono x (let a = rows-len in omega arith)

  -- the dual of the ranks of an object is one of its regular heights
  pub row-dual_within : (x k : ℕ) → x < length S.objects → dual (ranks_of r x) k ≤ length (object (suc d) S x).sings
  row-dual_within x k l = let a = dual-le-length (ranks_of r x) k in let b = row-len x l in omega arith

  pub row-dual_mono : (x j k : ℕ) → x < length S.objects → j ≤ k → dual (ranks_of r x) j ≤ dual (ranks_of r x) k
  row-dual_mono x j k l m = dual_mono (ranks_of r x) (row-mono x l) j k m

  pub row-dual_full : (x : ℕ) → x < length S.objects → dual (ranks_of r x) r.count ≡ length (object (suc d) S x).sings
  row-dual_full x l = dual_full (ranks_of r x) (row-mono x l) r.count r.count (row-below x l) (omega arith) ∙ row-len x l

  pub rank-below : (x i : ℕ) → x < length S.objects → i < length (object (suc d) S x).sings → rank r x i < r.count
  rank-below x i l m = (row-below x l).below i (let a = row-len x l in omega arith)

  -- the heights of x that have the rank k
  pub of_rank-low : (x i k : ℕ) → x < length S.objects → rank r x i ≡ k → dual (ranks_of r x) k ≤ i
  of_rank-low x i k l e = fibre_low (ranks_of r x) (row-mono x l) i k e

  pub of_rank-high : (x i k : ℕ) → x < length S.objects → i < length (object (suc d) S x).sings → rank r x i ≡ k
      → i < dual (ranks_of r x) (suc k)
  of_rank-high x i k l m e = fibre_high (ranks_of r x) (row-mono x l) i k (let a = row-len x l in omega arith) e

  pub has_rank : (x i k : ℕ) → x < length S.objects → dual (ranks_of r x) k ≤ i → i < dual (ranks_of r x) (suc k) → rank r x i ≡ k
  has_rank x i k l low high = in_fibre (ranks_of r x) (row-mono x l) i k low high

  -- ---- along an arrow

  module _ (g : ShapeArrow (suc d)) (c : Contains S.arrows g) where
    pub arrow-of : IsArrowOf (suc d) S g
    arrow-of = vS.arrows g c

    pub row-along : after (ranks_of r g.to) g.arrow.heights ≡ ranks_of r g.from
    row-along = ar.constant (map_of d S g) (map_among d S g c)

    pub rank-along : (i : ℕ) → i < length (object (suc d) S g.from).sings → rank r g.to (height d g.arrow i) ≡ rank r g.from i
    rank-along i l =
        let n = arrow-of.valid.heights_len in
        sym (get-after (ranks_of r g.to) g.arrow.heights i (omega arith)) ∙ ap (λ (hs : List ℕ). get_or hs i 0) row-along

    pub dual-along : (k : ℕ) → dual (ranks_of r g.from) k ≡ dual g.arrow.heights (dual (ranks_of r g.to) k)
    dual-along k =
        let w = arrow-of.to_within in
        let n = row-len g.to w in
        ap (λ (hs : List ℕ). dual hs k) (sym row-along)
        ∙ dual-after (ranks_of r g.to) g.arrow.heights (row-mono g.to w)
        (record { below = λ i l. let b = arrow-of.valid.below.below i l in omega arith }) k
