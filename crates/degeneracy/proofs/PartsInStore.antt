-- The parts of a degeneracy of a store, while the store grows: what their nodes describe, and what the maps are.
use Rattle.std.proofs.Common.{◌≡◌, ℕ, suc, ◌+◌, ◌<◌, ◌≤◌, List, length, refl, sym, ap, subst, ◌∙◌, arith}
use Rattle.diagram_terms.specs.Dimension.{dimension_of}
use Rattle.diagram_terms.specs.Dual.{upto, dual}
use Rattle.diagram_terms.specs.Nodes.{picked}
use Rattle.diagram_terms.specs.Operations.{identity_tree}
use Rattle.diagram_terms.specs.Shape.{reg_at, sing_at}
use Rattle.diagram_terms.specs.Tree.{Tree, zig, zag, heights, regs, sings, fwds, bwds}
use Rattle.diagram_terms.proofs.Dimensions.{length-regs, length-fwds, length-bwds}
use Rattle.hashcons.specs.Contents.{Contents, Grows, IsDiagramOf, IsArrowOf, diagram_at, arrow_at}
use Rattle.hashcons.specs.Gathers.{Gathers}
use Rattle.hashcons.proofs.Growth.{gathers-picked}
use Rattle.zigzag_maps.specs.declared.map.Map.{Map}
use Rattle.zigzag_maps.specs.Found.{IsValidMap}
use Rattle.zigzag_maps.proofs.ValidArrows.{valid_parts, valid_shape, source_dimension, target_dimension, arrow_sings_len}
use Rattle.zigzag_maps.proofs.SliceMaps.{arrow_of_map, map_with, same_trees}
use Rattle.degeneracy.specs.DegeneracyTrees.{IsDegeneracyMap}
use Rattle.degeneracy.specs.SplitTrees.{AreParts, middle_reg, middle_sing, middle_fwd, middle_bwd, simple_reg, parallel_sing, middle_tree, simple_tree, parallel_tree}
use Rattle.degeneracy.proofs.PartsOnTrees.{HasParts, parts_of}

-- ---- what the nodes describe

pub described_middle : (c : Contents) (s t f : Tree) (rs ss fs bs : List ℕ)
    → Gathers c.diagrams rs (length (regs f)) (middle_reg s f) → Gathers c.diagrams ss (length (sings t)) (middle_sing s f)
    → Gathers c.arrows fs (length (sings t)) (middle_fwd s f) → Gathers c.arrows bs (length (sings t)) (middle_bwd s f)
    → zig (picked c.diagrams rs) (picked c.diagrams ss) (picked c.arrows fs) (picked c.arrows bs) ≡ middle_tree s t f
unfolding middle_tree
described_middle c s t f rs ss fs bs r u g h =
    let p = gathers-picked c.diagrams rs _ _ r in
    let q = gathers-picked c.diagrams ss _ _ u in
    let m = gathers-picked c.arrows fs _ _ g in
    let n = gathers-picked c.arrows bs _ _ h in
    λ i. zig (p i) (q i) (m i) (n i)

pub described_simple : (c : Contents) (s f : Tree) (hs rs ss : List ℕ) → hs ≡ heights f
    → Gathers c.arrows rs (length (regs f)) (simple_reg s f) → Gathers c.arrows ss (length (sings s)) (λ i. identity_tree (sing_at s i))
    → zag hs (picked c.arrows rs) (picked c.arrows ss) ≡ simple_tree s f
unfolding simple_tree
described_simple c s f hs rs ss h r u =
    let p = gathers-picked c.arrows rs _ _ r in
    let q = gathers-picked c.arrows ss _ _ u in
    λ i. zag (h i) (p i) (q i)

pub described_parallel : (c : Contents) (t f : Tree) (hs rs ss : List ℕ) → hs ≡ upto (length (sings t))
    → Gathers c.arrows rs (length (regs f)) (reg_at f) → Gathers c.arrows ss (length (sings t)) (parallel_sing t f)
    → zag hs (picked c.arrows rs) (picked c.arrows ss) ≡ parallel_tree t f
unfolding parallel_tree
described_parallel c t f hs rs ss h r u =
    let p = gathers-picked c.arrows rs _ _ r in
    let q = gathers-picked c.arrows ss _ _ u in
    λ i. zag (h i) (p i) (q i)

-- ---- lengths, and whether a height goes to k

pub record HasLengths (s t f : Tree) : Type 0 where
  pub source_regs : length (regs s) ≡ suc (length (sings s))
  pub source_fwds : length (fwds s) ≡ length (sings s)
  pub source_bwds : length (bwds s) ≡ length (sings s)
  pub regs_len : length (regs f) ≡ suc (length (sings t))
  pub sings_len : length (sings f) ≡ length (sings s)
  pub dual_in : (k : ℕ) → dual (heights f) k ≤ length (sings s)
  pub target_above : 0 < dimension_of t

pub lengths_of : (c : Contents) (f : Map) → IsValidMap c f → 0 < dimension_of (arrow_at c f.arrow)
    → HasLengths (diagram_at c f.source) (diagram_at c f.target) (arrow_at c f.arrow)
lengths_of c f valid above =
    let v = arrow_of_map c f valid in
    let has = valid_parts _ _ _ v above in
    let sd = source_dimension _ _ _ valid.between in
    let td = target_dimension _ _ _ valid.between in
    let shape = valid_shape (diagram_at c f.source) valid.source.valid in
    let l : 0 < dimension_of (diagram_at c f.source) = omega arith in
    record {
      source_regs = length-regs _ shape l;
      source_fwds = length-fwds _ shape l;
      source_bwds = length-bwds _ shape l;
      regs_len = has.regs_len;
      sings_len = arrow_sings_len _ _ _ v above ∙ has.heights_len;
      dual_in = has.dual_in;
      target_above = omega arith;
    }

module _ (hs : List ℕ) (k at next : ℕ) (p : at ≡ dual hs k) (q : next ≡ dual hs (k + 1)) where
  after_k : dual hs (k + 1) ≡ dual hs (suc k)
  after_k = let one : k + 1 ≡ suc k = omega arith in ap (dual hs) one

  pub hit_now : at < next → dual hs k < dual hs (suc k)
  hit_now l = let e = after_k in omega arith

  pub missed_now : next ≤ at → dual hs (suc k) ≤ dual hs k
  missed_now l = let e = after_k in omega arith

-- ---- the maps

module _ (old new : Contents) (f : Map) (m a b : ℕ) (grows : Grows old new) (valid : IsValidMap old f) (degeneracy : IsDegeneracyMap old f)
    (above : 0 < dimension_of (arrow_at old f.arrow))
    (middle_of : IsDiagramOf new m) (simple_of : IsArrowOf new a) (parallel_of : IsArrowOf new b)
    (middle_is : diagram_at new m ≡ middle_tree (diagram_at old f.source) (diagram_at old f.target) (arrow_at old f.arrow))
    (simple_is : arrow_at new a ≡ simple_tree (diagram_at old f.source) (arrow_at old f.arrow))
    (parallel_is : arrow_at new b ≡ parallel_tree (diagram_at old f.target) (arrow_at old f.arrow)) where
  has : HasParts (diagram_at old f.source) (diagram_at old f.target) (arrow_at old f.arrow)
      (middle_tree (diagram_at old f.source) (diagram_at old f.target) (arrow_at old f.arrow))
      (simple_tree (diagram_at old f.source) (arrow_at old f.arrow)) (parallel_tree (diagram_at old f.target) (arrow_at old f.arrow))
  has = parts_of _ _ _ (arrow_of_map old f valid) above degeneracy

  ps : diagram_at new f.source ≡ diagram_at old f.source
  ps = grows.diagram_trees f.source valid.source.of_store

  pt : diagram_at new f.target ≡ diagram_at old f.target
  pt = grows.diagram_trees f.target valid.target.of_store

  pf : arrow_at new f.arrow ≡ arrow_at old f.arrow
  pf = grows.arrow_trees f.arrow valid.arrow

  has_now : HasParts (diagram_at new f.source) (diagram_at new f.target) (arrow_at new f.arrow) (diagram_at new m) (arrow_at new a) (arrow_at new b)
  has_now =
      let s = diagram_at old f.source in
      let t = diagram_at old f.target in
      let g = arrow_at old f.arrow in
      let x = subst (λ (u : Tree). HasParts s t g (middle_tree s t g) (simple_tree s g) u) (sym parallel_is) has in
      let y = subst (λ (u : Tree). HasParts s t g (middle_tree s t g) u (arrow_at new b)) (sym simple_is) x in
      let z = subst (λ (u : Tree). HasParts s t g u (arrow_at new a) (arrow_at new b)) (sym middle_is) y in
      same_trees (λ (s t g : Tree). HasParts s t g (diagram_at new m) (arrow_at new a) (arrow_at new b)) _ _ _ _ _ _ (sym ps) (sym pt) (sym pf) z

  pub made_parts : AreParts new f (record { source = f.source; target = m; arrow = a }, record { source = m; target = f.target; arrow = b })
  made_parts = record {
    source = refl;
    middle = refl;
    target = refl;
    simple = map_with new _ _ _ _ (record { source = refl; target = refl; arrow = refl }) has_now.simple
        (grows.diagrams f.source valid.source.of_store) middle_of simple_of;
    parallel = map_with new _ _ _ _ (record { source = refl; target = refl; arrow = refl }) has_now.parallel
        middle_of (grows.diagrams f.target valid.target.of_store) parallel_of;
    splits = has_now.splits;
    composite = has_now.composite;
  }
