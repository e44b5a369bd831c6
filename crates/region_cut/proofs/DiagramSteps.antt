-- What the cut of a diagram asks of the cuts of its slices and legs, and how it is made of them.
use Rattle.std.proofs.Common.{◌≡◌, ℕ, zero, suc, ◌+◌, ◌-◌, ◌<◌, ◌≤◌, List, length, [], ◌∷◌, ◌++◌, refl, sym, ap, subst, ◌∙◌, arith, Ok, Result}
use Rattle.diagram_terms.specs.Tree.{Tree, zig, regs, sings, fwds, bwds}
use Rattle.diagram_terms.specs.Dimension.{IsDiagramTree}
use Rattle.diagram_terms.specs.Dual.{tab}
use Rattle.diagram_terms.specs.Family.{Dia, no_dia, no_arr, reg, sing}
use Rattle.diagram_terms.specs.Decoded.{dia, arr, dia_tree, arr_tree}
use Rattle.diagram_terms.specs.Nodes.{picked}
use Rattle.diagram_terms.specs.Shape.{reg_at, sing_at, fwd_at, bwd_at}
use Rattle.diagram_terms.specs.Valid.{Valid}
use Rattle.diagram_terms.proofs.Dimensions.{diagram_tree}
use Rattle.diagram_terms.proofs.FamilyShapes.{diagram_shape, valid_fits}
use Rattle.diagram_terms.proofs.Glue.{dia-reg, dia-sing, dia-fwd, dia-bwd, dia-sings_len, dia_tree-dia}
use Rattle.smallvec.specs.SmallVec.{SmallVec}
use Rattle.hashcons.specs.Contents.{Contents, Grows, IsDiagramOf, diagram_at}
use Rattle.hashcons.specs.Made.{MakesDiagram, MakesArrows}
use Rattle.hashcons.specs.Nodes.{AreDiagramChildren}
use Rattle.hashcons.proofs.OneMoreTree.{Grows-refl}
use Rattle.hashcons.proofs.Growth.{Grows-trans, gathers-diagrams_grow, gathers-arrows_grow, gathers-diagram_more, gathers-picked, gathers-below}
use Rattle.hashcons.specs.Gathers.{Gathers}
use Rattle.diagram_terms.specs.Cuts.{cut_arrow, cut_diagram}
use Rattle.diagram_terms.specs.ClosedRegions.{IsClosedRegion}
use Rattle.diagram_terms.specs.Regions.{Reg, reg_region, sing_region}
use Rattle.region_laws.proofs.PreimageCases.{closed_reg, closed_sing}
use Rattle.region_laws.proofs.CutDiagrams.{cuts_of_diagrams_are_valid}
use Rattle.region_cut.specs.declared.region.Region.{Region}
use Rattle.region_cut.specs.OverRegions.{HasRegion}
use Rattle.region_cut.specs.CutTrees.{MakesDiagrams, cut_reg, cut_sing, cut_fwd, cut_bwd}
use Rattle.region_cut.specs.RegionValues.{region_of}
use Rattle.region_cut.proofs.CutSteps.{IsCutStep, over_some, tab_of_parts}
use Rattle.region_cut.proofs.SlicesOver.{over-fwd, over-bwd}

-- g may be cut at V, and that gives R
pub record IsDiagramStep (d : ℕ) (g : Tree) (V : Reg d) (R : Dia d) : Type 0 where
  pub has : HasRegion d g V
  pub is : dia_tree d (cut_diagram d (dia d g) V) ≡ dia_tree d R

has_same : (d : ℕ) (t u : Tree) (V W : Reg d) → t ≡ u → V ≡ W → HasRegion d t V → HasRegion d u W
has_same d t u V W p q h = subst (λ (W : Reg d). HasRegion d u W) q (subst (λ (t : Tree). HasRegion d t V) p h)

-- another tree of a diagram
pub has_there : (d : ℕ) (t u : Tree) (W : Reg d) → u ≡ t → HasRegion d t W → HasRegion d u W
has_there d t u W e h = has_same d t u W W (sym e) refl h

-- the parts that the interval has
module _ (d : ℕ) (t : Tree) (W : Reg (suc d)) (h : HasRegion (suc d) t W) where
  pub interval : W.from ≤ W.to
  interval = h.closed.region.order

  pub interval_end : W.to ≤ length (sings t)
  interval_end = omega (arith, h.closed.region.within, dia-sings_len d t)

  pub regs_end : W.to < length (regs t)
  regs_end = omega (arith, interval_end, h.shape.regs_len)

  pub fwds_end : W.to ≤ length (fwds t)
  fwds_end = omega (arith, interval_end, h.shape.fwds_len)

  pub bwds_end : W.to ≤ length (bwds t)
  bwds_end = omega (arith, interval_end, h.shape.bwds_len)

-- where u is t in a store that grew
module _ (d : ℕ) (t u : Tree) (W : Reg (suc d)) (h : HasRegion (suc d) t W) (same : u ≡ t) where
  abbrev X : Dia (suc d)
  X = dia (suc d) t

  pub reg_step : (k : ℕ) (g : Tree) (V : Reg d) → W.from ≤ k → k ≤ W.to → g ≡ reg_at u k → V ≡ reg_region d W k → IsDiagramStep d g V (cut_reg d t W k)
  unfolding cut_reg
  reg_step k g V low high p q =
      let l = interval_end d t W h in
      let n = dia-sings_len d t in
      let e : g ≡ reg_at t k = p ∙ ap (λ t. reg_at t k) same in
      let x : reg d X k ≡ dia d (reg_at t k) = dia-reg d t h.shape k (omega arith) in
      record {
        has = has_same d _ _ _ _ (sym e) (sym q) (record {
          shape = h.shape.regs_are k (omega arith);
          valid = subst (Valid d) x (h.valid.regs k (omega arith));
          closed = subst (λ Y. IsClosedRegion d Y (reg_region d W k)) x (closed_reg d X W h.closed k low high);
        });
        is = λ i. dia_tree d (cut_diagram d ((ap (dia d) e ∙ sym x) i) (q i));
      }

  pub sing_step : (k : ℕ) (g : Tree) (V : Reg d) → W.from ≤ k → k < W.to → g ≡ sing_at u k → V ≡ sing_region d W k → IsDiagramStep d g V (cut_sing d t W k)
  unfolding cut_sing
  sing_step k g V low high p q =
      let l = interval_end d t W h in
      let n = dia-sings_len d t in
      let e : g ≡ sing_at t k = p ∙ ap (λ t. sing_at t k) same in
      let x : sing d X k ≡ dia d (sing_at t k) = dia-sing d t h.shape k (omega arith) in
      record {
        has = has_same d _ _ _ _ (sym e) (sym q) (record {
          shape = h.shape.sings_are k (omega arith);
          valid = subst (Valid d) x (h.valid.sings k (omega arith));
          closed = subst (λ Y. IsClosedRegion d Y (sing_region d W k)) x (closed_sing d X W h.closed k low high);
        });
        is = λ i. dia_tree d (cut_diagram d ((ap (dia d) e ∙ sym x) i) (q i));
      }

  pub fwd_step : (k : ℕ) (g : Tree) (V : Reg d) → W.from ≤ k → k < W.to → g ≡ fwd_at u k → V ≡ sing_region d W k → IsCutStep d g V (cut_fwd d t W k)
  unfolding cut_fwd
  fwd_step k g V low high p q =
      let l = interval_end d t W h in
      let e : g ≡ fwd_at t k = p ∙ ap (λ t. fwd_at t k) same in
      record {
        over = over_some d _ _ _ _ (sym e) (sym q) (record { source = _; over = over-fwd d t h.shape h.valid k _ (omega arith) (closed_sing d X W h.closed k low high) });
        is = λ i. arr_tree d (cut_arrow d ((ap (arr d) e ∙ sym (dia-fwd d t h.shape k (omega arith))) i) (q i));
      }

  pub bwd_step : (k : ℕ) (g : Tree) (V : Reg d) → W.from ≤ k → k < W.to → g ≡ bwd_at u k → V ≡ sing_region d W k → IsCutStep d g V (cut_bwd d t W k)
  unfolding cut_bwd
  bwd_step k g V low high p q =
      let l = interval_end d t W h in
      let e : g ≡ bwd_at t k = p ∙ ap (λ t. bwd_at t k) same in
      record {
        over = over_some d _ _ _ _ (sym e) (sym q) (record { source = _; over = over-bwd d t h.shape h.valid k _ (omega arith) (closed_sing d X W h.closed k low high) });
        is = λ i. arr_tree d (cut_arrow d ((ap (arr d) e ∙ sym (dia-bwd d t h.shape k (omega arith))) i) (q i));
      }

-- ---- in a store

-- one diagram more
pub makes-diagram_more : {E : Type 0} (old new : Contents) (ids : List ℕ) (n a : ℕ) (f : ℕ → Tree) (t : Tree) → Gathers old.diagrams ids n f
    → MakesDiagram {E = E} old new t (Ok a) → t ≡ f n → Gathers new.diagrams (ids ++ a ∷ []) (n + 1) f
makes-diagram_more old new ids n a f t h m e = gathers-diagram_more old new ids n a f h m.grows m.of_store (m.tree ∙ e)

-- the parts, made one kind after the other
module _ {E : Type 0} (a b c e new : Contents) (d k n m : ℕ) (rs ss fs bs : SmallVec ℕ) (W : Reg (suc d)) (of_store : IsDiagramOf a k)
    (r : MakesDiagrams {E = E} a b (suc (W.to - W.from)) (λ j. dia_tree d (cut_reg d (diagram_at a k) W (W.from + j))) (Ok rs))
    (s : MakesDiagrams {E = E} b c (W.to - W.from) (λ i. dia_tree d (cut_sing d (diagram_at b k) W (W.from + i))) (Ok ss))
    (f : MakesArrows {E = E} c e (W.to - W.from) (λ i. arr_tree d (cut_fwd d (diagram_at c k) W (W.from + i))) (Ok fs))
    (g : MakesArrows {E = E} e new (W.to - W.from) (λ i. arr_tree d (cut_bwd d (diagram_at e k) W (W.from + i))) (Ok bs)) where
  ce : Grows c new
  ce = Grows-trans _ _ _ f.grows g.grows

  be : Grows b new
  be = Grows-trans _ _ _ s.grows ce

  pub all_grow : Grows a new
  all_grow = Grows-trans _ _ _ r.grows be

  pub cut_children : AreDiagramChildren (length new.arrows) (length new.diagrams) rs.items ss.items fs.items bs.items
  cut_children = record {
    regs = gathers-below new.diagrams rs.items _ _ (gathers-diagrams_grow b new rs.items _ _ be r.gathers);
    sings = gathers-below new.diagrams ss.items _ _ (gathers-diagrams_grow c new ss.items _ _ ce s.gathers);
    fwds = gathers-below new.arrows fs.items _ _ (gathers-arrows_grow e new fs.items _ _ g.grows f.gathers);
    bwds = gathers-below new.arrows bs.items _ _ g.gathers;
  }

  pub described_diagram_cut : zig (picked new.diagrams rs.items) (picked new.diagrams ss.items) (picked new.arrows fs.items) (picked new.arrows bs.items)
      ≡ dia_tree (suc d) (cut_diagram (suc d) (dia (suc d) (diagram_at a k)) W)
  unfolding cut_diagram cut_reg cut_sing cut_fwd cut_bwd
  described_diagram_cut =
      let t = diagram_at a k in
      let tb : diagram_at b k ≡ t = r.grows.diagram_trees k of_store in
      let tc : diagram_at c k ≡ t = (Grows-trans _ _ _ r.grows s.grows).diagram_trees k of_store in
      let te : diagram_at e k ≡ t = (Grows-trans _ _ _ (Grows-trans _ _ _ r.grows s.grows) f.grows).diagram_trees k of_store in
      let len : ℕ = W.to - W.from in
      let p = gathers-picked new.diagrams rs.items _ _ (gathers-diagrams_grow b new rs.items _ _ be r.gathers)
      ∙ tab_of_parts (dia_tree d) (cut_reg d t W) (no_dia d) W.from (suc len) in
      let q = gathers-picked new.diagrams ss.items _ _ (gathers-diagrams_grow c new ss.items _ _ ce s.gathers)
      ∙ ap (λ u. tab (λ i. dia_tree d (cut_sing d u W (W.from + i))) len) tb ∙ tab_of_parts (dia_tree d) (cut_sing d t W) (no_dia d) W.from len in
      let x = gathers-picked new.arrows fs.items _ _ (gathers-arrows_grow e new fs.items _ _ g.grows f.gathers)
      ∙ ap (λ u. tab (λ i. arr_tree d (cut_fwd d u W (W.from + i))) len) tc ∙ tab_of_parts (arr_tree d) (cut_fwd d t W) (no_arr d) W.from len in
      let y = gathers-picked new.arrows bs.items _ _ g.gathers
      ∙ ap (λ u. tab (λ i. arr_tree d (cut_bwd d u W (W.from + i))) len) te ∙ tab_of_parts (arr_tree d) (cut_bwd d t W) (no_arr d) W.from len in
      λ i. zig (p i) (q i) (x i) (y i)

-- its shape
pub cut_diagram_shape : (d : ℕ) (t : Tree) (W : Reg d) → HasRegion d t W → IsDiagramTree (dia_tree d (cut_diagram d (dia d t) W))
cut_diagram_shape d t W h = diagram_tree d _ (diagram_shape d _ (valid_fits d _ (cuts_of_diagrams_are_valid d (dia d t) W h.valid h.closed)))

-- at dimension 0
pub diagram_at_zero : (n : ℕ) (t : Tree) (W : Reg n) → n ≡ 0 → HasRegion n t W → t ≡ dia_tree n (cut_diagram n (dia n t) W)
unfolding cut_diagram
diagram_at_zero zero t W e h = sym (dia_tree-dia zero t h.shape)
diagram_at_zero (suc n) t W e h = absurd (omega arith)

pub MakesDiagram-same : {E : Type 0} (c : Contents) (k : ℕ) (t : Tree) → IsDiagramOf c k → diagram_at c k ≡ t → MakesDiagram {E = E} c c t (Ok k)
MakesDiagram-same c k t l e = record { grows = Grows-refl c; of_store = l; tree = e }

pub MakesDiagram-told : {E : Type 0} (old new : Contents) (t u : Tree) (r : Result ℕ E) → t ≡ u → MakesDiagram old new t r → MakesDiagram old new u r
MakesDiagram-told old new t u r e m = subst (λ v. MakesDiagram old new v r) e m

module _ (n : ℕ) (t : Tree) (r : Region) (l : 0 < n) where
  one_below : n ≡ suc (n - 1)
  one_below = omega arith

  pub has_below : HasRegion n t (region_of n r) → HasRegion (suc (n - 1)) t (region_of (suc (n - 1)) r)
  has_below h = subst (λ m. HasRegion m t (region_of m r)) one_below h

  pub diagram_cut_above : dia_tree (suc (n - 1)) (cut_diagram (suc (n - 1)) (dia (suc (n - 1)) t) (region_of (suc (n - 1)) r)) ≡ dia_tree n (cut_diagram n (dia n t) (region_of n r))
  diagram_cut_above = ap (λ m. dia_tree m (cut_diagram m (dia m t) (region_of m r))) (sym one_below)
