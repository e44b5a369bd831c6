-- What a preimage asks of the preimages of its slices, and how it is made of them.
use Rattle.std.proofs.Common.{◌≡◌, ℕ, zero, suc, ◌+◌, ◌-◌, ◌<◌, ◌≤◌, List, map, length, get_or, Vec, Global, Result, IfOk, Ok, Err, refl, sym, ap, subst, ◌∙◌, arith}
use Rattle.std.proofs.lemmas.Bool.{cond-true, cond-false, lt-ltb, le-ltb}
use Rattle.std.proofs.lemmas.List.{get_or-map, length-map}
use Rattle.diagram_terms.specs.Tree.{Tree, heights, sings}
use Rattle.diagram_terms.specs.Dimension.{dimension_of}
use Rattle.diagram_terms.specs.Dual.{dual}
use Rattle.diagram_terms.specs.Family.{Dia, Arr, reg, sing, bwd}
use Rattle.diagram_terms.specs.Decoded.{dia, arr}
use Rattle.diagram_terms.specs.Shape.{IsDiagram, IsArrow, reg_at, sing_at, fwd_at, bwd_at}
use Rattle.diagram_terms.proofs.Dimensions.{arrow_dimension, diagram_dimension}
use Rattle.diagram_terms.proofs.Glue.{dia-reg, dia-sing, dia-fwd, dia-bwd, dia-sings_len, arr-reg, arr-sing}
use Rattle.diagram_terms.specs.ClosedRegions.{IsClosedRegion}
use Rattle.diagram_terms.specs.Preimages.{preimage, sing_preimage, reg_preimage}
use Rattle.diagram_terms.specs.Regions.{Reg, no_region, tab_from, reg_region, sing_region, IsRegionOf}
use Rattle.region_laws.proofs.RegionParts.{get-tab_from, length-tab_from}
use Rattle.region_laws.proofs.Preimages.{preimages_are_closed}
use Rattle.diagram_terms.specs.ValidTrees.{IsValidTree, IsArrowBetween}
use Rattle.region_cut.specs.declared.region.Region.{Region}
use Rattle.region_cut.specs.declared.region.Region.TheVariants as region
use Rattle.region_cut.specs.OverRegions.{IsOver}
use Rattle.region_cut.specs.RegionValues.{region_of, IsRegionValue, AreRegionValues, IsClosedIn, IsPreimageOf}
use Rattle.diagram_terms.specs.OnTrees.{on_diagram}
use Rattle.region_cut.proofs.ReadRegions.{value_all, value_span}
use Rattle.region_cut.proofs.SlicesOver.{over_same, valid_tree, over-reg, over-sing, over-fwd, over-bwd, sing_closed, regs_within, sings_within, source_within, rises}

-- an arrow with slices
pub arrow_above : (d : ℕ) (f : Tree) → IsArrow (suc d) f → 0 < dimension_of f
arrow_above d f h = let e = arrow_dimension (suc d) f h in omega arith

-- the region of an entry
pub indexed : (d : ℕ) (rs : List Region) (Rs : List (Reg d)) (k m : ℕ) (r : Region) → map (region_of d) rs ≡ Rs → k ≡ m → k < length rs → r ≡ get_or rs k r
    → region_of d r ≡ get_or Rs m (no_region d)
indexed d rs Rs k m r e p l is =
    ap (region_of d) is ∙ sym (get_or-map (region_of d) rs k r (no_region d) l) ∙ (λ i. get_or (e i) (p i) (no_region d))

pub same_preimage : (d : ℕ) (X Z : Dia d) (f g : Arr d) (V W : Reg d) → X ≡ Z → f ≡ g → V ≡ W → preimage d X f V ≡ preimage d Z g W
same_preimage d X Z f g V W p q r = λ i. preimage d (p i) (q i) (r i)

-- the preimage under g, out of u, of the region V may be taken, and is R
pub record IsStep (d : ℕ) (u g : Tree) (V R : Reg d) : Type 0 where
  pub shape : IsDiagram d u
  pub over : IsOver d (dia d u) g V
  pub is : preimage d (dia d u) (arr d g) V ≡ R

module _ (d : ℕ) (s f : Tree) (W : Reg (suc d)) (h : IsDiagram (suc d) s) (o : IsOver (suc d) (dia (suc d) s) f W) where
  abbrev X : Dia (suc d)
  X = dia (suc d) s

  abbrev F : Arr (suc d)
  F = arr (suc d) f

  pub slices_within : dual (heights f) W.to ≤ length (sings s)
  slices_within = let a = source_within d X f W o in let b = dia-sings_len d s in omega arith

  -- at a singular height
  pub sing_step : (k : ℕ) (u g : Tree) (V : Reg d) → dual (heights f) W.from ≤ k → k < dual (heights f) W.to → u ≡ sing_at s k → g ≡ sing_at f k
      → V ≡ sing_region d W (get_or (heights f) k 0) → IsStep d u g V (sing_preimage d (preimage d) X F W k)
  sing_step k u g V low high p q r =
      let n = slices_within in
      let m = sings_within d X f W o in
      let x : sing d X k ≡ dia d u = dia-sing d s h k (omega arith) ∙ ap (dia d) (sym p) in
      record {
        shape = subst (IsDiagram d) (sym p) (h.sings_are k (omega arith));
        over = over_same d _ _ _ _ _ _ x (sym q) (sym r) (over-sing d X f W o k low high);
        is = same_preimage d _ _ _ _ _ _ (sym x) (ap (arr d) q ∙ sym (arr-sing d f k (omega arith))) r;
      }

  -- at a regular height after the first one, which follows k
  pub bwd_step : (k : ℕ) (u g : Tree) (V : Reg d) → dual (heights f) W.from ≤ k → k < dual (heights f) W.to → u ≡ reg_at s (k + 1) → g ≡ bwd_at s k
      → V ≡ sing_preimage d (preimage d) X F W k → IsStep d u g V (reg_preimage d (preimage d) X F W (k + 1))
  bwd_step k u g V low high p q r =
      let n = slices_within in
      let next : suc k ≡ k + 1 = omega arith in
      let back : k ≡ k + 1 - 1 = omega arith in
      let x : reg d X (k + 1) ≡ dia d u = dia-reg d s h (k + 1) (omega arith) ∙ ap (dia d) (sym p) in
      record {
        shape = subst (IsDiagram d) (sym p) (h.regs_are (k + 1) (omega arith));
        over = over_same d _ _ _ _ _ _ (ap (reg d X) next ∙ x) (sym q) (sym r)
            (over-bwd d s h o.valid_source k _ (omega arith) (sing_closed d X f W o k low high));
        is = same_preimage d _ _ _ _ _ _ (sym x) (ap (arr d) q ∙ sym (dia-bwd d s h k (omega arith))) r
            ∙ ap (λ m. preimage d (reg d X (k + 1)) (bwd d X m) (sing_preimage d (preimage d) X F W m)) back
            ∙ sym (cond-true _ _ _ (lt-ltb (dual (heights f) W.from) (k + 1) (omega arith)));
      }

  -- at the first one, where another follows
  pub fwd_step : (k : ℕ) (u g : Tree) (V : Reg d) → k ≡ dual (heights f) W.from → k < dual (heights f) W.to → u ≡ reg_at s k → g ≡ fwd_at s k
      → V ≡ sing_preimage d (preimage d) X F W k → IsStep d u g V (reg_preimage d (preimage d) X F W k)
  fwd_step k u g V low high p q r =
      let n = slices_within in
      let x : reg d X k ≡ dia d u = dia-reg d s h k (omega arith) ∙ ap (dia d) (sym p) in
      record {
        shape = subst (IsDiagram d) (sym p) (h.regs_are k (omega arith));
        over = over_same d _ _ _ _ _ _ x (sym q) (sym r)
            (over-fwd d s h o.valid_source k _ (omega arith) (sing_closed d X f W o k (omega arith) high));
        is = same_preimage d _ _ _ _ _ _ (sym x) (ap (arr d) q ∙ sym (dia-fwd d s h k (omega arith))) r
            ∙ sym (cond-true _ _ _ (lt-ltb k (dual (heights f) W.to) high))
            ∙ sym (cond-false _ _ _ (le-ltb (dual (heights f) W.from) k (omega arith)));
      }

  -- at the only one
  pub alone_step : (k : ℕ) (u g : Tree) (V : Reg d) → k ≡ dual (heights f) W.from → dual (heights f) W.to ≤ k → u ≡ reg_at s k → g ≡ reg_at f W.from
      → V ≡ reg_region d W W.from → IsStep d u g V (reg_preimage d (preimage d) X F W k)
  alone_step k u g V low high p q r =
      let n = slices_within in
      let m = rises d X f W o in
      let w = o.closed.region.order in
      let l = regs_within d X f W o in
      let x : reg d X k ≡ dia d u = dia-reg d s h k (omega arith) ∙ ap (dia d) (sym p) in
      record {
        shape = subst (IsDiagram d) (sym p) (h.regs_are k (omega arith));
        over = over_same d _ _ _ _ _ _ (ap (reg d X) (sym low) ∙ x) (sym q) (sym r) (over-reg d X f W o W.from (omega arith) w);
        is = same_preimage d _ _ _ _ _ _ (sym x) (ap (arr d) q ∙ sym (arr-reg d f W.from (omega arith))) r
            ∙ sym (cond-false _ _ _ (le-ltb k (dual (heights f) W.to) high))
            ∙ sym (cond-false _ _ _ (le-ltb (dual (heights f) W.from) k (omega arith)));
      }

  -- the region of an entry of the preimages at singular heights
  pub sing_entry : (rs : List Region) (r : Region) (a b i k : ℕ) → AreRegionValues d (tab_from (sing_preimage d (preimage d) X F W) a (b - a)) rs
      → i < b - a → a + i ≡ k → r ≡ get_or rs i r → region_of d r ≡ sing_preimage d (preimage d) X F W k
  sing_entry rs r a b i k e l n is =
      let m = length-map rs (region_of d) in
      let m2 = ap length e.regions in
      let m3 = length-tab_from (sing_preimage d (preimage d) X F W) a (b - a) in
      indexed d rs _ i i r e.regions refl (omega arith) is ∙ get-tab_from (sing_preimage d (preimage d) X F W) a (b - a) i k (no_region d) l n

  pub entries : (rs : List Region) (a b : ℕ) → AreRegionValues d (tab_from (sing_preimage d (preimage d) X F W) a (b - a)) rs → length rs ≡ b - a
  entries rs a b e = sym (length-map rs (region_of d)) ∙ ap length e.regions ∙ length-tab_from (sing_preimage d (preimage d) X F W) a (b - a)

  -- all parts together
  pub made_of : (a b : ℕ) (rs ss : Vec Region Global) → a ≡ dual (heights f) W.from → b ≡ dual (heights f) W.to
      → AreRegionValues d (tab_from (reg_preimage d (preimage d) X F W) a (suc (b - a))) rs.items
      → AreRegionValues d (tab_from (sing_preimage d (preimage d) X F W) a (b - a)) ss.items
      → IsRegionValue (suc d) (preimage (suc d) X F W) (region.Span a b rs ss)
  unfolding preimage
  made_of a b rs ss p q r e =
      let v = value_span d a b rs ss _ _ r e in
      record {
        shape = v.shape;
        region = v.region ∙ (λ i. record {
          from = p i;
          to = q i;
          regs = tab_from (reg_preimage d (preimage d) X F W) (p i) (suc (q i - p i));
          sings = tab_from (sing_preimage d (preimage d) X F W) (p i) (q i - p i);
        });
      }

-- at dimension 0
pub made_zero : (n : ℕ) (X : Dia n) (f : Arr n) (W : Reg n) → n ≡ 0 → IsRegionValue n (preimage n X f W) region.All
made_zero zero X f W e = value_all (preimage zero X f W)
made_zero (suc n) X f W e = absurd (omega arith)

-- ---- at a dimension above 0

module _ (n : ℕ) (s f : Tree) (r : Region) (l : 0 < n) where
  one_below : n ≡ suc (n - 1)
  one_below = omega arith

  pub shape_below : IsDiagram n s → IsDiagram (suc (n - 1)) s
  shape_below h = subst (λ m. IsDiagram m s) one_below h

  pub over_below : IsOver n (dia n s) f (region_of n r) → IsOver (suc (n - 1)) (dia (suc (n - 1)) s) f (region_of (suc (n - 1)) r)
  over_below o = subst (λ m. IsOver m (dia m s) f (region_of m r)) one_below o

  pub made_above : (v : Region) → IsRegionValue (suc (n - 1)) (preimage (suc (n - 1)) (dia (suc (n - 1)) s) (arr (suc (n - 1)) f) (region_of (suc (n - 1)) r)) v
      → IsRegionValue n (preimage n (dia n s) (arr n f) (region_of n r)) v
  made_above v e = subst (λ m. IsRegionValue m (preimage m (dia m s) (arr m f) (region_of m r)) v) (sym one_below) e

-- a region, and an answer, told another way
pub retold : (d : ℕ) (V R : Reg d) (v : Region) → V ≡ R → IsRegionValue d V v → IsRegionValue d R v
retold d V R v e h = record { shape = h.shape; region = h.region ∙ e }

pub answered : {E : Type 0} (d : ℕ) (a : Result Region E) (V R : Reg d) → V ≡ R → IfOk a (IsRegionValue d V) → IfOk a (IsRegionValue d R)
answered d a V R e h = subst (λ (R : Reg d). IfOk a (IsRegionValue d R)) e h

-- the region of a slice, by its place among the regions of the singular slices, or of the regular ones
module _ (d : ℕ) (r : Region) (rs : List Region) where
  pub sing_is : (k h : ℕ) (q : Region) → map (region_of d) rs ≡ (region_of (suc d) r).sings → k ≡ h - (region_of (suc d) r).from → k < length rs → q ≡ get_or rs k q
      → region_of d q ≡ sing_region d (region_of (suc d) r) h
  sing_is k h q e p l is = indexed d rs _ k _ q e p l is

  pub reg_is : (k h : ℕ) (q : Region) → map (region_of d) rs ≡ (region_of (suc d) r).regs → k ≡ h - (region_of (suc d) r).from → k < length rs → q ≡ get_or rs k q
      → region_of d q ≡ reg_region d (region_of (suc d) r) h
  reg_is k h q e p l is = indexed d rs _ k _ q e p l is

  pub sings_count : (X : Dia (suc d)) → map (region_of d) rs ≡ (region_of (suc d) r).sings → IsRegionOf (suc d) X (region_of (suc d) r)
      → length rs ≡ (region_of (suc d) r).to - (region_of (suc d) r).from
  sings_count X e o = sym (length-map rs (region_of d)) ∙ ap length e ∙ o.sings_len

  pub regs_count : (X : Dia (suc d)) → map (region_of d) rs ≡ (region_of (suc d) r).regs → IsRegionOf (suc d) X (region_of (suc d) r)
      → length rs ≡ suc ((region_of (suc d) r).to - (region_of (suc d) r).from)
  regs_count X e o = sym (length-map rs (region_of d)) ∙ ap length e ∙ o.regs_len

-- ---- of a valid map

-- a region of the target of a map, in the dimension of the source
pub over_between : (n : ℕ) (s t f : Tree) (r : Region) → n ≡ dimension_of s → IsValidTree s → IsValidTree t → IsArrowBetween s t f → IsClosedIn t r
    → IsOver n (dia n s) f (region_of n r)
unfolding on_diagram
over_between n s t f r e vs vt b c =
    let d = b.dim in
    let p : d ≡ n = sym (diagram_dimension d s b.at_dim.source) ∙ sym e in
    let q : dimension_of t ≡ d = diagram_dimension d t b.at_dim.target in
    subst (λ m. IsOver m (dia m s) f (region_of m r)) p (record {
      shape = b.at_dim.shape;
      target = dia d t;
      valid_source = valid_tree d s b.at_dim.source vs;
      valid_target = valid_tree d t b.at_dim.target vt;
      valid = b.at_dim.valid;
      closed = subst (λ m. IsClosedRegion m (dia m t) (region_of m r)) q c;
    })

-- the preimage is closed
pub closed_answer : {E : Type 0} (n : ℕ) (s f : Tree) (r : Region) (a : Result Region E) → n ≡ dimension_of s → IsOver n (dia n s) f (region_of n r)
    → IfOk a (IsRegionValue n (preimage n (dia n s) (arr n f) (region_of n r))) → IfOk a (IsClosedIn s)
unfolding on_diagram
closed_answer n s f r (Ok v) e o h =
    subst (λ m. IsClosedRegion m (dia m s) (region_of m v)) e
    (subst (IsClosedRegion n (dia n s)) (sym h.region) (preimages_are_closed n (dia n s) o.target (arr n f) (region_of n r) o.valid_source o.valid_target o.valid o.closed))
closed_answer n s f r (Err x) e o h = tt

pub exact_answer : {E : Type 0} (n : ℕ) (s f : Tree) (r : Region) (a : Result Region E) → n ≡ dimension_of s
    → IfOk a (IsRegionValue n (preimage n (dia n s) (arr n f) (region_of n r))) → IfOk a (IsPreimageOf s f r)
unfolding on_diagram
exact_answer n s f r a e h = subst (λ m. IfOk a (IsRegionValue m (preimage m (dia m s) (arr m f) (region_of m r)))) e h
