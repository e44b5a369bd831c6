-- The slices of an arrow over a closed region, of its preimage, and of a diagram with a region.
use Rattle.std.proofs.Common.{◌≡◌, ℕ, suc, ◌<◌, ◌≤◌, length, get_or, sym, subst, arith}
use Rattle.diagram_terms.specs.Tree.{Tree, heights, regs, sings}
use Rattle.diagram_terms.specs.Dual.{dual}
use Rattle.diagram_terms.specs.Family.{Dia, Arr, reg, sing}
use Rattle.diagram_terms.specs.Decoded.{dia, arr}
use Rattle.diagram_terms.specs.Shape.{IsDiagram, reg_at, sing_at, fwd_at, bwd_at}
use Rattle.diagram_terms.specs.Valid.{Valid, ValidArrow}
use Rattle.diagram_terms.proofs.Glue.{dia-fwd, dia-bwd, dia-sings_len, arr-reg, arr-sing, arr-regs_len, arr-sings_len}
use Rattle.diagram_terms.proofs.Shapes.{one_diagram_dimension}
use Rattle.diagram_terms.specs.ValidTrees.{IsValidTree}
use Rattle.map_laws.proofs.ValidParts.{dual_within}
use Rattle.diagram_terms.specs.ClosedRegions.{IsClosedRegion}
use Rattle.diagram_terms.specs.Preimages.{preimage, sing_preimage}
use Rattle.diagram_terms.specs.Regions.{Reg, reg_region, sing_region}
use Rattle.region_laws.proofs.PreimageRegions.{interval_order, interval_within, goes_from, goes_to}
use Rattle.region_laws.proofs.PreimageCases.{closed_reg, closed_sing}
use Rattle.region_laws.proofs.Preimages.{preimages_are_closed}
use Rattle.region_cut.specs.OverRegions.{IsOver}

-- a valid tree is valid at each dimension that it has
pub valid_tree : (n : ℕ) (t : Tree) → IsDiagram n t → IsValidTree t → Valid n (dia n t)
valid_tree n t shape h = subst (λ (d : ℕ). Valid d (dia d t)) (one_diagram_dimension h.dim n t h.at_dim.shape shape) h.at_dim.valid

-- another tree, of the same diagram and region
pub over_same : (d : ℕ) (X Z : Dia d) (f g : Tree) (V W : Reg d) → X ≡ Z → f ≡ g → V ≡ W → IsOver d X f V → IsOver d Z g W
over_same d X Z f g V W p q r o = subst (λ (W : Reg d). IsOver d Z g W) r (subst (λ (h : Tree). IsOver d Z h V) q (subst (λ (Y : Dia d). IsOver d Y f V) p o))

-- ---- an arrow over a region, one level up

module _ (d : ℕ) (X : Dia (suc d)) (f : Tree) (W : Reg (suc d)) (o : IsOver (suc d) X f W) where
  abbrev F : Arr (suc d)
  F = arr (suc d) f

  pub order : W.from ≤ W.to
  order = o.closed.region.order

  -- the parts of the arrow and of the region that the interval has
  pub regs_within : W.to < length (regs f)
  regs_within = omega (arith, o.valid.regs_len, arr-regs_len d f, o.closed.region.within)

  pub rises : dual (heights f) W.from ≤ dual (heights f) W.to
  rises = interval_order d X o.target F W o.valid o.closed.region

  pub source_within : dual (heights f) W.to ≤ length X.sings
  source_within = interval_within d X o.target F W o.valid o.closed.region

  pub sings_within : dual (heights f) W.to ≤ length (sings f)
  sings_within = omega (arith, source_within, o.valid.sings_len, arr-sings_len d f)

  pub heights_within : dual (heights f) W.to ≤ length (heights f)
  heights_within = omega (arith, source_within, o.valid.heights_len)

  pub from_height : (i : ℕ) → dual (heights f) W.from ≤ i → i < dual (heights f) W.to → W.from ≤ get_or (heights f) i 0
  from_height i low high = goes_from d X o.target F W o.valid o.closed.region i low high

  pub to_height : (i : ℕ) → i < dual (heights f) W.to → get_or (heights f) i 0 < W.to
  to_height i high = goes_to d X o.target F W o.valid o.closed.region i high

  pub over-reg : (j : ℕ) → W.from ≤ j → j ≤ W.to → IsOver d (reg d X (dual (heights f) j)) (reg_at f j) (reg_region d W j)
  over-reg j low high =
      let w = o.closed.region.within in
      let l = regs_within in
      let here : j < length (regs f) = omega arith in
      let m = dual_within d X o.target F o.valid j in
      record {
        shape = o.shape.regs_are j here;
        target = reg d o.target j;
        valid_source = o.valid_source.regs (dual (heights f) j) m;
        valid_target = o.valid_target.regs j (omega arith);
        valid = subst (ValidArrow d (reg d X (dual (heights f) j)) (reg d o.target j)) (arr-reg d f j here) (o.valid.regs j (omega arith));
        closed = closed_reg d o.target W o.closed j low high;
      }

  pub over-sing : (i : ℕ) → dual (heights f) W.from ≤ i → i < dual (heights f) W.to
      → IsOver d (sing d X i) (sing_at f i) (sing_region d W (get_or (heights f) i 0))
  over-sing i low high =
      let w = o.closed.region.within in
      let l = sings_within in
      let s = source_within in
      let h : ℕ = get_or (heights f) i 0 in
      let from = from_height i low high in
      let to = to_height i high in
      let here : i < length (sings f) = omega arith in
      record {
        shape = o.shape.sings_are i here;
        target = sing d o.target h;
        valid_source = o.valid_source.sings i (omega arith);
        valid_target = o.valid_target.sings h (omega arith);
        valid = subst (ValidArrow d (sing d X i) (sing d o.target h)) (arr-sing d f i here) (o.valid.sings i (omega arith));
        closed = closed_sing d o.target W o.closed h from to;
      }

  -- the preimage at a singular height is closed
  pub sing_closed : (i : ℕ) → dual (heights f) W.from ≤ i → i < dual (heights f) W.to → IsClosedRegion d (sing d X i) (sing_preimage d (preimage d) X F W i)
  sing_closed i low high =
      let p = over-sing i low high in
      let e = arr-sing d f i (let l = sings_within in omega arith) in
      subst (λ (g : Arr d). IsClosedRegion d (sing d X i) (preimage d (sing d X i) g (sing_region d W (get_or (heights f) i 0)))) (sym e)
      (preimages_are_closed d (sing d X i) p.target (arr d (sing_at f i)) _ p.valid_source p.valid_target p.valid p.closed)

-- ---- the legs of a diagram, over a closed region of the singular slice

module _ (d : ℕ) (t : Tree) (h : IsDiagram (suc d) t) (v : Valid (suc d) (dia (suc d) t)) (k : ℕ) (V : Reg d) (l : k < length (sings t))
    (c : IsClosedRegion d (sing d (dia (suc d) t) k) V) where
  abbrev X : Dia (suc d)
  X = dia (suc d) t

  pub over-fwd : IsOver d (reg d X k) (fwd_at t k) V
  over-fwd =
      let n = dia-sings_len d t in
      record {
        shape = h.fwds_are k l;
        target = sing d X k;
        valid_source = v.regs k (omega arith);
        valid_target = v.sings k (omega arith);
        valid = subst (ValidArrow d (reg d X k) (sing d X k)) (dia-fwd d t h k l) (v.fwds k (omega arith));
        closed = c;
      }

  pub over-bwd : IsOver d (reg d X (suc k)) (bwd_at t k) V
  over-bwd =
      let n = dia-sings_len d t in
      record {
        shape = h.bwds_are k l;
        target = sing d X k;
        valid_source = v.regs (suc k) (omega arith);
        valid_target = v.sings k (omega arith);
        valid = subst (ValidArrow d (reg d X (suc k)) (sing d X k)) (dia-bwd d t h k l) (v.bwds k (omega arith));
        closed = c;
      }
