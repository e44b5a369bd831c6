-- The composite of valid arrows between valid diagrams is valid.
use Rattle.std.proofs.Common.{ℕ, zero, suc, ◌<◌, ◌≤◌, List, length, sym, ◌∙◌, subst, arith}
use Rattle.diagram_terms.specs.Family.{Dia, Arr, reg, sing, height, arrow_reg, arrow_sing}
use Rattle.diagram_terms.specs.Dual.{IsMonotone, AreBelow, dual}
use Rattle.diagram_terms.specs.Composite.{comp}
use Rattle.diagram_terms.specs.Valid.{ValidArrow, Valid}
use Rattle.diagram_terms.proofs.Duals.{mono-after, below-after}
use Rattle.diagram_terms.proofs.Parts.{comp-from, comp-to, comp-heights, comp-heights_len, comp-regs_len, comp-sings_len, comp-height, comp-reg, comp-sing}
use Rattle.map_laws.specs.Laws.{CompositesAreValid}
use Rattle.map_laws.proofs.LabelOrder.{at_most_trans}
use Rattle.map_laws.proofs.ValidParts.{dual_within, height_within, follows, composite-dual}
use Rattle.map_laws.proofs.CompositeSquares.{composite_square}

base : CompositesAreValid zero
base x y z f g vx vy vz vf vg = record {
  from = comp-from g f ∙ vf.from;
  to = comp-to g f ∙ vg.to;
  order = at_most_trans x y z vf.order vg.order;
}

-- one level up
module _ (d : ℕ) (ih : CompositesAreValid d) (X Y Z : Dia (suc d)) (f g : Arr (suc d)) (vX : Valid (suc d) X) (vY : Valid (suc d) Y)
    (vZ : Valid (suc d) Z) (vf : ValidArrow (suc d) X Y f) (vg : ValidArrow (suc d) Y Z g) where
  valid_reg : (k : ℕ) → k ≤ length Z.sings
      → ValidArrow d (reg d X (dual (comp (suc d) g f).heights k)) (reg d Z k) (arrow_reg d (comp (suc d) g f) k)
  valid_reg k l =
      let j : ℕ = dual g.heights k in
      let i : ℕ = dual f.heights j in
      let lj : j ≤ length Y.sings = dual_within d Y Z g vg k in
      let li : i ≤ length X.sings = dual_within d X Y f vf j in
      rw (composite-dual d X Y Z f g vf vg k, comp-reg d g f k (let a = vg.regs_len in omega arith))
      (ih (reg d X i) (reg d Y j) (reg d Z k) (arrow_reg d f j) (arrow_reg d g k)
      (vX.regs i li) (vY.regs j lj) (vZ.regs k l) (vf.regs j lj) (vg.regs k l))

  valid_sing : (i : ℕ) → i < length X.sings
      → ValidArrow d (sing d X i) (sing d Z (height d (comp (suc d) g f) i)) (arrow_sing d (comp (suc d) g f) i)
  valid_sing i l =
      let j : ℕ = height d f i in
      let k : ℕ = height d g j in
      let lj : j < length Y.sings = height_within d X Y f vf i l in
      let lk : k < length Z.sings = height_within d Y Z g vg j lj in
      rw (comp-height d g f i (let a = vf.heights_len in omega arith), comp-sing d g f i (let a = vf.sings_len in omega arith))
      (ih (sing d X i) (sing d Y j) (sing d Z k) (arrow_sing d f i) (arrow_sing d g j)
      (vX.sings i l) (vY.sings j lj) (vZ.sings k lk) (vf.sings i l) (vg.sings j lj))

  step : ValidArrow (suc d) X Z (comp (suc d) g f)
  step =
      let m : ℕ = length Z.sings in
      let hs = comp-heights d g f in
      let fits = follows d X Y Z f g vf vg in
      record {
        heights_len = comp-heights_len d g f ∙ vf.heights_len;
        regs_len = comp-regs_len d g f ∙ vg.regs_len;
        sings_len = comp-sings_len d g f ∙ vf.sings_len;
        monotone = subst IsMonotone (sym hs) (mono-after g.heights f.heights vg.monotone vf.monotone fits);
        below = subst (λ (h : List ℕ). AreBelow h m) (sym hs) (below-after g.heights f.heights m vg.below fits);
        regs = valid_reg;
        sings = valid_sing;
        squares = composite_square d X Y Z f g vX vY vZ vf vg;
      }

pub composites_are_valid : (d : ℕ) → CompositesAreValid d
composites_are_valid zero = base
composites_are_valid (suc d) = step d (composites_are_valid d)
