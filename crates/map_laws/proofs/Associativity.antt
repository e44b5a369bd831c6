-- Composition is associative.
use Rattle.std.proofs.Common.{◌≡◌, ℕ, zero, suc, ◌<◌, ◌≤◌, length, refl, arith}
use Rattle.diagram_terms.specs.Family.{Dia, Arr, reg, sing, height, arrow_reg, arrow_sing}
use Rattle.diagram_terms.specs.Dual.{dual}
use Rattle.diagram_terms.specs.Composite.{comp}
use Rattle.diagram_terms.specs.Valid.{ValidArrow}
use Rattle.diagram_terms.proofs.Duals.{after_assoc}
use Rattle.diagram_terms.proofs.Parts.{comp-heights, comp-regs_len, comp-sings_len, comp-height, comp-reg, comp-sing, same_arrows}
use Rattle.map_laws.specs.Laws.{CompositionIsAssociative}
use Rattle.map_laws.proofs.ValidParts.{dual_within, height_within, follows, composite-dual}

base : CompositionIsAssociative zero
unfolding comp
base W X Y Z f g h vf vg vh = refl

-- one level up
module _ (d : ℕ) (ih : CompositionIsAssociative d) (W X Y Z : Dia (suc d)) (f g h : Arr (suc d))
    (vf : ValidArrow (suc d) W X f) (vg : ValidArrow (suc d) X Y g) (vh : ValidArrow (suc d) Y Z h) where
  same_reg : (k : ℕ) → k ≤ length Z.sings
      → arrow_reg d (comp (suc d) h (comp (suc d) g f)) k ≡ arrow_reg d (comp (suc d) (comp (suc d) h g) f) k
  same_reg k l =
      let j : ℕ = dual h.heights k in
      let i : ℕ = dual g.heights j in
      let lj : j ≤ length Y.sings = dual_within d Y Z h vh k in
      let li : i ≤ length X.sings = dual_within d X Y g vg j in
      let lh : k < length h.regs = let a = vh.regs_len in omega arith in
      let lg : j < length g.regs = let a = vg.regs_len in omega arith in
      let lhg : k < length (comp (suc d) h g).regs = let a = comp-regs_len d h g in omega arith in
      let e1 = comp-reg d h (comp (suc d) g f) k lh in
      let e2 = comp-reg d g f j lg in
      let e3 = comp-reg d (comp (suc d) h g) f k lhg in
      let e4 = comp-reg d h g k lh in
      let e5 = composite-dual d X Y Z g h vg vh k in
      let e6 = ih (reg d W (dual f.heights i)) (reg d X i) (reg d Y j) (reg d Z k)
      (arrow_reg d f i) (arrow_reg d g j) (arrow_reg d h k) (vf.regs i li) (vg.regs j lj) (vh.regs k l) in
      cc

  same_sing : (i : ℕ) → i < length W.sings
      → arrow_sing d (comp (suc d) h (comp (suc d) g f)) i ≡ arrow_sing d (comp (suc d) (comp (suc d) h g) f) i
  same_sing i l =
      let j : ℕ = height d f i in
      let k : ℕ = height d g j in
      let lj : j < length X.sings = height_within d W X f vf i l in
      let lk : k < length Y.sings = height_within d X Y g vg j lj in
      let lf : i < length f.sings = let a = vf.sings_len in omega arith in
      let lg : j < length g.sings = let a = vg.sings_len in omega arith in
      let lgf : i < length (comp (suc d) g f).sings = let a = comp-sings_len d g f in omega arith in
      let e1 = comp-sing d h (comp (suc d) g f) i lgf in
      let e2 = comp-sing d g f i lf in
      let e3 = comp-sing d (comp (suc d) h g) f i lf in
      let e4 = comp-sing d h g j lg in
      let e5 = comp-height d g f i (let a = vf.heights_len in omega arith) in
      let e6 = ih (sing d W i) (sing d X j) (sing d Y k) (sing d Z (height d h k))
      (arrow_sing d f i) (arrow_sing d g j) (arrow_sing d h k) (vf.sings i l) (vg.sings j lj) (vh.sings k lk) in
      cc

  step : comp (suc d) h (comp (suc d) g f) ≡ comp (suc d) (comp (suc d) h g) f
  step =
      let r1 = comp-regs_len d h (comp (suc d) g f) in
      let r2 = comp-regs_len d (comp (suc d) h g) f in
      let r3 = comp-regs_len d h g in
      let s1 = comp-sings_len d h (comp (suc d) g f) in
      let s2 = comp-sings_len d (comp (suc d) h g) f in
      let s3 = comp-sings_len d g f in
      let h1 = comp-heights d h (comp (suc d) g f) in
      let h2 = comp-heights d (comp (suc d) h g) f in
      let h3 = comp-heights d h g in
      let h4 = comp-heights d g f in
      let h5 = after_assoc h.heights g.heights f.heights (follows d W X Y f g vf vg) in
      same_arrows d (comp (suc d) h (comp (suc d) g f)) (comp (suc d) (comp (suc d) h g) f)
      (cc) (cc) (λ j l. same_reg j (let a = vh.regs_len in omega arith))
      (cc) (λ i l. same_sing i (let a = vf.sings_len in omega arith))

pub associative : (d : ℕ) → CompositionIsAssociative d
associative zero = base
associative (suc d) = step d (associative d)
