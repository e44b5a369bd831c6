-- A cone after a valid plain arrow is a cone.
use Rattle.std.proofs.Common.{◌≡◌, ℕ, zero, suc, ◌<◌, ◌≤◌, length, sym, ◌∙◌, arith}
use Rattle.diagram_terms.specs.declared.label.Label.{Label}
use Rattle.diagram_terms.specs.Family.{Dia, Arr, reg, sing, height, arrow_reg, arrow_sing}
use Rattle.diagram_terms.specs.Dual.{dual}
use Rattle.diagram_terms.specs.Composite.{comp, ident}
use Rattle.diagram_terms.specs.Plain.{PlainArrow}
use Rattle.diagram_terms.specs.Valid.{ValidArrow, Valid}
use Rattle.diagram_terms.specs.Cone.{cone}
use Rattle.diagram_terms.proofs.Duals.{same_numbers}
use Rattle.diagram_terms.proofs.Parts.{comp-from, comp-to, comp-heights_len, comp-regs_len, comp-sings_len, comp-height, comp-reg, comp-sing, same_ends, same_arrows}
use Rattle.map_laws.proofs.ValidParts.{height_within}
use Rattle.map_laws.proofs.Neutral.{neutral_after}
use Rattle.plain_laws.specs.Laws.{ConesAbsorbPlainArrows}
use Rattle.plain_laws.proofs.ConeParts.{cone-from, cone-to, cone-heights_len, cone-regs_len, cone-sings_len, cone-height, cone-source, cone-target, cone-sing, cone-dual_first, cone-dual_last}
use Rattle.plain_laws.proofs.Cospans.{below_two}
use Rattle.plain_laws.proofs.PlainEnds.{plain_arrows_unfold, dual-source, dual-target}

absorb_base : ConesAbsorbPlainArrows zero
absorb_base y z g x vy vz vg pg =
    same_ends (comp zero (cone zero z x) g) (cone zero y x)
    (comp-from (cone zero z x) g ∙ vg.from ∙ sym (cone-from y x))
    (comp-to (cone zero z x) g ∙ cone-to z x ∙ sym (cone-to y x))

-- one level up: every height goes to 0, and the regular slices are identities of the sources and of the targets
module _ (d : ℕ) (ih : ConesAbsorbPlainArrows d) (X Y : Dia (suc d)) (g : Arr (suc d)) (x : Label)
    (vX : Valid (suc d) X) (vY : Valid (suc d) Y) (vg : ValidArrow (suc d) X Y g) (pg : PlainArrow (suc d) g) where
  absorb_heights : (comp (suc d) (cone (suc d) Y x) g).heights ≡ (cone (suc d) X x).heights
  absorb_heights =
      let a = comp-heights_len d (cone (suc d) Y x) g in
      let b = cone-heights_len d X x in
      let c = vg.heights_len in
      same_numbers _ _ (omega arith) (λ i l.
      comp-height d (cone (suc d) Y x) g i (omega arith) ∙ cone-height d Y x (height d g i) ∙ sym (cone-height d X x i))

  -- the regular slice k of the composite, where the dual of the cone over Y is j and the dual of g there is i
  absorb_reg_at : (k j i : ℕ) → k < 2 → dual (cone (suc d) Y x).heights k ≡ j → j ≤ length Y.sings → dual g.heights j ≡ i
      → arrow_reg d (cone (suc d) Y x) k ≡ ident d (reg d Y j)
      → arrow_reg d (comp (suc d) (cone (suc d) Y x) g) k ≡ ident d (reg d X i)
  absorb_reg_at k j i l dual_cone lj dual_g slice =
      let a = cone-regs_len d Y x in
      let e1 = comp-reg d (cone (suc d) Y x) g k (omega arith) in
      let e2 = plain_arrows_unfold d X Y g vX vY vg pg j lj in
      let e3 = neutral_after d _ _ (arrow_reg d g j) (vY.regs j lj) (vg.regs j lj) in
      let same : reg d X (dual g.heights j) ≡ reg d Y j = e2.0 in
      let its : arrow_reg d g j ≡ ident d (reg d Y j) = e2.1 in
      cc

  absorb_reg : (k : ℕ) → k < 2 → arrow_reg d (comp (suc d) (cone (suc d) Y x) g) k ≡ arrow_reg d (cone (suc d) X x) k
  absorb_reg = below_two (λ k. arrow_reg d (comp (suc d) (cone (suc d) Y x) g) k ≡ arrow_reg d (cone (suc d) X x) k)
      (absorb_reg_at 0 0 0 (omega arith) (cone-dual_first d Y x) (omega arith) (dual-source d X Y g vg) (cone-source d Y x)
      ∙ sym (cone-source d X x))
      (absorb_reg_at 1 (length Y.sings) (length X.sings) (omega arith) (cone-dual_last d Y x) (omega arith)
      (dual-target d X Y g vg) (cone-target d Y x) ∙ sym (cone-target d X x))

  absorb_sing : (i : ℕ) → i < length X.sings
      → arrow_sing d (comp (suc d) (cone (suc d) Y x) g) i ≡ arrow_sing d (cone (suc d) X x) i
  absorb_sing i l =
      let j : ℕ = height d g i in
      let lj : j < length Y.sings = height_within d X Y g vg i l in
      let a = vg.sings_len in
      let e1 = comp-sing d (cone (suc d) Y x) g i (omega arith) in
      let e2 = cone-sing d Y x j lj in
      let e3 = cone-sing d X x i l in
      let e4 = ih (sing d X i) (sing d Y j) (arrow_sing d g i) x (vX.sings i l) (vY.sings j lj) (vg.sings i l)
      (pg.sings i (omega arith)) in
      cc

  absorb_step : comp (suc d) (cone (suc d) Y x) g ≡ cone (suc d) X x
  absorb_step =
      let r1 = comp-regs_len d (cone (suc d) Y x) g in
      let r2 = cone-regs_len d Y x in
      let r3 = cone-regs_len d X x in
      let s1 = comp-sings_len d (cone (suc d) Y x) g in
      let s2 = cone-sings_len d X x in
      let s3 = vg.sings_len in
      same_arrows d (comp (suc d) (cone (suc d) Y x) g) (cone (suc d) X x) absorb_heights
      (omega arith) (λ k l. absorb_reg k (omega arith))
      (omega arith) (λ i l. absorb_sing i (omega arith))

pub cones_absorb_plain_arrows : (d : ℕ) → ConesAbsorbPlainArrows d
cones_absorb_plain_arrows zero = absorb_base
cones_absorb_plain_arrows (suc d) = absorb_step d (cones_absorb_plain_arrows d)
