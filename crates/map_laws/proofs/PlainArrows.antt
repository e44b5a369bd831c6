-- Identities are plain, and composites of plain arrows are.
use Rattle.std.proofs.Common.{ℕ, zero, suc, ◌<◌, ◌≤◌, length, arith}
use Rattle.diagram_terms.specs.Family.{Dia, Arr, height, arrow_reg, arrow_sing}
use Rattle.diagram_terms.specs.Dual.{dual}
use Rattle.diagram_terms.specs.Composite.{comp}
use Rattle.diagram_terms.specs.Identity.{IsIdentity}
use Rattle.diagram_terms.specs.Plain.{PlainArrow}
use Rattle.diagram_terms.specs.Valid.{ValidArrow}
use Rattle.diagram_terms.proofs.Parts.{comp-regs_len, comp-sings_len, comp-reg, comp-sing}
use Rattle.map_laws.specs.Laws.{IdentitiesArePlain, PlainArrowsCompose}
use Rattle.map_laws.proofs.ValidParts.{dual_within, height_within}
use Rattle.map_laws.proofs.IdentityShapes.{identities_compose}

pub identities_are_plain : (d : ℕ) → IdentitiesArePlain d
identities_are_plain zero f j = tt
identities_are_plain (suc d) f j = record {
  regs = j.regs;
  sings = λ i l. identities_are_plain d (arrow_sing d f i) (j.sings i l);
}

-- one level up
module _ (d : ℕ) (ih : PlainArrowsCompose d) (X Y Z : Dia (suc d)) (f g : Arr (suc d)) (vf : ValidArrow (suc d) X Y f)
    (vg : ValidArrow (suc d) Y Z g) (pf : PlainArrow (suc d) f) (pg : PlainArrow (suc d) g) where
  compose_reg : (k : ℕ) → k ≤ length Z.sings → IsIdentity d (arrow_reg d (comp (suc d) g f) k)
  compose_reg k l =
      let j : ℕ = dual g.heights k in
      let lj : j ≤ length Y.sings = dual_within d Y Z g vg k in
      let fl = vf.regs_len in
      let gl = vg.regs_len in
      rw (comp-reg d g f k (omega arith))
      (identities_compose d _ _ _ (arrow_reg d f j) (arrow_reg d g k) (vf.regs j lj) (vg.regs k l) (pf.regs j (omega arith)) (pg.regs k (omega arith)))

  compose_sing : (i : ℕ) → i < length X.sings → PlainArrow d (arrow_sing d (comp (suc d) g f) i)
  compose_sing i l =
      let j : ℕ = height d f i in
      let lj : j < length Y.sings = height_within d X Y f vf i l in
      let fl = vf.sings_len in
      let gl = vg.sings_len in
      rw (comp-sing d g f i (omega arith))
      (ih _ _ _ (arrow_sing d f i) (arrow_sing d g j) (vf.sings i l) (vg.sings j lj) (pf.sings i (omega arith)) (pg.sings j (omega arith)))

  step : PlainArrow (suc d) (comp (suc d) g f)
  step =
      let rl = comp-regs_len d g f in
      let sl = comp-sings_len d g f in
      let fl = vf.sings_len in
      let gl = vg.regs_len in
      record {
        regs = λ k l. compose_reg k (omega arith);
        sings = λ i l. compose_sing i (omega arith);
      }

pub plain_arrows_compose : (d : ℕ) → PlainArrowsCompose d
plain_arrows_compose zero = λ x y z f g vf vg pf pg. tt
plain_arrows_compose (suc d) = step d (plain_arrows_compose d)
