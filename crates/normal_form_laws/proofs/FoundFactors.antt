-- Where an arrow factors through one of the shape of a degeneracy, the factor is found.
use Rattle.std.proofs.Common.{◌≡◌, ℕ, zero, suc, ◌<◌, ◌≤◌, length, sym, ap, ◌∙◌, subst, arith}
use Rattle.diagram_terms.specs.Family.{Dia, Arr, reg, sing, height, arrow_reg, arrow_sing}
use Rattle.diagram_terms.specs.Dual.{dual}
use Rattle.diagram_terms.specs.Composite.{comp, ident}
use Rattle.diagram_terms.specs.Valid.{ValidArrow, Valid}
use Rattle.diagram_terms.specs.Degeneracy.{DegeneracyByShape}
use Rattle.diagram_terms.specs.Least.{FactorsBy}
use Rattle.diagram_terms.proofs.Duals.{same_numbers}
use Rattle.diagram_terms.proofs.Injections.{increasing-dual_same}
use Rattle.diagram_terms.proofs.Parts.{comp-from, comp-height, comp-heights_len, comp-reg, comp-sing, comp-sings_len, same_ends, same_arrows}
use Rattle.map_laws.proofs.ValidParts.{height_within}
use Rattle.map_laws.proofs.ValidIdentities.{identities_are_valid}
use Rattle.map_laws.proofs.Neutral.{neutral_after}
use Rattle.map_laws.proofs.IdentityShapes.{identities_have_shape}
use Rattle.degeneracy_laws.proofs.ShapeComposites.{identity_shape}
use Rattle.diagram_terms.specs.Factors.{regular_over, factor_through}
use Rattle.normal_form_laws.proofs.FactorParts.{factor-from, factor-to, factor-heights_len, factor-height, factor-regs_len, factor-reg, factor-sings_len, factor-sing, over_within, over-dual}

abbrev pub FactorsAreFoundByShape : ℕ → Type 0
FactorsAreFoundByShape d = (W R T : Dia d) (f e g : Arr d) → DegeneracyByShape d R T e → FactorsBy d W R f e g
    → factor_through d e f ≡ g

found_base : FactorsAreFoundByShape zero
found_base W R T f e g q by = same_ends (factor_through zero e f) g
    (factor-from e f ∙ ap (λ (t : Arr zero). t.from) (sym by.composite) ∙ comp-from e g)
    (factor-to e f ∙ q.0.from ∙ sym by.valid.to)

-- the heights of an arrow f that is e g
module _ (d : ℕ) (W R T : Dia (suc d)) (f e g : Arr (suc d)) (q : DegeneracyByShape (suc d) R T e) (by : FactorsBy (suc d) W R f e g) where
  pub found_at : (i : ℕ) → i < length W.sings → height d f i ≡ height d e (height d g i)
  found_at i l = ap (λ (t : Arr (suc d)). height d t i) (sym by.composite) ∙ comp-height d e g i (let a = by.valid.heights_len in omega arith)

  pub found_place : (i : ℕ) → i < length W.sings → dual e.heights (height d f i) ≡ height d g i
  found_place i l = ap (dual e.heights) (found_at i l)
      ∙ increasing-dual_same e.heights q.increasing (height d g i)
      (let a = height_within d W R g by.valid i l in let b = q.valid.heights_len in omega arith)

  found_lengths : (length f.heights ≡ length W.sings) × (length f.sings ≡ length W.sings)
  found_lengths = (
    ap (λ (t : Arr (suc d)). length t.heights) (sym by.composite) ∙ comp-heights_len d e g ∙ by.valid.heights_len,
    ap (λ (t : Arr (suc d)). length t.sings) (sym by.composite) ∙ comp-sings_len d e g ∙ by.valid.sings_len,
  )

-- one level up
module _ (d : ℕ) (ih : FactorsAreFoundByShape d) (W R T : Dia (suc d)) (f e g : Arr (suc d))
    (q : DegeneracyByShape (suc d) R T e) (by : FactorsBy (suc d) W R f e g) where
  found_reg : (j : ℕ) → j ≤ length R.sings → arrow_reg d (factor_through (suc d) e f) j ≡ arrow_reg d g j
  found_reg j l =
      let k : ℕ = regular_over d e j in
      let lk : k ≤ length T.sings = over_within d R T e q j in
      let at : dual e.heights k ≡ j = over-dual d R T e q j l in
      factor-reg d e f j (let a = q.valid.sings_len in omega arith)
      ∙ ih (reg d W (dual g.heights j)) (reg d R j) (reg d T k) (arrow_reg d f k) (arrow_reg d e k) (arrow_reg d g j)
      (subst (λ (m : ℕ). DegeneracyByShape d (reg d R m) (reg d T k) (arrow_reg d e k)) at (q.regs k lk))
      (record {
        valid = by.valid.regs j l;
        composite = ap (λ (m : ℕ). comp d (arrow_reg d e k) (arrow_reg d g m)) (sym at)
            ∙ sym (comp-reg d e g k (let a = q.valid.regs_len in omega arith)) ∙ ap (λ (t : Arr (suc d)). arrow_reg d t k) by.composite;
      })

  found_sing : (i : ℕ) → i < length W.sings → arrow_sing d (factor_through (suc d) e f) i ≡ arrow_sing d g i
  found_sing i l =
      let n : ℕ = height d g i in
      let ln = height_within d W R g by.valid i l in
      factor-sing d e f i (let a = (found_lengths d W R T f e g q by).1 in omega arith)
      ∙ ap (λ (m : ℕ). factor_through d (arrow_sing d e m) (arrow_sing d f i)) (found_place d W R T f e g q by i l)
      ∙ ih (sing d W i) (sing d R n) (sing d T (height d e n)) (arrow_sing d f i) (arrow_sing d e n) (arrow_sing d g i) (q.sings n ln)
      (record {
        valid = by.valid.sings i l;
        composite = sym (comp-sing d e g i (let a = by.valid.sings_len in omega arith)) ∙ ap (λ (t : Arr (suc d)). arrow_sing d t i) by.composite;
      })

  found_step : factor_through (suc d) e f ≡ g
  found_step =
      let c : Arr (suc d) = factor_through (suc d) e f in
      let n = (found_lengths d W R T f e g q by).0 in
      let m = (found_lengths d W R T f e g q by).1 in
      let hl = by.valid.heights_len in
      let rl = by.valid.regs_len in
      let sl = by.valid.sings_len in
      let el = q.valid.sings_len in
      let c1 = factor-heights_len d e f in
      let c2 = factor-regs_len d e f in
      let c3 = factor-sings_len d e f in
      same_arrows d c g
      (same_numbers c.heights g.heights (omega arith) (λ i l. factor-height d e f i (omega arith) ∙ found_place d W R T f e g q by i (omega arith)))
      (omega arith) (λ j l. found_reg j (omega arith))
      (omega arith) (λ i l. found_sing i (omega arith))

pub factors_are_found_by_shape : (d : ℕ) → FactorsAreFoundByShape d
factors_are_found_by_shape zero = found_base
factors_are_found_by_shape (suc d) = found_step d (factors_are_found_by_shape d)

-- the factor through an identity is the arrow itself
pub factor_through_identity : (d : ℕ) (X Y : Dia d) (f : Arr d) → Valid d Y → ValidArrow d X Y f → factor_through d (ident d Y) f ≡ f
factor_through_identity d X Y f vY vf = factors_are_found_by_shape d X Y Y f (ident d Y) f
    (identity_shape d Y Y (ident d Y) (identities_are_valid d Y vY) (identities_have_shape d Y vY))
    (record { valid = vf; composite = neutral_after d X Y f vY vf })

-- so where there is a factor, it is this one
pub found_factor : (d : ℕ) (W R T : Dia d) (f e g : Arr d) → DegeneracyByShape d R T e → FactorsBy d W R f e g
    → FactorsBy d W R f e (factor_through d e f)
found_factor d W R T f e g q by = subst (FactorsBy d W R f e) (sym (factors_are_found_by_shape d W R T f e g q by)) by
