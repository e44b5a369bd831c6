-- Arrows of the shape of a degeneracy: they are valid, identities are among them, and they compose.
use Rattle.std.proofs.Common.{◌≡◌, ℕ, zero, suc, ◌-◌, ◌<◌, ◌≤◌, length, refl, sym, ap, ◌∙◌, subst, arith, inl, inr}
use Rattle.std.proofs.lemmas.Bool.{cases_lt}
use Rattle.diagram_terms.specs.Family.{Dia, Arr, reg, sing, fwd, bwd, height, arrow_reg, arrow_sing}
use Rattle.diagram_terms.specs.Dual.{IsIncreasing, dual}
use Rattle.diagram_terms.specs.Composite.{comp}
use Rattle.diagram_terms.specs.Identity.{IsIdentity}
use Rattle.diagram_terms.specs.Valid.{ValidArrow, Valid}
use Rattle.diagram_terms.specs.Degeneracy.{DegeneracyByShape}
use Rattle.diagram_terms.proofs.Duals.{dual_mono, in_fibre}
use Rattle.diagram_terms.proofs.Injections.{increasing-after, increasing-upto}
use Rattle.diagram_terms.proofs.Parts.{comp-heights, comp-height, comp-reg, comp-sing}
use Rattle.map_laws.proofs.ValidParts.{dual_within, height_within, follows, composite-dual}
use Rattle.map_laws.proofs.Associativity.{associative}
use Rattle.map_laws.proofs.CompositeSquares.{left_edge, right_edge, enter, leave, left_edge-enter, right_edge-leave, fwd-composite, bwd-composite}
use Rattle.map_laws.proofs.ValidComposites.{composites_are_valid}
use Rattle.map_laws.proofs.IdentityShapes.{identity-heights, identity-dual, identity_length, identities_compose}

pub shape_valid : (d : ℕ) (X Y : Dia d) (f : Arr d) → DegeneracyByShape d X Y f → ValidArrow d X Y f
shape_valid zero X Y f q = q.0
shape_valid (suc d) X Y f q = q.valid

-- ---- a valid identity has the shape

abbrev IdentitiesHaveTheShape : ℕ → Type 0
IdentitiesHaveTheShape d = (X Y : Dia d) (f : Arr d) → ValidArrow d X Y f → IsIdentity d f → DegeneracyByShape d X Y f

identity_step : (d : ℕ) → IdentitiesHaveTheShape d → IdentitiesHaveTheShape (suc d)
identity_step d ih X Y f vf jf =
    let fl = vf.regs_len in
    let sl = vf.sings_len in
    let n = identity_length d X Y f vf jf in
    let none_missed : (k : ℕ) → k < length Y.sings → dual f.heights k ≡ dual f.heights (suc k) → ⊥ =
    λ k l e. absurd (
    let low = identity-dual d X Y f vf jf k (omega arith) in
    let high = identity-dual d X Y f vf jf (suc k) (omega arith) in omega arith) in
    record {
      valid = vf;
      increasing = subst IsIncreasing (sym (identity-heights d X Y f vf jf)) (increasing-upto (length X.sings));
      regs = λ j l. ih _ _ (arrow_reg d f j) (vf.regs j l) (jf.regs j (omega arith));
      sings = λ i l. ih _ _ (arrow_sing d f i) (vf.sings i l) (jf.sings i (omega arith));
      missed_fwds = λ k l e. absurd (none_missed k l e);
      missed_bwds = λ k l e. absurd (none_missed k l e);
    }

pub identity_shape : (d : ℕ) → IdentitiesHaveTheShape d
identity_shape zero = λ x y f v j. (v, j)
identity_shape (suc d) = identity_step d (identity_shape d)

-- ---- the composite

abbrev pub ShapesCompose : ℕ → Type 0
ShapesCompose d = (X Y Z : Dia d) (f g : Arr d) → Valid d X → Valid d Y → Valid d Z
    → DegeneracyByShape d X Y f → DegeneracyByShape d Y Z g → DegeneracyByShape d X Z (comp d g f)

-- one level up
module _ (d : ℕ) (ih : ShapesCompose d) (X Y Z : Dia (suc d)) (f g : Arr (suc d))
    (vX : Valid (suc d) X) (vY : Valid (suc d) Y) (vZ : Valid (suc d) Z)
    (qf : DegeneracyByShape (suc d) X Y f) (qg : DegeneracyByShape (suc d) Y Z g) where
  -- the singular slice of g at a height c of Y that goes to k
  sing_over : (k c : ℕ) → dual g.heights k ≤ c → c < dual g.heights (suc k)
      → DegeneracyByShape d (sing d Y c) (sing d Z k) (arrow_sing d g c)
  sing_over k c low high =
      let top = dual_within d Y Z g qg.valid (suc k) in
      subst (λ (n : ℕ). DegeneracyByShape d (sing d Y c) (sing d Z n) (arrow_sing d g c))
      (in_fibre g.heights qg.valid.monotone c k low high) (qg.sings c (omega arith))

  -- at a height k of Z to which no height of X goes: none of Y does, or the first that does is missed by f
  left_shape : (k : ℕ) → k < length Z.sings → dual f.heights (dual g.heights k) ≡ dual f.heights (dual g.heights (suc k))
      → DegeneracyByShape d (reg d X (dual f.heights (dual g.heights k))) (sing d Z k)
      (left_edge d X Y Z f g vX vY vZ qf.valid qg.valid k)
  unfolding left_edge enter
  left_shape k lk e =
      let c : ℕ = dual g.heights k in
      let top : dual g.heights (suc k) ≤ length Y.sings = dual_within d Y Z g qg.valid (suc k) in
      let low : c ≤ dual g.heights (suc k) = dual_mono g.heights qg.valid.monotone k (suc k) (omega arith) in
      let lx = dual_within d X Y f qf.valid c in
      elim (cases_lt c (dual g.heights (suc k))) [
        | inr p ↦ rw (associative d _ _ _ _ (arrow_reg d f c) (arrow_reg d g k) (fwd d Z k)
            (qf.valid.regs c (omega arith)) (qg.valid.regs k (omega arith)) (vZ.fwds k lk))
            (ih _ _ _ (arrow_reg d f c) (comp d (fwd d Z k) (arrow_reg d g k))
            (vX.regs (dual f.heights c) lx) (vY.regs c (omega arith)) (vZ.sings k lk)
            (qf.regs c (omega arith)) (qg.missed_fwds k lk (omega arith)))
        | inl p ↦ (
            let m1 = dual_mono f.heights qf.valid.monotone c (suc c) (omega arith) in
            let m2 = dual_mono f.heights qf.valid.monotone (suc c) (dual g.heights (suc k)) p in
            rw (left_edge-enter d X Y Z f g vX vY vZ qf.valid qg.valid k c lk refl p)
            (ih _ _ _ (comp d (fwd d Y c) (arrow_reg d f c)) (arrow_sing d g c)
            (vX.regs (dual f.heights c) lx) (vY.sings c (omega arith)) (vZ.sings k lk)
            (qf.missed_fwds c (omega arith) (omega arith)) (sing_over k c (omega arith) p)))
      ]

  right_shape : (k : ℕ) → k < length Z.sings → dual f.heights (dual g.heights k) ≡ dual f.heights (dual g.heights (suc k))
      → DegeneracyByShape d (reg d X (dual f.heights (dual g.heights (suc k)))) (sing d Z k)
      (right_edge d X Y Z f g vX vY vZ qf.valid qg.valid k)
  unfolding right_edge leave
  right_shape k lk e =
      let c : ℕ = dual g.heights (suc k) in
      let top : c ≤ length Y.sings = dual_within d Y Z g qg.valid (suc k) in
      let low : dual g.heights k ≤ c = dual_mono g.heights qg.valid.monotone k (suc k) (omega arith) in
      let lx = dual_within d X Y f qf.valid c in
      elim (cases_lt (dual g.heights k) c) [
        | inr p ↦ rw (associative d _ _ _ _ (arrow_reg d f c) (arrow_reg d g (suc k)) (bwd d Z k)
            (qf.valid.regs c (omega arith)) (qg.valid.regs (suc k) lk) (vZ.bwds k lk))
            (ih _ _ _ (arrow_reg d f c) (comp d (bwd d Z k) (arrow_reg d g (suc k)))
            (vX.regs (dual f.heights c) lx) (vY.regs c (omega arith)) (vZ.sings k lk)
            (qf.regs c (omega arith)) (qg.missed_bwds k lk (omega arith)))
        | inl p ↦ (
            let j : ℕ = c - 1 in
            let sj : suc j ≡ c = omega arith in
            let m1 = dual_mono f.heights qf.valid.monotone (dual g.heights k) j (omega arith) in
            let m2 = dual_mono f.heights qf.valid.monotone j c (omega arith) in
            let m3 : dual f.heights (suc j) ≡ dual f.heights c = ap (dual f.heights) sj in
            let o : DegeneracyByShape d (reg d X (dual f.heights c)) (sing d Y j) (comp d (bwd d Y j) (arrow_reg d f (suc j))) =
            subst (λ (n : ℕ). DegeneracyByShape d (reg d X n) (sing d Y j) (comp d (bwd d Y j) (arrow_reg d f (suc j)))) m3
            (qf.missed_bwds j (omega arith) (omega arith)) in
            rw (right_edge-leave d X Y Z f g vX vY vZ qf.valid qg.valid k j lk (omega arith) sj)
            (ih _ _ _ (comp d (bwd d Y j) (arrow_reg d f (suc j))) (arrow_sing d g j)
            (vX.regs (dual f.heights c) lx) (vY.sings j (omega arith)) (vZ.sings k lk) o (sing_over k j (omega arith) (omega arith))))
      ]

  compose_step : DegeneracyByShape (suc d) X Z (comp (suc d) g f)
  compose_step =
      let dc = composite-dual d X Y Z f g qf.valid qg.valid in
      record {
        valid = composites_are_valid (suc d) X Y Z f g vX vY vZ qf.valid qg.valid;
        increasing = subst IsIncreasing (sym (comp-heights d g f))
            (increasing-after g.heights f.heights qg.increasing qf.increasing (follows d X Y Z f g qf.valid qg.valid));
        regs = λ k l.
            let lj = dual_within d Y Z g qg.valid k in
            rw (dc k, comp-reg d g f k (let a = qg.valid.regs_len in omega arith))
            (ih _ _ _ (arrow_reg d f (dual g.heights k)) (arrow_reg d g k)
            (vX.regs _ (dual_within d X Y f qf.valid (dual g.heights k))) (vY.regs _ lj) (vZ.regs k l)
            (qf.regs (dual g.heights k) lj) (qg.regs k l));
        sings = λ i l.
            let lj = height_within d X Y f qf.valid i l in
            let lk = height_within d Y Z g qg.valid (height d f i) lj in
            rw (comp-height d g f i (let a = qf.valid.heights_len in omega arith), comp-sing d g f i (let a = qf.valid.sings_len in omega arith))
            (ih _ _ _ (arrow_sing d f i) (arrow_sing d g (height d f i))
            (vX.sings i l) (vY.sings _ lj) (vZ.sings _ lk) (qf.sings i l) (qg.sings (height d f i) lj));
        missed_fwds = λ k l e. rw (dc k, fwd-composite d X Y Z f g vX vY vZ qf.valid qg.valid k l)
            (left_shape k l (sym (dc k) ∙ e ∙ dc (suc k)));
        missed_bwds = λ k l e. rw (dc (suc k), bwd-composite d X Y Z f g vX vY vZ qf.valid qg.valid k l)
            (right_shape k l (sym (dc k) ∙ e ∙ dc (suc k)));
      }

compose_base : ShapesCompose zero
compose_base x y z f g vx vy vz qf qg =
    (composites_are_valid zero x y z f g vx vy vz qf.0 qg.0, identities_compose zero x y z f g qf.0 qg.0 qf.1 qg.1)

pub shapes_compose : (d : ℕ) → ShapesCompose d
shapes_compose zero = compose_base
shapes_compose (suc d) = compose_step d (shapes_compose d)
