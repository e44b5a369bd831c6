-- An identity is told by its shape.
use Rattle.std.proofs.Common.{◌≡◌, ℕ, zero, suc, ◌<◌, ◌≤◌, List, length, get_or, sym, ap, ◌∙◌, subst, arith}
use Rattle.diagram_terms.specs.Family.{Dia, Arr, reg, sing, fwd, bwd, height, arrow_reg, arrow_sing}
use Rattle.diagram_terms.specs.Dual.{upto, dual, after}
use Rattle.diagram_terms.specs.Composite.{comp, ident}
use Rattle.diagram_terms.specs.Identity.{IsIdentity}
use Rattle.diagram_terms.specs.Valid.{ValidArrow, Valid}
use Rattle.diagram_terms.proofs.Duals.{dual-upto, get-upto, upto-after}
use Rattle.diagram_terms.proofs.Parts.{comp-from, comp-to, comp-heights, comp-regs_len, comp-sings_len, comp-reg, comp-sing, ident-from, ident-to, ident-heights, ident-regs_len, ident-sings_len, ident-reg, ident-sing, same_ends, same_arrows, same_diagrams}
use Rattle.diagram_terms.proofs.Squares.{first_at, last_at}
use Rattle.map_laws.specs.Laws.{IdentitiesHaveShape, ShapeMeansIdentity, IdentitiesCompose}
use Rattle.map_laws.proofs.ValidParts.{dual_within, height_within}
use Rattle.map_laws.proofs.Neutral.{neutral_after, neutral_before}

-- ---- the identity of a diagram has the shape

shaped_step : (d : ℕ) → IdentitiesHaveShape d → IdentitiesHaveShape (suc d)
shaped_step d ih X v =
    let il = ident-sings_len d X in
    let rl = ident-regs_len d X in
    let xl = v.regs_len in
    record {
      heights = ident-heights d X ∙ ap upto (sym il);
      regs_len = omega arith;
      regs = λ j l. rw (ident-reg d X j (omega arith)) (ih (reg d X j) (v.regs j (omega arith)));
      sings = λ i l. rw (ident-sing d X i (omega arith)) (ih (sing d X i) (v.sings i (omega arith)));
    }

pub identities_have_shape : (d : ℕ) → IdentitiesHaveShape d
identities_have_shape zero = λ x v. ident-from x ∙ sym (ident-to x)
identities_have_shape (suc d) = shaped_step d (identities_have_shape d)

-- ---- the heights of an arrow of that shape

module _ (d : ℕ) (X Y : Dia (suc d)) (f : Arr (suc d)) (vf : ValidArrow (suc d) X Y f) (jf : IsIdentity (suc d) f) where
  pub identity-heights : f.heights ≡ upto (length X.sings)
  identity-heights = jf.heights ∙ ap upto vf.sings_len

  pub identity-dual : (k : ℕ) → k ≤ length X.sings → dual f.heights k ≡ k
  identity-dual k l = ap (λ (hs : List ℕ). dual hs k) identity-heights ∙ dual-upto (length X.sings) k l

  pub identity-height : (i : ℕ) → i < length X.sings → height d f i ≡ i
  identity-height i l = ap (λ (hs : List ℕ). get_or hs i 0) identity-heights ∙ get-upto (length X.sings) i l

  -- it goes between diagrams of one length
  pub identity_length : length X.sings ≡ length Y.sings
  identity_length =
      let a = jf.regs_len in
      let b = vf.regs_len in
      let c = vf.sings_len in
      omega arith

-- ---- an arrow of that shape is the identity of the diagram at both its ends

shape_base : ShapeMeansIdentity zero
shape_base x y f vx vy vf jf =
    let e : f.to ≡ x = sym jf ∙ vf.from in
    (sym e ∙ vf.to, same_ends f (ident zero x) (vf.from ∙ sym (ident-from x)) (e ∙ sym (ident-to x)))

module _ (d : ℕ) (ih : ShapeMeansIdentity d) (X Y : Dia (suc d)) (f : Arr (suc d)) (vX : Valid (suc d) X) (vY : Valid (suc d) Y)
    (vf : ValidArrow (suc d) X Y f) (jf : IsIdentity (suc d) f) where
  at_reg : (j : ℕ) → j ≤ length X.sings → (reg d X j ≡ reg d Y j) × (arrow_reg d f j ≡ ident d (reg d X j))
  at_reg j l =
      let n = identity_length d X Y f vf jf in
      let m : j ≤ length Y.sings = omega arith in
      let v : ValidArrow d (reg d X j) (reg d Y j) (arrow_reg d f j) =
      subst (λ (k : ℕ). ValidArrow d (reg d X k) (reg d Y j) (arrow_reg d f j)) (identity-dual d X Y f vf jf j l) (vf.regs j m) in
      let r = jf.regs j (let a = vf.regs_len in omega arith) in
      ih (reg d X j) (reg d Y j) (arrow_reg d f j) (vX.regs j l) (vY.regs j m) v r

  at_sing : (i : ℕ) → i < length X.sings → (sing d X i ≡ sing d Y i) × (arrow_sing d f i ≡ ident d (sing d X i))
  at_sing i l =
      let n = identity_length d X Y f vf jf in
      let v : ValidArrow d (sing d X i) (sing d Y i) (arrow_sing d f i) =
      subst (λ (k : ℕ). ValidArrow d (sing d X i) (sing d Y k) (arrow_sing d f i)) (identity-height d X Y f vf jf i l) (vf.sings i l) in
      let s = jf.sings i (let a = vf.sings_len in omega arith) in
      ih (sing d X i) (sing d Y i) (arrow_sing d f i) (vX.sings i l) (vY.sings i (omega arith)) v s

  -- the squares say that the legs are the same
  at_fwd : (k : ℕ) → k < length X.sings → fwd d X k ≡ fwd d Y k
  at_fwd k l =
      let n = identity_length d X Y f vf jf in
      let low = identity-dual d X Y f vf jf k (omega arith) in
      let high = identity-dual d X Y f vf jf (suc k) l in
      let e = first_at (vf.squares k (omega arith)) k low (omega arith) in
      let u = neutral_before d _ _ (fwd d Y k) (vY.regs k (omega arith)) (vY.fwds k (omega arith)) in
      let w = neutral_after d _ _ (fwd d X k) (vX.sings k l) (vX.fwds k l) in
      let r = at_reg k (omega arith) in
      let s = at_sing k l in
      let r0 = r.0 in let r1 = r.1 in let s1 = s.1 in
      cc

  at_bwd : (k : ℕ) → k < length X.sings → bwd d X k ≡ bwd d Y k
  at_bwd k l =
      let n = identity_length d X Y f vf jf in
      let low = identity-dual d X Y f vf jf k (omega arith) in
      let high = identity-dual d X Y f vf jf (suc k) l in
      let e = last_at (vf.squares k (omega arith)) k (omega arith) (sym high) in
      let u = neutral_before d _ _ (bwd d Y k) (vY.regs (suc k) (omega arith)) (vY.bwds k (omega arith)) in
      let w = neutral_after d _ _ (bwd d X k) (vX.sings k l) (vX.bwds k l) in
      let r = at_reg (suc k) l in
      let s = at_sing k l in
      let r0 = r.0 in let r1 = r.1 in let s1 = s.1 in
      cc

  one_diagram : X ≡ Y
  one_diagram =
      let n = identity_length d X Y f vf jf in
      let x1 = vX.regs_len in
      let x2 = vX.fwds_len in
      let x3 = vX.bwds_len in
      let y1 = vY.regs_len in
      let y2 = vY.fwds_len in
      let y3 = vY.bwds_len in
      same_diagrams d X Y
      (omega arith) (λ j l. (at_reg j (omega arith)).0)
      n (λ i l. (at_sing i l).0)
      (omega arith) (λ k l. at_fwd k (omega arith))
      (omega arith) (λ k l. at_bwd k (omega arith))

  its_identity : f ≡ ident (suc d) X
  its_identity =
      let n = identity_length d X Y f vf jf in
      let xl = vX.regs_len in
      let rl = vf.regs_len in
      let sl = vf.sings_len in
      let i1 = ident-regs_len d X in
      let i2 = ident-sings_len d X in
      same_arrows d f (ident (suc d) X) (identity-heights d X Y f vf jf ∙ sym (ident-heights d X))
      (omega arith) (λ j l. (at_reg j (omega arith)).1 ∙ sym (ident-reg d X j (omega arith)))
      (omega arith) (λ i l. (at_sing i (omega arith)).1 ∙ sym (ident-sing d X i (omega arith)))

pub shape_means_identity : (d : ℕ) → ShapeMeansIdentity d
shape_means_identity zero = shape_base
shape_means_identity (suc d) = λ X Y f vX vY vf jf.
    (one_diagram d (shape_means_identity d) X Y f vX vY vf jf, its_identity d (shape_means_identity d) X Y f vX vY vf jf)

-- ---- the composite of identities

compose_base : IdentitiesCompose zero
compose_base x y z f g vf vg jf jg =
    comp-from g f ∙ jf ∙ vf.to ∙ sym vg.from ∙ jg ∙ sym (comp-to g f)

module _ (d : ℕ) (ih : IdentitiesCompose d) (X Y Z : Dia (suc d)) (f g : Arr (suc d)) (vf : ValidArrow (suc d) X Y f)
    (vg : ValidArrow (suc d) Y Z g) (jf : IsIdentity (suc d) f) (jg : IsIdentity (suc d) g) where
  compose_reg : (k : ℕ) → k ≤ length Z.sings → IsIdentity d (arrow_reg d (comp (suc d) g f) k)
  compose_reg k l =
      let j : ℕ = dual g.heights k in
      let lj : j ≤ length Y.sings = dual_within d Y Z g vg k in
      let fl = vf.regs_len in
      let gl = vg.regs_len in
      rw (comp-reg d g f k (omega arith))
      (ih _ _ _ (arrow_reg d f j) (arrow_reg d g k) (vf.regs j lj) (vg.regs k l) (jf.regs j (omega arith)) (jg.regs k (omega arith)))

  compose_sing : (i : ℕ) → i < length X.sings → IsIdentity d (arrow_sing d (comp (suc d) g f) i)
  compose_sing i l =
      let j : ℕ = height d f i in
      let lj : j < length Y.sings = height_within d X Y f vf i l in
      let fl = vf.sings_len in
      let gl = vg.sings_len in
      rw (comp-sing d g f i (omega arith))
      (ih _ _ _ (arrow_sing d f i) (arrow_sing d g j) (vf.sings i l) (vg.sings j lj) (jf.sings i (omega arith)) (jg.sings j (omega arith)))

  compose_step : IsIdentity (suc d) (comp (suc d) g f)
  compose_step =
      let rl = comp-regs_len d g f in
      let sl = comp-sings_len d g f in
      let fl = vf.sings_len in
      let gl = vg.regs_len in
      let m = identity_length d X Y f vf jf in
      let n = identity_length d Y Z g vg jg in
      record {
        heights = comp-heights d g f ∙ ap (λ (hs : List ℕ). after hs f.heights) (identity-heights d Y Z g vg jg)
            ∙ upto-after (length Y.sings) f.heights vf.below ∙ jf.heights ∙ ap upto (sym sl);
        regs_len = omega arith;
        regs = λ k l. compose_reg k (omega arith);
        sings = λ i l. compose_sing i (omega arith);
      }

pub identities_compose : (d : ℕ) → IdentitiesCompose d
identities_compose zero = compose_base
identities_compose (suc d) = compose_step d (identities_compose d)
