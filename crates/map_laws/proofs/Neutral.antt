-- Identities are neutral.
use Rattle.std.proofs.Common.{◌≡◌, ℕ, zero, suc, ◌<◌, ◌≤◌, List, length, sym, ap, ◌∙◌, arith}
use Rattle.diagram_terms.specs.Family.{Dia, Arr, reg, sing, height, arrow_reg, arrow_sing}
use Rattle.diagram_terms.specs.Dual.{dual, after}
use Rattle.diagram_terms.specs.Composite.{comp, ident}
use Rattle.diagram_terms.specs.Valid.{ValidArrow, Valid}
use Rattle.diagram_terms.proofs.Duals.{upto-after, after-upto}
use Rattle.diagram_terms.proofs.Parts.{comp-from, comp-to, comp-heights, comp-regs_len, comp-sings_len, comp-reg, comp-sing, ident-from, ident-to, ident-heights, ident-regs_len, ident-sings_len, ident-height, ident-reg, ident-sing, ident-dual, same_ends, same_arrows}
use Rattle.map_laws.specs.Laws.{IdentitiesAreNeutralAfter, IdentitiesAreNeutralBefore}
use Rattle.map_laws.proofs.ValidParts.{dual_within, height_within}

-- ---- after an arrow

after_base : IdentitiesAreNeutralAfter zero
after_base x y f vy vf =
    same_ends (comp zero (ident zero y) f) f (comp-from (ident zero y) f) (comp-to (ident zero y) f ∙ ident-to y ∙ sym vf.to)

module _ (d : ℕ) (ih : IdentitiesAreNeutralAfter d) (X Y : Dia (suc d)) (f : Arr (suc d)) (vY : Valid (suc d) Y) (vf : ValidArrow (suc d) X Y f) where
  after_reg : (k : ℕ) → k ≤ length Y.sings → arrow_reg d (comp (suc d) (ident (suc d) Y) f) k ≡ arrow_reg d f k
  after_reg k l =
      let il = ident-regs_len d Y in
      let yl = vY.regs_len in
      let e1 = comp-reg d (ident (suc d) Y) f k (omega arith) in
      let e2 = ident-reg d Y k (omega arith) in
      let e3 = ident-dual d Y k l in
      let e4 = ih (reg d X (dual f.heights k)) (reg d Y k) (arrow_reg d f k) (vY.regs k l) (vf.regs k l) in
      cc

  after_sing : (i : ℕ) → i < length X.sings → arrow_sing d (comp (suc d) (ident (suc d) Y) f) i ≡ arrow_sing d f i
  after_sing i l =
      let j : ℕ = height d f i in
      let lj : j < length Y.sings = height_within d X Y f vf i l in
      let e1 = comp-sing d (ident (suc d) Y) f i (let a = vf.sings_len in omega arith) in
      let e2 = ident-sing d Y j lj in
      let e3 = ih (sing d X i) (sing d Y j) (arrow_sing d f i) (vY.sings j lj) (vf.sings i l) in
      cc

  after_step : comp (suc d) (ident (suc d) Y) f ≡ f
  after_step =
      let hs : (comp (suc d) (ident (suc d) Y) f).heights ≡ f.heights =
      comp-heights d (ident (suc d) Y) f ∙ ap (λ (h : List ℕ). after h f.heights) (ident-heights d Y)
      ∙ upto-after (length Y.sings) f.heights vf.below in
      let rl = comp-regs_len d (ident (suc d) Y) f in
      let il = ident-regs_len d Y in
      let yl = vY.regs_len in
      let fl = vf.regs_len in
      let sl = comp-sings_len d (ident (suc d) Y) f in
      same_arrows d (comp (suc d) (ident (suc d) Y) f) f hs (omega arith) (λ k l. after_reg k (omega arith))
      sl (λ i l. after_sing i (let a = vf.sings_len in omega arith))

pub neutral_after : (d : ℕ) → IdentitiesAreNeutralAfter d
neutral_after zero = after_base
neutral_after (suc d) = after_step d (neutral_after d)

-- ---- before an arrow

before_base : IdentitiesAreNeutralBefore zero
before_base x y f vx vf =
    same_ends (comp zero f (ident zero x)) f (comp-from f (ident zero x) ∙ ident-from x ∙ sym vf.from) (comp-to f (ident zero x))

module _ (d : ℕ) (ih : IdentitiesAreNeutralBefore d) (X Y : Dia (suc d)) (f : Arr (suc d)) (vX : Valid (suc d) X) (vf : ValidArrow (suc d) X Y f) where
  before_reg : (k : ℕ) → k ≤ length Y.sings → arrow_reg d (comp (suc d) f (ident (suc d) X)) k ≡ arrow_reg d f k
  before_reg k l =
      let j : ℕ = dual f.heights k in
      let lj : j ≤ length X.sings = dual_within d X Y f vf k in
      let e1 = comp-reg d f (ident (suc d) X) k (let a = vf.regs_len in omega arith) in
      let e2 = ident-reg d X j (let a = vX.regs_len in omega arith) in
      let e3 = ih (reg d X j) (reg d Y k) (arrow_reg d f k) (vX.regs j lj) (vf.regs k l) in
      cc

  before_sing : (i : ℕ) → i < length X.sings → arrow_sing d (comp (suc d) f (ident (suc d) X)) i ≡ arrow_sing d f i
  before_sing i l =
      let e1 = comp-sing d f (ident (suc d) X) i (let a = ident-sings_len d X in omega arith) in
      let e2 = ident-sing d X i l in
      let e3 = ident-height d X i l in
      let e4 = ih (sing d X i) (sing d Y (height d f i)) (arrow_sing d f i) (vX.sings i l) (vf.sings i l) in
      cc

  before_step : comp (suc d) f (ident (suc d) X) ≡ f
  before_step =
      let hs : (comp (suc d) f (ident (suc d) X)).heights ≡ f.heights =
      comp-heights d f (ident (suc d) X) ∙ ap (λ (h : List ℕ). after f.heights h) (ident-heights d X)
      ∙ after-upto f.heights (length X.sings) vf.heights_len in
      let rl = comp-regs_len d f (ident (suc d) X) in
      let fl = vf.regs_len in
      let sl = comp-sings_len d f (ident (suc d) X) in
      let il = ident-sings_len d X in
      let fs = vf.sings_len in
      same_arrows d (comp (suc d) f (ident (suc d) X)) f hs rl (λ k l. before_reg k (omega arith))
      (omega arith) (λ i l. before_sing i (omega arith))

pub neutral_before : (d : ℕ) → IdentitiesAreNeutralBefore d
neutral_before zero = before_base
neutral_before (suc d) = before_step d (neutral_before d)
