-- The identity of a valid diagram is valid.
use Rattle.std.proofs.Common.{ℕ, zero, suc, ◌-◌, ◌<◌, ◌≡◌, List, length, refl, sym, ◌∙◌, subst, arith, inl}
use Rattle.diagram_terms.specs.Family.{Dia, reg, sing, fwd, bwd}
use Rattle.diagram_terms.specs.Dual.{IsMonotone, AreBelow, dual}
use Rattle.diagram_terms.specs.Composite.{ident}
use Rattle.diagram_terms.specs.Valid.{Valid, ValidArrow, Commutes}
use Rattle.diagram_terms.proofs.Duals.{mono-upto, below-upto}
use Rattle.diagram_terms.proofs.Parts.{ident-from, ident-to, ident-heights, ident-heights_len, ident-regs_len, ident-sings_len, ident-height, ident-reg, ident-sing, ident-dual}
use Rattle.map_laws.specs.Laws.{IdentitiesAreValid}
use Rattle.map_laws.proofs.Neutral.{neutral_after, neutral_before}

base : IdentitiesAreValid zero
base x v = record { from = ident-from x; to = ident-to x; order = inl refl }

-- one level up: over a height stands that height alone
module _ (d : ℕ) (ih : IdentitiesAreValid d) (X : Dia (suc d)) (v : Valid (suc d) X) where
  square : (k : ℕ) → k < length X.sings → Commutes d X X (ident (suc d) X) k
  square k l =
      let low = ident-dual d X k (omega arith) in
      let high = ident-dual d X (suc k) l in
      let rl = v.regs_len in
      let s = ident-sing d X k l in
      let r0 = ident-reg d X k (omega arith) in
      let r1 = ident-reg d X (suc k) (omega arith) in
      record {
        empty = λ e. absurd (omega arith);
        first = λ p.
            let a = neutral_before d _ _ (fwd d X k) (v.regs k (omega arith)) (v.fwds k l) in
            let b = neutral_after d _ _ (fwd d X k) (v.sings k l) (v.fwds k l) in
            cc;
        last = λ p.
            let same : dual (ident (suc d) X).heights (suc k) - 1 ≡ k = omega arith in
            let a = neutral_before d _ _ (bwd d X k) (v.regs (suc k) l) (v.bwds k l) in
            let b = neutral_after d _ _ (bwd d X k) (v.sings k l) (v.bwds k l) in
            cc;
        inner = λ i p e. absurd (omega arith);
      }

  step : ValidArrow (suc d) X X (ident (suc d) X)
  step =
      let n : ℕ = length X.sings in
      let hs = ident-heights d X in
      record {
        heights_len = ident-heights_len d X;
        regs_len = ident-regs_len d X ∙ v.regs_len;
        sings_len = ident-sings_len d X;
        monotone = subst IsMonotone (sym hs) (mono-upto n);
        below = subst (λ (h : List ℕ). AreBelow h n) (sym hs) (below-upto n);
        regs = λ j l. rw (ident-dual d X j l, ident-reg d X j (let a = v.regs_len in omega arith)) (ih (reg d X j) (v.regs j l));
        sings = λ i l. rw (ident-height d X i l, ident-sing d X i l) (ih (sing d X i) (v.sings i l));
        squares = square;
      }

pub identities_are_valid : (d : ℕ) → IdentitiesAreValid d
identities_are_valid zero = base
identities_are_valid (suc d) = step d (identities_are_valid d)
