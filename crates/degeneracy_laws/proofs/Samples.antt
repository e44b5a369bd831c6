-- The definitions at a small diagram: T is x -> x <- x over a label x, with identity legs.
use Rattle.std.proofs.Common.{◌≡◌, ℕ, zero, suc, ◌<◌, ◌≤◌, List, [], ◌∷◌, refl, arith, inl}
use Rattle.diagram_terms.specs.declared.place.Keep.TheVariants as keep
use Rattle.diagram_terms.specs.declared.label.Label.{Label}
use Rattle.diagram_terms.specs.Family.{Ends, Dia, Arr, reg, sing, fwd, bwd, arrow_reg}
use Rattle.diagram_terms.specs.Dual.{dual}
use Rattle.diagram_terms.specs.Composite.{comp, ident, identity_diagram}
use Rattle.diagram_terms.specs.Identity.{IsIdentity}
use Rattle.diagram_terms.specs.Valid.{ValidArrow, Valid, Commutes}
use Rattle.diagram_terms.specs.Degeneracy.{DegeneracyByShape}
use Rattle.diagram_terms.specs.Least.{Leg, leg_at, ValidLegs, FactorsBy, Hits, IsOneOf, ReducedFor, IsLeast}
use Rattle.diagram_terms.proofs.Duals.{dual-nil}
use Rattle.diagram_terms.proofs.Parts.{ident-height}
use Rattle.map_laws.proofs.Neutral.{neutral_after}
use Rattle.map_laws.proofs.ValidIdentities.{identities_are_valid}
use Rattle.degeneracy_laws.proofs.Degeneracies.{identities_are_degeneracies}
use Rattle.degeneracy_laws.proofs.Leasts.{reduced_means_least}
use Rattle.degeneracy_laws.proofs.Splits.{shape_means_degeneracy}

module _ (x : Label) where
  abbrev i : Ends
  i = record { from = x; to = x }

  abbrev T : Dia 1
  T = record { regs = x ∷ x ∷ []; sings = x ∷ []; fwds = i ∷ []; bwds = i ∷ [] }

  abbrev S : Dia 1
  S = identity_diagram 0 x

  abbrev a : Arr 1
  a = record { heights = []; regs = i ∷ i ∷ []; sings = [] }

  valid_i : ValidArrow 0 x x i
  valid_i = record { from = refl; to = refl; order = inl refl }

  valid_T : Valid 1 T
  valid_T = record {
    regs_len = refl;
    fwds_len = refl;
    bwds_len = refl;
    regs = λ j l. tt;
    sings = λ k l. tt;
    fwds = fwds;
    bwds = bwds;
  }
    where
      fwds : (k : ℕ) → k < 1 → ValidArrow 0 (reg 0 T k) (sing 0 T k) (fwd 0 T k)
      fwds zero l = valid_i
      fwds (suc k) l = absurd (omega arith)

      bwds : (k : ℕ) → k < 1 → ValidArrow 0 (reg 0 T (suc k)) (sing 0 T k) (bwd 0 T k)
      bwds zero l = valid_i
      bwds (suc k) l = absurd (omega arith)

  valid_S : Valid 1 S
  valid_S = record {
    regs_len = refl;
    fwds_len = refl;
    bwds_len = refl;
    regs = λ j l. tt;
    sings = λ k l. tt;
    fwds = λ k l. absurd (omega arith);
    bwds = λ k l. absurd (omega arith);
  }

  -- ---- the arrow from the identity diagram of x, which misses the height of T

  valid_a : ValidArrow 1 S T a
  valid_a = record {
    heights_len = refl;
    regs_len = refl;
    sings_len = refl;
    monotone = record { rises = λ m n l p. absurd (omega arith) };
    below = record { below = λ m p. absurd (omega arith) };
    regs = regs;
    sings = λ m l. absurd (omega arith);
    squares = squares;
  }
    where
      regs : (j : ℕ) → j ≤ 1 → ValidArrow 0 (reg 0 S (dual [] j)) (reg 0 T j) (arrow_reg 0 a j)
      regs zero l = rw dual-nil valid_i
      regs (suc zero) l = rw dual-nil valid_i
      regs (suc (suc j)) l = absurd (omega arith)

      squares : (k : ℕ) → k < 1 → Commutes 0 S T a k
      squares zero l =
          let n = dual-nil 1 in
          record {
            empty = λ e. refl;
            first = λ p. absurd (omega arith);
            last = λ p. absurd (omega arith);
            inner = λ m p e. absurd (omega arith);
          }
      squares (suc k) l = absurd (omega arith)

  shape_a : DegeneracyByShape 1 S T a
  unfolding comp
  shape_a = record {
    valid = valid_a;
    increasing = record { increases = λ m n l p. absurd (omega arith) };
    regs = regs;
    sings = λ m l. absurd (omega arith);
    missed_fwds = missed_fwds;
    missed_bwds = missed_bwds;
  }
    where
      regs : (j : ℕ) → j ≤ 1 → DegeneracyByShape 0 (reg 0 S (dual [] j)) (reg 0 T j) (arrow_reg 0 a j)
      regs zero l = rw dual-nil (valid_i, refl)
      regs (suc zero) l = rw dual-nil (valid_i, refl)
      regs (suc (suc j)) l = absurd (omega arith)

      missed_fwds : (k : ℕ) → k < 1 → dual [] k ≡ dual [] (suc k)
          → DegeneracyByShape 0 (reg 0 S (dual [] k)) (sing 0 T k) (comp 0 (fwd 0 T k) (arrow_reg 0 a k))
      missed_fwds zero l e = rw dual-nil (valid_i, refl)
      missed_fwds (suc k) l e = absurd (omega arith)

      missed_bwds : (k : ℕ) → k < 1 → dual [] k ≡ dual [] (suc k)
          → DegeneracyByShape 0 (reg 0 S (dual [] (suc k))) (sing 0 T k) (comp 0 (bwd 0 T k) (arrow_reg 0 a (suc k)))
      missed_bwds zero l e = rw dual-nil (valid_i, refl)
      missed_bwds (suc k) l e = absurd (omega arith)

  -- it is the least for no legs
  reduced_S : ReducedFor keep.Free 1 S []
  reduced_S = record {
    regs = λ j l. tt;
    sings = λ k l. absurd (omega arith);
    hit = λ k l p q. absurd (omega arith);
  }

  least_for_none : IsLeast keep.Free 1 T [] S a
  least_for_none = reduced_means_least 1 T S [] [] a (λ k l. absurd (omega arith))
      (shape_means_degeneracy 1 S T a valid_S valid_T shape_a)
      (record { count = refl; sources = λ k l. absurd (omega arith); factors = λ k l. absurd (omega arith) }) reduced_S

  -- ---- the identity of T is the least for itself, since it hits the height of T

  abbrev whole : List (Leg 1)
  whole = record { source = T; arrow = ident 1 T } ∷ []

  reduced_T : ReducedFor keep.Free 1 T whole
  reduced_T = record {
    regs = λ j l. tt;
    sings = λ k l. tt;
    hit = hit;
  }
    where
      hit : (k : ℕ) → k < 1 → IsIdentity 0 (fwd 0 T k) → IsIdentity 0 (bwd 0 T k) → Hits 0 (λ g. IsOneOf 1 whole g) k
      hit zero l p q = record {
        g = record { source = T; arrow = ident 1 T };
        is_leg = (0, omega arith, refl);
        i = 0;
        within = omega arith;
        goes = ident-height 0 T 0 (omega arith);
      }
      hit (suc k) l p q = absurd (omega arith)

  identity_valid : ValidArrow 1 T T (ident 1 T)
  identity_valid = identities_are_valid 1 T valid_T

  least_for_itself : IsLeast keep.Free 1 T whole T (ident 1 T)
  least_for_itself = reduced_means_least 1 T T whole whole (ident 1 T) valid_legs (identities_are_degeneracies 1 T valid_T)
      (record { count = refl; sources = λ k l. refl; factors = factors }) reduced_T
    where
      valid_legs : ValidLegs 1 T whole
      valid_legs zero l = record { source = valid_T; arrow = identity_valid }
      valid_legs (suc k) l = absurd (omega arith)

      factors : (k : ℕ) → k < 1
          → FactorsBy 1 (leg_at 1 whole k).source T (leg_at 1 whole k).arrow (ident 1 T) (leg_at 1 whole k).arrow
      factors zero l = record { valid = identity_valid; composite = neutral_after 1 T T (ident 1 T) valid_T identity_valid }
      factors (suc k) l = absurd (omega arith)
