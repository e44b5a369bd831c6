-- Reduced diagrams as a test, and certificates of least degeneracies.
use Rattle.std.specs.Prelude.{ℕ, zero, suc, List, [], ◌∷◌, ◌++◌, length, Bool, true, not, ◌&&◌, ◌||◌, nat_lt}
use Rattle.std.specs.List.{list_all}
use Rattle.diagram_terms.specs.declared.place.Keep.TheVariants as keep
use Rattle.diagram_terms.specs.Family.{Dia, Arr, reg, sing, fwd, bwd}
use Rattle.diagram_terms.specs.Dual.{upto}
use Rattle.diagram_terms.specs.Loose.{is_identity}
use Rattle.diagram_terms.specs.Valid.{Valid}
use Rattle.diagram_terms.specs.Degeneracy.{DegeneracyByShape}
use Rattle.diagram_terms.specs.Least.{Leg, ValidLegs, LegsFactorBy, fwd_leg, bwd_leg, ReducedFor}
use Rattle.diagram_terms.specs.NormalForms.{regular_slices, slices_over}

-- what leads into S.s(k): the slices of the legs over k, and the two legs of S there
abbrev pub leads_into : (d : ℕ) → Dia (suc d) → List (Leg (suc d)) → ℕ → List (Leg d)
leads_into d S gs k = slices_over d gs k ++ fwd_leg d S k ∷ bwd_leg d S k ∷ []

-- whether the legs of S at k are identities only if a height of one of gs goes to k
abbrev pub is_hit_if_flat : (d : ℕ) → Dia (suc d) → List (Leg (suc d)) → ℕ → Bool
is_hit_if_flat d S gs k = not (is_identity d (fwd d S k) && is_identity d (bwd d S k)) || nat_lt 0 (length (slices_over d gs k))

-- whether S is reduced for the legs gs into S
abbrev pub is_reduced : (d : ℕ) → Dia d → List (Leg d) → Bool
is_reduced zero S gs = true
is_reduced (suc d) S gs =
    list_all (λ j. is_reduced d (reg d S j) (regular_slices d gs j)) (upto (suc (length S.sings)))
    && list_all (λ k. is_reduced d (sing d S k) (leads_into d S gs k)) (upto (length S.sings))
    && list_all (is_hit_if_flat d S gs) (upto (length S.sings))

-- a : S → T and gs are a certificate for the legs into T: all is valid, a has the shape of a degeneracy, the legs factor
-- through it by gs, and S is reduced for gs
pub record IsCertificate (d : ℕ) (T : Dia d) (legs : List (Leg d)) (S : Dia d) (a : Arr d) (gs : List (Leg d)) : Type 0 where
  pub target : Valid d T
  pub valid_legs : ValidLegs d T legs
  pub source : Valid d S
  pub shape : DegeneracyByShape d S T a
  pub factors : LegsFactorBy d legs S a gs
  pub reduced : ReducedFor keep.Free d S gs
