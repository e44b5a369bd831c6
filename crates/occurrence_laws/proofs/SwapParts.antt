-- What `swap` and `put` are, one dimension at a time.
use Rattle.std.proofs.Common.{◌≡◌, ℕ, zero, suc, ◌+◌, List, ◌∷◌, length, refl}
use Rattle.diagram_terms.specs.Family.{Dia, Arr, reg}
use Rattle.diagram_terms.specs.Cone.{source}
use Rattle.diagram_terms.specs.Segments.{replaced, replacing}
use Rattle.diagram_terms.specs.Occurrences.{swap, put, slices_swapped, slices_put}

pub swap-zero : (B : Dia zero) (e : List ℕ) (S T : Dia zero) → swap zero B e S T ≡ T
unfolding swap put
swap-zero B e S T = refl

pub put-zero : (B : Dia zero) (e : List ℕ) (S M : Dia zero) (f : Arr zero) → put zero B e S M f ≡ f
unfolding swap put
put-zero B e S M f = refl

module _ (d : ℕ) (B : Dia (suc d)) (o : ℕ) (e : List ℕ) (S : Dia (suc d)) where
  pub swap-suc : (T : Dia (suc d)) → swap (suc d) B (o ∷ e) S T ≡ replaced d B o (o + length S.sings) (slices_swapped d (reg d B o) e (source d S) T)
  unfolding swap put
  swap-suc T = refl

  pub put-suc : (M : Dia (suc d)) (f : Arr (suc d))
      → put (suc d) B (o ∷ e) S M f ≡ replacing d B o (o + length S.sings) (slices_put d (reg d B o) e (source d S) S M f)
  unfolding swap put
  put-suc M f = refl
