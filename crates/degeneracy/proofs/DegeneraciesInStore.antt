-- Degeneracies among the maps of a store, part by part, while the store grows.
use Rattle.std.proofs.Common.{◌≡◌, ◌↔◌, ℕ, zero, suc, List, inl, inr, ◌<◌, length, get_or, Bool, true, false, IsTrue, Result, Ok, refl, subst, arith}
use Rattle.std.specs.Result.{IsErr}
use Rattle.std.proofs.lemmas.Result.{IfOk-from_err}
use Rattle.std.proofs.lemmas.Bool.{cases_lt}
use Rattle.diagram_terms.specs.Dual.{IsIncreasing}
use Rattle.hashcons.specs.Contents.{Contents, Grows, IsStore, IsDiagramOf, diagram_at}
use Rattle.hashcons.proofs.OneMoreTree.{Grows-refl}
use Rattle.hashcons.proofs.Growth.{Grows-trans, store-kept, diagram-kept, arrow-kept, diagram_at-kept, arrow_at-kept}
use Rattle.zigzag_maps.proofs.KeptMaps.{valid_map-grows, valid_diagram-grows, between_same}
use Rattle.degeneracy.specs.declared.degeneracy_kept.DegeneracyKept.{DegeneracyKept}
use Rattle.degeneracy.specs.DegeneracyKeeps.{AreDegeneracies, Decides}
use Rattle.degeneracy.proofs.FactorMaps.{degeneracy_map-grows}

-- ---- answers

pub no_means : (P : Type 0) → (P → ⊥) → IsTrue false ↔ P
no_means P miss = (λ e. absurd (cc), λ h. absurd (miss h))

pub yes_means : (P : Type 0) → P → IsTrue true ↔ P
yes_means P h = (λ e. h, λ p. refl)

pub fails : (b : Bool) (P : Type 0) → IsTrue b ↔ P → b ≡ false → P → ⊥
fails b P d e h = let t = d.1 h in absurd (cc)

pub Decides-err : {E : Type 0} (old new : Contents) (kept : DegeneracyKept) (P : Type 0) (r : Result Bool E) → Grows old new → AreDegeneracies new kept
    → IsErr r → Decides old new kept P r
Decides-err old new kept P r g h e = record { grows = g; right = h; decides = IfOk-from_err r _ e }

pub Decides-no : {E : Type 0} (old new : Contents) (kept : DegeneracyKept) (P : Type 0) → Grows old new → AreDegeneracies new kept → (P → ⊥)
    → Decides {E = E} old new kept P (Ok false)
Decides-no old new kept P g h miss = record { grows = g; right = h; decides = no_means P miss }

-- ---- maps while the store grows

pub degeneracies-grow : (old new : Contents) (kept : DegeneracyKept) → Grows old new → AreDegeneracies old kept → AreDegeneracies new kept
degeneracies-grow old new kept g h = record {
  maps = λ m e. (let k = h.maps m e in
      record { valid = valid_map-grows old new m g k.valid; degeneracy = degeneracy_map-grows old new m g k.valid k.degeneracy });
}

-- heights that rise from each to the next increase
pub adjacent_increases : (hs : List ℕ) → ((j : ℕ) → suc j < length hs → get_or hs j 0 < get_or hs (suc j) 0) → IsIncreasing hs
adjacent_increases hs next = record { increases = up }
  where
    up : (i j : ℕ) → i < j → j < length hs → get_or hs i 0 < get_or hs j 0
    up i zero l k = absurd (omega arith)
    up i (suc j) l k = elim (cases_lt i j) [
      | inl q ↦ let a = up i j q (omega arith) in let b = next j k in omega arith
      | inr q ↦ let e : j ≡ i = omega arith in subst (λ (n : ℕ). get_or hs n 0 < get_or hs (suc j) 0) e (next j k)
    ]

-- ids of one tree are one id
pub one_id : (c : Contents) (a b : ℕ) → IsStore c → IsDiagramOf c a → IsDiagramOf c b → diagram_at c a ≡ diagram_at c b → a ≡ b
one_id c a b store l k e = store.diagrams_once a b l k e

pub ruleset degenerating = (Grows-refl, Grows-trans, store-kept, diagram-kept, arrow-kept, diagram_at-kept, arrow_at-kept, valid_map-grows, valid_diagram-grows, degeneracies-grow)
