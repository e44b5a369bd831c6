-- A list has at most one refusal, and a list of heights has none.
use Rattle.std.specs.Prelude.{◌≡◌, ℕ, List}
use Rattle.diagram_terms.specs.Dual.{IsMonotone, AreBelow}
use Rattle.monotone_dual.specs.declared.refusal.MonoRefusal.{MonoRefusal}
use Rattle.monotone_dual.specs.Refusals.{IsRefusal}

pub record HasOneRefusal : Type 0 where
  pub one : (heights : List ℕ) (m : ℕ) (r s : MonoRefusal)
      → IsRefusal heights m r → IsRefusal heights m s → r ≡ s
  pub none : (heights : List ℕ) (m : ℕ) (r : MonoRefusal)
      → IsMonotone heights → AreBelow heights m → IsRefusal heights m r → ⊥
