-- Why a list is no list of heights below m.
use Rattle.std.specs.Prelude.{ℕ, ◌-◌, ◌<◌, ◌≤◌, List, get_or, length}
use Rattle.diagram_terms.specs.Dual.{AreBelow}
use Rattle.monotone_dual.specs.declared.refusal.MonoRefusal.{MonoRefusal}
use Rattle.monotone_dual.specs.declared.refusal.MonoRefusal.TheVariants.{OutOfRange, NotMonotone}

-- the height at i is the first that is not below m
pub record IsFirstOutside (heights : List ℕ) (m i : ℕ) : Type 0 where
  pub within : i < length heights
  pub outside : m ≤ get_or heights i 0
  pub first : (k : ℕ) → k < i → get_or heights k 0 < m

-- the height at i is the first that is below the one before it
pub record IsFirstFall (heights : List ℕ) (i : ℕ) : Type 0 where
  pub after_first : 0 < i
  pub within : i < length heights
  pub falls : get_or heights i 0 < get_or heights (i - 1) 0
  pub first : (k : ℕ) → 0 < k → k < i → get_or heights (k - 1) 0 ≤ get_or heights k 0

-- what is out of range comes before what falls
abbrev pub IsRefusal : List ℕ → ℕ → MonoRefusal → Type 0
IsRefusal heights m (OutOfRange i) = IsFirstOutside heights m i
IsRefusal heights m (NotMonotone i) = AreBelow heights m × IsFirstFall heights i
