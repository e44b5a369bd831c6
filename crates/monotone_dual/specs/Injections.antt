-- Injections by the heights that they miss.
use Rattle.std.specs.Prelude.{ℕ, ◌<◌, ◌↔◌, List, Contains}
use Rattle.diagram_terms.specs.Dual.{IsIncreasing, AreBelow}

-- the injection into m heights that hits exactly those that are not dropped
pub record IsSkip (m : ℕ) (dropped heights : List ℕ) : Type 0 where
  pub increasing : IsIncreasing heights
  pub below : AreBelow heights m
  pub hit : (h : ℕ) → h < m → Contains heights h ↔ (¬ Contains dropped h)
