-- Lists of numbers below a bound.
use Rattle.std.proofs.Common.{ℕ, ◌<◌, ◌≤◌, List, ◌∷◌, arith, suc}
use Rattle.diagram_terms.specs.Dual.{AreBelow}

pub below_head : (n i : ℕ) (is : List ℕ) → AreBelow (i ∷ is) n → i < n
below_head n i is b = b.below 0 (omega arith)

pub below_tail : (n i : ℕ) (is : List ℕ) → AreBelow (i ∷ is) n → AreBelow is n
below_tail n i is b = record { below = λ j l. b.below (suc j) (omega arith) }

pub AreBelow-more : (k l : ℕ) → k ≤ l → (is : List ℕ) → AreBelow is k → AreBelow is l
AreBelow-more k l h is b = record { below = λ i m. omega (arith, b.below i m) }
