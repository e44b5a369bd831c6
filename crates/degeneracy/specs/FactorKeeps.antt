-- What is kept of the factors among the arrows of a store is right.
use Rattle.std.specs.Prelude.{◌≡◌, ℕ, true, Some, Result, IfOk}
use Rattle.std.specs.Map.{lookup}
use Rattle.hashcons.specs.Contents.{Contents, Grows, IsArrowOf, same_pair, arrow_at}
use Rattle.degeneracy.specs.declared.factor_kept.FactorKept.{FactorKept}
use Rattle.degeneracy.specs.FoundFactors.{IsArrowWith}
use Rattle.degeneracy.specs.FactorTrees.{factors_tree, factor_tree}

-- g is the factor of f through e
pub record IsKeptFactor (c : Contents) (e f g : ℕ) : Type 0 where
  pub outer : IsArrowOf c e
  pub inner : IsArrowOf c f
  pub has : factors_tree (arrow_at c e) (arrow_at c f) ≡ true
  pub is : IsArrowWith c (factor_tree (arrow_at c e) (arrow_at c f)) g

pub record AreFactors (c : Contents) (kept : FactorKept) : Type 0 where
  pub factors : (e f g : ℕ) → lookup (same_pair (e, f)) kept.factors.entries ≡ Some g → IsKeptFactor c e f g

-- the store grows, what is kept is right, and an answer is as F says
pub record Finds {X E : Type 0} (old new : Contents) (kept : FactorKept) (F : X → Type 0) (r : Result X E) : Type 0 where
  pub grows : Grows old new
  pub right : AreFactors new kept
  pub found : IfOk r F
