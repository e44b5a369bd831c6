-- What is kept of the degeneracies among the maps of a store is right.
use Rattle.std.specs.Prelude.{◌≡◌, ◌↔◌, ℕ, ◌&&◌, nat_eq, Bool, true, IsTrue, Result, IfOk}
use Rattle.std.specs.HashSet as set
use Rattle.hashcons.specs.Contents.{Contents, Grows}
use Rattle.zigzag_maps.specs.declared.map.Map.{Map}
use Rattle.zigzag_maps.specs.Found.{IsValidMap}
use Rattle.degeneracy.specs.declared.degeneracy_kept.DegeneracyKept.{DegeneracyKept}
use Rattle.degeneracy.specs.DegeneracyTrees.{IsDegeneracyMap}

-- whether two triples of ids are equal
abbrev pub same_triple : ℕ × ℕ × ℕ → ℕ × ℕ × ℕ → Bool
same_triple x y = nat_eq x.0 y.0 && nat_eq x.1 y.1 && nat_eq x.2 y.2

-- m is a valid map, and a degeneracy
pub record IsKeptDegeneracy (c : Contents) (m : Map) : Type 0 where
  pub valid : IsValidMap c m
  pub degeneracy : IsDegeneracyMap c m

pub record AreDegeneracies (c : Contents) (kept : DegeneracyKept) : Type 0 where
  pub maps : (m : Map) → set.contains same_triple kept.maps (m.source, m.target, m.arrow) ≡ true → IsKeptDegeneracy c m

-- the store grows, what is kept is right, and the answer is yes exactly if P holds
pub record Decides {E : Type 0} (old new : Contents) (kept : DegeneracyKept) (P : Type 0) (r : Result Bool E) : Type 0 where
  pub grows : Grows old new
  pub right : AreDegeneracies new kept
  pub decides : IfOk r (λ yes. IsTrue yes ↔ P)
