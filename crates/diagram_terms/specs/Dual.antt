-- Lists of heights that do not fall, and their duals.
use Rattle.std.specs.Prelude.{ℕ, ◌<◌, ◌≤◌, List, get_or, length, map, count_by, nat_lt}
use Rattle.std.specs.List.{range_with_len}

-- the numbers below n
abbrev pub upto : ℕ → List ℕ
upto n = range_with_len 0 n

-- the list of f 0 .. f (n - 1)
abbrev pub tab : {X : Type 0} → (ℕ → X) → ℕ → List X
tab f n = map f (upto n)

-- a list that does not fall
pub record IsMonotone (heights : List ℕ) : Type 0 where
  pub rises : (i j : ℕ) → i ≤ j → j < length heights → get_or heights i 0 ≤ get_or heights j 0

-- a list whose numbers are below m
pub record AreBelow (heights : List ℕ) (m : ℕ) : Type 0 where
  pub below : (i : ℕ) → i < length heights → get_or heights i 0 < m

-- the dual at j: how many of the heights are below j
unfoldable pub dual : List ℕ → ℕ → ℕ
dual heights j = count_by (λ h. nat_lt h j) heights

-- the composite: first f, and then g
unfoldable pub after : List ℕ → List ℕ → List ℕ
after g f = map (λ i. get_or g i 0) f

-- a list in which each number is below all later ones
pub record IsIncreasing (heights : List ℕ) : Type 0 where
  pub increases : (i j : ℕ) → i < j → j < length heights → get_or heights i 0 < get_or heights j 0
