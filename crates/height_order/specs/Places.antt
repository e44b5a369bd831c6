-- The members of a shape by their places, which are numbers.
use Rattle.std.specs.Prelude.{◌≡◌, ℕ, ◌+◌, ◌<◌, ◌≤◌, List, length, get_or, map}
use Rattle.std.specs.List.{flat_map}
use Rattle.diagram_terms.specs.Dual.{upto}
use Rattle.height_order.specs.declared.classes.Join.{Join}
use Rattle.diagram_terms.specs.HeightClasses.{HeightMap, Member, member, IsBefore}

-- the member at a place
abbrev pub at : List (ℕ × ℕ) → ℕ → Member
at members p = member (get_or members p (0, 0)).0 (get_or members p (0, 0)).1

-- the place of a member, where those of each object begin at its first one
abbrev pub place : List ℕ → Member → ℕ
place first q = get_or first q.object 0 + q.height

-- all heights of objects with these lengths stand in their order, and where those of each object begin
pub record AreMembers (lengths first : List ℕ) (members : List (ℕ × ℕ)) : Type 0 where
  pub first_len : length first ≡ length lengths
  pub within : (x i : ℕ) → x < length lengths → i < get_or lengths x 0 → place first (member x i) < length members
  pub placed : (x i : ℕ) → x < length lengths → i < get_or lengths x 0 → get_or members (place first (member x i)) (0, 0) ≡ (x, i)
  pub fits : (x : ℕ) → x < length lengths → get_or first x 0 + get_or lengths x 0 ≤ length members
  pub object : (p : ℕ) → p < length members → (at members p).object < length lengths
  pub height : (p : ℕ) → p < length members → (at members p).height < get_or lengths (at members p).object 0
  pub place_at : (p : ℕ) → p < length members → place first (at members p) ≡ p
  pub ordered : (p q : ℕ) → p < q → q < length members → IsBefore (at members p) (at members q)

-- the places that a map joins
abbrev pub joins_of : List ℕ → HeightMap → List Join
joins_of first m = map (λ i. record { one = place first (member m.from i); other = place first (member m.to (get_or m.heights i 0)) }) (upto (length m.heights))

-- those that the maps join
abbrev pub AreJoins : List ℕ → List HeightMap → List Join → Type 0
AreJoins first maps joins = joins ≡ flat_map (joins_of first) maps
