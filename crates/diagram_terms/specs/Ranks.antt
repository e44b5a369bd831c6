-- The ranks that a height order gives to its classes under a bias.
use Rattle.std.specs.Prelude.{◌≡◌, ◌⊎◌, ℕ, ◌<◌, ◌-◌, List, [], length, get_or}
use Rattle.diagram_terms.specs.declared.place.Bias.{Bias}
use Rattle.diagram_terms.specs.declared.place.Bias.TheVariants.{Unbiased, Later}
use Rattle.diagram_terms.specs.HeightClasses.{HeightShape, Member, member, IsMember, IsBefore, AreJoined, Reaches}
use Rattle.diagram_terms.specs.OrderFaults.{IsAcyclic}

-- the rank of each height, by object, and how many ranks there are
pub record Ranks : Type 0 where
  pub ranks : List (List ℕ)
  pub count : ℕ

-- the ranks of the heights of the object x
abbrev pub ranks_of : Ranks → ℕ → List ℕ
ranks_of r x = get_or r.ranks x []

-- the rank of the height i of x, and that of a member
abbrev pub rank : Ranks → ℕ → ℕ → ℕ
rank r x i = get_or (ranks_of r x) i 0

abbrev pub rank_at : Ranks → Member → ℕ
rank_at r p = rank r p.object p.height

-- some height has the rank k
pub record HasRank (r : Ranks) (k : ℕ) : Type 0 where
  pub object : ℕ
  pub height : ℕ
  pub within_objects : object < length r.ranks
  pub within : height < length (ranks_of r object)
  pub ranked : rank r object height ≡ k

-- ---- keys

-- the key of a member: object and height, where the objects count from the last one under the bias Later
abbrev pub key : Bias → HeightShape → Member → Member
key Later H p = member (length H.lengths - 1 - p.object) p.height
key _ H p = p

-- the least key of the class of p is below that of the class of q: a member of the first has a key below all of the second
pub record HasLesserKey (b : Bias) (H : HeightShape) (p q : Member) : Type 0 where
  pub least : Member
  pub is_member : IsMember H least
  pub joined : AreJoined H p least
  pub below : (t : Member) → IsMember H t → AreJoined H q t → IsBefore (key b H least) (key b H t)

-- ---- the ranks of an order

-- No class reaches itself and, where there is no bias, of two classes one reaches the other. The ranks 0, 1, 2 and so on are
-- given one after the other: a class is available once all classes that reach it have a rank, and the next rank goes to the
-- available class with the least key.
pub record IsRanked (b : Bias) (H : HeightShape) (r : Ranks) : Type 0 where
  pub acyclic : IsAcyclic H
  pub settled : b ≡ Unbiased → (p q : Member) → IsMember H p → IsMember H q → (AreJoined H p q → ⊥) → Reaches H p q ⊎ Reaches H q p
  -- each member has a rank, and each rank below the count is taken
  pub rows : length r.ranks ≡ length H.lengths
  pub columns : (x : ℕ) → x < length H.lengths → length (ranks_of r x) ≡ get_or H.lengths x 0
  pub below : (p : Member) → IsMember H p → rank_at r p < r.count
  pub onto : (k : ℕ) → k < r.count → HasRank r k
  -- one rank for each class
  pub one_rank : (p q : Member) → IsMember H p → IsMember H q → AreJoined H p q → rank_at r p ≡ rank_at r q
  pub one_class : (p q : Member) → IsMember H p → IsMember H q → rank_at r p ≡ rank_at r q → AreJoined H p q
  -- the class of a rank was available when the lower ranks were given: all classes that reach it have one of those
  pub available : (p q : Member) → IsMember H p → IsMember H q → Reaches H p q → rank_at r p < rank_at r q
  -- and its key is less than that of each later class that was available then
  pub chosen : (p q : Member) → IsMember H p → IsMember H q → rank_at r p < rank_at r q
      → ((t : Member) → IsMember H t → Reaches H t q → rank_at r t < rank_at r p) → HasLesserKey b H p q
