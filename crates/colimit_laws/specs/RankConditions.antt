-- What colimits need of ranks.
use Rattle.std.specs.Prelude.{◌≡◌, ℕ, suc, ◌<◌, length, get_or}
use Rattle.std.specs.List.{Contains}
use Rattle.diagram_terms.specs.Dual.{IsMonotone, AreBelow, after}
use Rattle.diagram_terms.specs.HeightClasses.{HeightMap, HeightShape, Member, IsMember, AreJoined}
use Rattle.diagram_terms.specs.Ranks.{Ranks, ranks_of, rank, HasRank}

-- What a colimit needs of ranks: they do not fall along an object, are the same at both ends of a join, are all taken, and
-- heights of one rank are in one class.
pub record AreRanks (H : HeightShape) (r : Ranks) : Type 0 where
  pub rows : length r.ranks ≡ length H.lengths
  pub columns : (x : ℕ) → x < length H.lengths → length (ranks_of r x) ≡ get_or H.lengths x 0
  pub monotone : (x : ℕ) → x < length H.lengths → IsMonotone (ranks_of r x)
  pub below : (x : ℕ) → x < length H.lengths → AreBelow (ranks_of r x) r.count
  pub constant : (m : HeightMap) → Contains H.maps m → after (ranks_of r m.to) m.heights ≡ ranks_of r m.from
  pub onto : (k : ℕ) → k < r.count → HasRank r k
  pub linked : (p q : Member) → IsMember H p → IsMember H q → rank r p.object p.height ≡ rank r q.object q.height → AreJoined H p q

-- the ranks k and k + 1 stand at two heights of some object that follow one another
pub record HasStep (r : Ranks) (k : ℕ) : Type 0 where
  pub object : ℕ
  pub height : ℕ
  pub within_objects : object < length r.ranks
  pub within : suc height < length (ranks_of r object)
  pub low : rank r object height ≡ k
  pub high : rank r object (suc height) ≡ suc k

-- What universality needs of ranks besides: each rank is forced to come before the next.
abbrev pub AreSettled : Ranks → Type 0
AreSettled r = (k : ℕ) → suc k < r.count → HasStep r k
