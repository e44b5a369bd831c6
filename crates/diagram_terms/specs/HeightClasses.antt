-- Height orders: the heights of some objects, the classes that maps between the objects join, and which class comes before
-- which.
use Rattle.std.specs.Prelude.{◌≡◌, ◌⊎◌, ℕ, suc, ◌<◌, List, length, get_or}
use Rattle.std.specs.List.{Contains}
use Rattle.diagram_terms.specs.Dual.{AreBelow}

-- the heights of an arrow, from one object to another
pub record HeightMap : Type 0 where
  pub from : ℕ
  pub to : ℕ
  pub heights : List ℕ

-- how many heights each object has, and the maps between them
pub record HeightShape : Type 0 where
  pub lengths : List ℕ
  pub maps : List HeightMap

-- m goes from all heights of an object to heights of another
pub record IsHeightMap (H : HeightShape) (m : HeightMap) : Type 0 where
  pub from : m.from < length H.lengths
  pub to : m.to < length H.lengths
  pub heights_len : length m.heights ≡ get_or H.lengths m.from 0
  pub below : AreBelow m.heights (get_or H.lengths m.to 0)

-- each of the maps does
abbrev pub IsHeightShape : HeightShape → Type 0
IsHeightShape H = (m : HeightMap) → Contains H.maps m → IsHeightMap H m

-- ---- members

-- a height of an object
pub record Member : Type 0 where
  pub object : ℕ
  pub height : ℕ

-- the height i of the object x
abbrev pub member : ℕ → ℕ → Member
member x i = record { object = x; height = i }

-- p is a height of an object
pub record IsMember (H : HeightShape) (p : Member) : Type 0 where
  pub object : p.object < length H.lengths
  pub height : p.height < get_or H.lengths p.object 0

-- the order of members: by object, and in one object by height
abbrev pub IsBefore : Member → Member → Type 0
IsBefore p q = (p.object < q.object) ⊎ ((p.object ≡ q.object) × (p.height < q.height))

-- ---- classes

-- p and q are in one class: a chain of joins leads from p to q, each from a height to the one where a map sends it, or back
pub data AreJoined (H : HeightShape) (p : Member) : Member → Type 0 where
  itself : AreJoined H p p
  ahead : (m : HeightMap) → Contains H.maps m → (i : ℕ) → i < length m.heights
      → AreJoined H p (member m.from i) → AreJoined H p (member m.to (get_or m.heights i 0))
  behind : (m : HeightMap) → Contains H.maps m → (i : ℕ) → i < length m.heights
      → AreJoined H p (member m.to (get_or m.heights i 0)) → AreJoined H p (member m.from i)

-- p is the least member of its class
pub record IsLeastMember (H : HeightShape) (p : Member) : Type 0 where
  pub is_member : IsMember H p
  pub least : (q : Member) → IsMember H q → AreJoined H p q → IsBefore q p → ⊥

-- the class of p comes before that of q, another one: some object has a height in the first and the next height in the second
pub record ComesBefore (H : HeightShape) (p q : Member) : Type 0 where
  pub object : ℕ
  pub height : ℕ
  pub within : IsMember H (member object (suc height))
  pub first : AreJoined H p (member object height)
  pub next : AreJoined H q (member object (suc height))
  pub different : AreJoined H p q → ⊥

-- the class of p reaches that of q: a chain of one or more such steps leads from p to q
pub data Reaches (H : HeightShape) (p : Member) : Member → Type 0 where
  at_once : (q : Member) → ComesBefore H p q → Reaches H p q
  further : (q t : Member) → Reaches H p q → ComesBefore H q t → Reaches H p t
