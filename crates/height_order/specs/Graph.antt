-- The classes of a shape by their least places, and the steps between them.
use Rattle.std.specs.Prelude.{◌≡◌, ◌↔◌, ℕ, ◌<◌, ◌≤◌, List, length, get_or, map, take, drop}
use Rattle.diagram_terms.specs.Dual.{tab}
use Rattle.diagram_terms.specs.HeightClasses.{HeightShape, AreJoined}
use Rattle.height_order.specs.declared.reach.Edge.{Edge}
use Rattle.height_order.specs.Places.{at, AreMembers}
use Rattle.height_order.specs.Reaching.{AreEdges}

-- the members of H, the least place of the class of each, and the edges between classes
pub record IsGraph (H : HeightShape) (first : List ℕ) (members : List (ℕ × ℕ)) (classes : List ℕ) (edges : List Edge) : Type 0 where
  pub placed : AreMembers H.lengths first members
  pub classes_len : length classes ≡ length members
  pub joined : (p q : ℕ) → p < length members → q < length members → (get_or classes p 0 ≡ get_or classes q 0) ↔ AreJoined H (at members p) (at members q)
  pub low : (p : ℕ) → p < length members → get_or classes p 0 ≤ p
  pub class_same : (p : ℕ) → p < length members → get_or classes (get_or classes p 0) 0 ≡ get_or classes p 0
  pub steps : AreEdges (length members) members classes edges

-- the value f of the class of each height of the object x, whose places begin at the first one of x
abbrev pub row_of : List ℕ → List ℕ → List ℕ → (ℕ → ℕ) → ℕ → List ℕ
row_of lengths first classes f x = map f (take (get_or lengths x 0) (drop (get_or first x 0) classes))

-- the value f of the class of each height, by object
abbrev pub by_object : List ℕ → List ℕ → List ℕ → (ℕ → ℕ) → List (List ℕ)
by_object lengths first classes f = tab (row_of lengths first classes f) (length lengths)
