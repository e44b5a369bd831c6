-- The tree of an id of either kind.
use Rattle.std.specs.Prelude.{◌≡◌, ℕ, ◌<◌, List, length, get_or}
use Rattle.diagram_terms.specs.Tree.{Tree}
use Rattle.diagram_terms.specs.Shape.{IsDiagram, IsArrow}
use Rattle.hashcons.specs.declared.id.AnyId.{AnyId}
use Rattle.hashcons.specs.declared.id.AnyId.TheVariants as id
use Rattle.hashcons.specs.Contents.{Contents, IsDiagramOf, IsArrowOf, diagram_at, arrow_at}

-- the id is of the store
abbrev pub IsOf : Contents → AnyId → Type 0
IsOf c (id.Diagram d) = IsDiagramOf c d
IsOf c (id.Arrow a) = IsArrowOf c a

abbrev pub tree_of : Contents → AnyId → Tree
tree_of c (id.Diagram d) = diagram_at c d
tree_of c (id.Arrow a) = arrow_at c a

-- the id stands for a diagram of dimension n, or for an arrow of dimension n
abbrev pub HasDimension : Contents → ℕ → AnyId → Type 0
HasDimension c n (id.Diagram d) = IsDiagram n (diagram_at c d)
HasDimension c n (id.Arrow a) = IsArrow n (arrow_at c a)

-- the id at a place of a list
abbrev pub id_at : List AnyId → ℕ → AnyId
id_at ids i = get_or ids i (id.Diagram 0)

-- these are n ids of the store, and the j-th has the tree f j
pub record GathersIds (c : Contents) (ids : List AnyId) (n : ℕ) (f : ℕ → Tree) : Type 0 where
  pub len : length ids ≡ n
  pub of_store : (j : ℕ) → j < n → IsOf c (id_at ids j)
  pub are : (j : ℕ) → j < n → tree_of c (id_at ids j) ≡ f j

-- ids of diagrams stand at these places of a list, or ids of arrows
abbrev pub IsDiagramId : AnyId → Type 0
IsDiagramId (id.Diagram d) = Unit {0}
IsDiagramId (id.Arrow a) = ⊥

abbrev pub IsArrowId : AnyId → Type 0
IsArrowId (id.Diagram d) = ⊥
IsArrowId (id.Arrow a) = Unit {0}

pub record AreDiagramsAt (ids : List AnyId) (places : List ℕ) : Type 0 where
  pub within : (j : ℕ) → j < length places → get_or places j 0 < length ids
  pub are : (j : ℕ) → j < length places → IsDiagramId (id_at ids (get_or places j 0))

pub record AreArrowsAt (ids : List AnyId) (places : List ℕ) : Type 0 where
  pub within : (j : ℕ) → j < length places → get_or places j 0 < length ids
  pub are : (j : ℕ) → j < length places → IsArrowId (id_at ids (get_or places j 0))

-- these are the ids that stand at the first n of the places
pub record NameDiagrams (ids : List AnyId) (places : List ℕ) (n : ℕ) (ds : List ℕ) : Type 0 where
  pub len : length ds ≡ n
  pub are : (j : ℕ) → j < n → id_at ids (get_or places j 0) ≡ id.Diagram (get_or ds j 0)

pub record NameArrows (ids : List AnyId) (places : List ℕ) (n : ℕ) (xs : List ℕ) : Type 0 where
  pub len : length xs ≡ n
  pub are : (j : ℕ) → j < n → id_at ids (get_or places j 0) ≡ id.Arrow (get_or xs j 0)
