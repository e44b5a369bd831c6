-- Listing the subtrees of ids: the ids in the order in which they are completed, and the nodes made of them.
use Rattle.std.specs.Prelude.{◌≡◌, ℕ, ◌<◌, ◌≤◌, true, List, [], ◌∷◌, length, map, get_or, slice_get, Some}
use Rattle.diagram_terms.specs.declared.node.Node.{Node}
use Rattle.diagram_terms.specs.Tree.{Tree, nil}
use Rattle.diagram_terms.specs.Dual.{AreBelow}
use Rattle.diagram_terms.specs.Dimension.{dimension_of}
use Rattle.diagram_terms.specs.Completion.{all_numbered, ComesAfterChildren}
use Rattle.diagram_terms.specs.Nodes.{places_below}
use Rattle.hashcons.specs.declared.id.AnyId.{AnyId}
use Rattle.hashcons.specs.declared.id.AnyId.TheVariants as id
use Rattle.hashcons.specs.Contents.{Contents}
use Rattle.hashcons.specs.Ids.{IsOf, tree_of, id_at}

-- the ids are of the store
pub record AreOf (c : Contents) (ids : List AnyId) : Type 0 where
  pub of_store : (i : ℕ) → i < length ids → IsOf c (id_at ids i)

-- their trees
abbrev pub listed : Contents → List AnyId → List Tree
listed c ids = map (tree_of c) ids

-- each node names earlier places alone
pub record NameEarlier (nodes : List Node) : Type 0 where
  pub earlier : (i : ℕ) (none : Node) → i < length nodes → places_below i (get_or nodes i none) ≡ true

-- ids of the store, each of which comes after its children
pub record IsListing (c : Contents) (ids : List AnyId) : Type 0 where
  pub of_store : AreOf c ids
  pub after : ComesAfterChildren (listed c ids)

-- the ids after these trees were completed in turn
pub record Visits (c : Contents) (old new : List AnyId) (ts : List Tree) : Type 0 where
  pub listing : IsListing c new
  pub trees : listed c new ≡ all_numbered (listed c old) ts

-- the dimension of the first of some ids among these trees
abbrev pub first_dimension : List Tree → List ℕ → ℕ
first_dimension trees [] = 0
first_dimension trees (i ∷ is) = dimension_of (get_or trees i nil)

-- ids among these trees, which have one dimension
pub record AreOfOneDimension (trees : List Tree) (ids : List ℕ) : Type 0 where
  pub of_store : AreBelow ids (length trees)
  pub dims : (j : ℕ) → j < length ids → dimension_of (get_or trees (get_or ids j 0) nil) ≡ first_dimension trees ids

-- the id stands in the list
pub record StandsIn (ids : List AnyId) (x : AnyId) : Type 0 where
  pub place : ℕ
  pub there : slice_get ids place ≡ Some x

-- the first place at which it does
pub record IsFirstPlace (ids : List AnyId) (x : AnyId) (place : ℕ) : Type 0 where
  pub there : slice_get ids place ≡ Some x
  pub first : (k : ℕ) → slice_get ids k ≡ Some x → place ≤ k

-- ids of one kind
abbrev pub diagram_ids : List ℕ → List AnyId
diagram_ids ds = map (λ d. id.Diagram d) ds

abbrev pub arrow_ids : List ℕ → List AnyId
arrow_ids xs = map (λ a. id.Arrow a) xs

-- each of these ids stands in the list
pub record AllStandIn (ids xs : List AnyId) : Type 0 where
  pub stand : (j : ℕ) → j < length xs → StandsIn ids (id_at xs j)

-- their first places, for the first n of them
pub record ArePlacesOf (ids xs : List AnyId) (n : ℕ) (places : List ℕ) : Type 0 where
  pub len : length places ≡ n
  pub are : (j : ℕ) → j < n → IsFirstPlace ids (id_at xs j) (get_or places j 0)
