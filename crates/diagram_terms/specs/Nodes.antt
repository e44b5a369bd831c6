-- Lists of nodes, in which each node names earlier ones by their places.
use Rattle.std.specs.Prelude.{◌≡◌, ℕ, suc, List, [], ◌∷◌, ◌++◌, length, map, get_or, Bool, true, false, ◌&&◌, ◌==◌, nat_lt, nat_le, if◌then◌else◌, Option, Some, None, IsSome, unwrap_or}
use Rattle.std.specs.List.{list_all}
use Rattle.diagram_terms.specs.declared.label.Label.{Label}
use Rattle.diagram_terms.specs.declared.limits.TheConstants.{GREATEST_DIM, NUMBER_LIMIT}
use Rattle.diagram_terms.specs.declared.node.Node.{Node}
use Rattle.diagram_terms.specs.declared.node.Node.TheVariants as node
use Rattle.diagram_terms.specs.declared.node.Sort.{Sort}
use Rattle.diagram_terms.specs.declared.node.Sort.TheVariants as sort
use Rattle.diagram_terms.specs.Tree.{Tree, nil, point, zig, ends, zag}

-- ---- the trees

-- the trees at these places
abbrev pub picked : List Tree → List ℕ → List Tree
picked ts places = map (λ i. get_or ts i nil) places

-- the tree of a node behind nodes with these trees
abbrev pub node_tree : List Tree → Node → Tree
node_tree ts (node.Label x) = point x
node_tree ts (node.Diagram rs ss fs bs) = zig (picked ts rs) (picked ts ss) (picked ts fs) (picked ts bs)
node_tree ts (node.Labels x y) = ends x y
node_tree ts (node.Arrow hs rs ss) = zag hs (picked ts rs) (picked ts ss)

-- these trees, and then those of the nodes
abbrev pub trees_from : List Tree → List Node → List Tree
trees_from ts [] = ts
trees_from ts (n ∷ ns) = trees_from (ts ++ node_tree ts n ∷ []) ns

-- the tree of each place
abbrev pub trees_of : List Node → List Tree
trees_of nodes = trees_from [] nodes

abbrev pub tree_at : List Node → ℕ → Tree
tree_at nodes i = get_or (trees_of nodes) i nil

-- ---- the form

-- the number and the dimension of a label are within the limits
abbrev pub is_within_limits : Label → Bool
is_within_limits x = nat_lt x.number NUMBER_LIMIT && nat_le x.dim GREATEST_DIM

abbrev pub labels_within_limits : Node → Bool
labels_within_limits (node.Label x) = is_within_limits x
labels_within_limits (node.Diagram rs ss fs bs) = true
labels_within_limits (node.Labels x y) = is_within_limits x && is_within_limits y
labels_within_limits (node.Arrow hs rs ss) = true

-- the places that a node names are below n
abbrev pub all_below : ℕ → List ℕ → Bool
all_below n places = list_all (λ i. nat_lt i n) places

abbrev pub places_below : ℕ → Node → Bool
places_below n (node.Label x) = true
places_below n (node.Diagram rs ss fs bs) = all_below n rs && all_below n ss && all_below n fs && all_below n bs
places_below n (node.Labels x y) = true
places_below n (node.Arrow hs rs ss) = all_below n rs && all_below n ss

abbrev pub same_sort : Sort → Sort → Bool
same_sort (sort.Diagram d) (sort.Diagram e) = d == e
same_sort (sort.Diagram d) (sort.Arrow e) = false
same_sort (sort.Arrow d) (sort.Diagram e) = false
same_sort (sort.Arrow d) (sort.Arrow e) = d == e

-- what stands at a place is of this sort
abbrev pub is_of : List Sort → Sort → ℕ → Bool
is_of sorts s i = same_sort (get_or sorts i (sort.Diagram 0)) s

abbrev pub all_of : List Sort → Sort → List ℕ → Bool
all_of sorts s places = list_all (is_of sorts s) places

-- the heights do not fall, and each is below n
abbrev pub rises_from : ℕ → ℕ → List ℕ → Bool
rises_from low n [] = true
rises_from low n (h ∷ hs) = nat_le low h && nat_lt h n && rises_from h n hs

-- the lengths that the lists of a diagram have
abbrev pub diagram_lengths : List ℕ → List ℕ → List ℕ → List ℕ → Bool
diagram_lengths rs ss fs bs = (length rs == suc (length ss)) && (length fs == length ss) && (length bs == length ss)

-- A diagram or an arrow whose first regular slice stands at a place: what the sort of that slice is decides what the
-- other parts have to be, and its dimension is below the greatest.
abbrev pub diagram_over : List Sort → List ℕ → List ℕ → List ℕ → List ℕ → Sort → Option Sort
diagram_over sorts rs ss fs bs (sort.Arrow d) = None
diagram_over sorts rs ss fs bs (sort.Diagram d) =
    if nat_lt d GREATEST_DIM && all_of sorts (sort.Diagram d) rs && all_of sorts (sort.Diagram d) ss && all_of sorts (sort.Arrow d) fs && all_of sorts (sort.Arrow d) bs
    then Some (sort.Diagram (suc d)) else None

abbrev pub arrow_over : List Sort → List ℕ → List ℕ → Sort → Option Sort
arrow_over sorts rs ss (sort.Diagram d) = None
arrow_over sorts rs ss (sort.Arrow d) =
    if nat_lt d GREATEST_DIM && all_of sorts (sort.Arrow d) rs && all_of sorts (sort.Arrow d) ss
    then Some (sort.Arrow (suc d)) else None

abbrev pub first_sort : List Sort → List ℕ → Sort
first_sort sorts [] = sort.Diagram 0
first_sort sorts (i ∷ is) = get_or sorts i (sort.Diagram 0)

-- The sort of a node behind nodes of these sorts, where its parts fit together. Its places are below the length of the
-- list.
abbrev pub sort_of : List Sort → Node → Option Sort
sort_of sorts (node.Label x) = Some (sort.Diagram 0)
sort_of sorts (node.Diagram rs ss fs bs) =
    if diagram_lengths rs ss fs bs then diagram_over sorts rs ss fs bs (first_sort sorts rs) else None
sort_of sorts (node.Labels x y) = Some (sort.Arrow 0)
sort_of sorts (node.Arrow hs [] ss) = None
sort_of sorts (node.Arrow hs (r ∷ rs) ss) =
    if (length ss == length hs) && rises_from 0 (length rs) hs then arrow_over sorts (r ∷ rs) ss (first_sort sorts (r ∷ rs)) else None

abbrev pub node_sort : List Sort → Node → Sort
node_sort sorts n = unwrap_or (sort_of sorts n) (sort.Diagram 0)

-- these sorts, and then those of the nodes
abbrev pub sorts_from : List Sort → List Node → List Sort
sorts_from sorts [] = sorts
sorts_from sorts (n ∷ ns) = sorts_from (sorts ++ node_sort sorts n ∷ []) ns

-- the sort of each place
abbrev pub sorts_of : List Node → List Sort
sorts_of nodes = sorts_from [] nodes

abbrev pub sort_at : List Node → ℕ → Sort
sort_at nodes i = get_or (sorts_of nodes) i (sort.Diagram 0)

-- A node has the form, behind nodes of these sorts: its labels are within the limits, its places are earlier ones, and
-- its parts fit together.
pub record IsNode (sorts : List Sort) (n : Node) : Type 0 where
  pub labels : labels_within_limits n ≡ true
  pub places : places_below (length sorts) n ≡ true
  pub fits : IsSome (sort_of sorts n)

-- nodes that have the form, behind nodes of these sorts
abbrev pub AreNodesFrom : List Sort → List Node → Type 0
AreNodesFrom sorts [] = Unit {0}
AreNodesFrom sorts (n ∷ ns) = IsNode sorts n × AreNodesFrom (sorts ++ node_sort sorts n ∷ []) ns

-- the form of a list of nodes
abbrev pub AreNodes : List Node → Type 0
AreNodes nodes = AreNodesFrom [] nodes
