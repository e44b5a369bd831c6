-- The distinct subtrees of some trees, in the order in which they are first completed.
use Rattle.std.specs.Prelude.{◌≡◌, ℕ, zero, suc, ◌<◌, List, [], ◌∷◌, ◌++◌, length, map, get_or, Bool, true, false, ◌&&◌, ◌==◌, nat_eq, if◌then◌else◌}
use Rattle.std.specs.List.{list_any, flat_map}
use Rattle.diagram_terms.specs.declared.node.Node.{Node}
use Rattle.diagram_terms.specs.declared.node.Node.TheVariants as node
use Rattle.diagram_terms.specs.Tree.{Tree, nil, num, pair, kind, label_at, from_at, to_at, regs, sings, fwds, bwds, heights}
use Rattle.diagram_terms.specs.Dimension.{dimension_of}

-- The children of a node in the order in which they are visited: the regular slices, the singular slices, and then, in a
-- diagram, the legs forward and the legs backward.
unfoldable pub children : Tree → List Tree
children t =
    if kind t == 1 then regs t ++ sings t ++ fwds t ++ bwds t
    else (if kind t == 3 then regs t ++ sings t else [])

-- The subtrees of a tree that is n levels deep, as they are completed: those of each child, one child after the other,
-- and then the tree itself. A subtree stands there as often as it is met.
abbrev pub completed : ℕ → Tree → List Tree
completed zero t = t ∷ []
completed (suc n) t = flat_map (completed n) (children t) ++ t ∷ []

abbrev pub completions : Tree → List Tree
completions t = completed (dimension_of t) t

-- whether two trees are one
abbrev pub same_tree : Tree → Tree → Bool
same_tree nil nil = true
same_tree nil (num n) = false
same_tree nil (pair c d) = false
same_tree (num m) nil = false
same_tree (num m) (num n) = nat_eq m n
same_tree (num m) (pair c d) = false
same_tree (pair a b) nil = false
same_tree (pair a b) (num n) = false
same_tree (pair a b) (pair c d) = same_tree a c && same_tree b d

-- a tree that is completed is put last, unless it was completed before
abbrev pub numbered : List Tree → Tree → List Tree
numbered seen t = if list_any (same_tree t) seen then seen else seen ++ t ∷ []

abbrev pub all_numbered : List Tree → List Tree → List Tree
all_numbered seen [] = seen
all_numbered seen (t ∷ ts) = all_numbered (numbered seen t) ts

-- the distinct subtrees of these roots, visited one root after the other: each once, where it is first completed
abbrev pub distinct_subtrees : List Tree → List Tree
distinct_subtrees roots = all_numbered [] (flat_map completions roots)

-- the place at which a tree first stands in a list
abbrev pub place_in : List Tree → Tree → ℕ
place_in [] t = 0
place_in (u ∷ us) t = if same_tree t u then 0 else suc (place_in us t)

abbrev pub places_in : List Tree → List Tree → List ℕ
places_in ts us = map (place_in ts) us

-- the node of a tree over the places of its children in a list
unfoldable pub node_of : List Tree → Tree → Node
node_of ts t =
    if kind t == 0 then node.Label (label_at t) else (
    if kind t == 1 then node.Diagram (places_in ts (regs t)) (places_in ts (sings t)) (places_in ts (fwds t)) (places_in ts (bwds t)) else (
    if kind t == 2 then node.Labels (from_at t) (to_at t)
    else node.Arrow (heights t) (places_in ts (regs t)) (places_in ts (sings t))))

-- The printed form of some roots: their distinct subtrees as nodes, each over the places of its children, and the place
-- of each root.
abbrev pub subtree_nodes : List Tree → List Node
subtree_nodes roots = map (node_of (distinct_subtrees roots)) (distinct_subtrees roots)

abbrev pub root_places : List Tree → List ℕ
root_places roots = places_in (distinct_subtrees roots) roots

-- the tree is one of the first n of the list
pub record IsAmongFirst (n : ℕ) (ts : List Tree) (t : Tree) : Type 0 where
  pub place : ℕ
  pub before : place < n
  pub is : get_or ts place nil ≡ t

-- each tree of the list comes after its children
pub record ComesAfterChildren (ts : List Tree) : Type 0 where
  pub after : (i : ℕ) → i < length ts → (k : ℕ) → k < length (children (get_or ts i nil))
      → IsAmongFirst i ts (get_or (children (get_or ts i nil)) k nil)
