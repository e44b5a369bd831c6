-- Least degeneracies, on the trees that a store holds.
use Rattle.std.specs.Prelude.{◌≡◌, ℕ, ◌<◌, List, length, get_or, map}
use Rattle.diagram_terms.specs.declared.place.Keep.TheVariants as keep
use Rattle.diagram_terms.specs.Decoded.{dia, arr}
use Rattle.diagram_terms.specs.Least.{Leg, IsLeast, FactorsBy}
use Rattle.diagram_terms.specs.Shape.{IsArrow}
use Rattle.diagram_terms.specs.Tree.{Tree, nil}
use Rattle.diagram_terms.specs.ValidTrees.{IsValidTreeAt, IsArrowBetweenAt}

-- a leg by the trees of its source and of its arrow
pub record TreeLeg : Type 0 where
  pub source : Tree
  pub arrow : Tree

abbrev pub tree_leg_at : List TreeLeg → ℕ → TreeLeg
tree_leg_at legs i = get_or legs i (record { source = nil; arrow = nil })

-- the leg of dimension d that it stands for
abbrev pub leg_in : (d : ℕ) → TreeLeg → Leg d
leg_in d g = record { source = dia d g.source; arrow = arr d g.arrow }

-- the leg is valid, into t, out of a valid diagram
pub record IsLegAt (d : ℕ) (t : Tree) (g : TreeLeg) : Type 0 where
  pub source : IsValidTreeAt d g.source
  pub arrow : IsArrowBetweenAt d g.source t g.arrow

-- f factors through a : s → t by g, of dimension d
pub record FactorsAt (d : ℕ) (s a : Tree) (f : TreeLeg) (g : Tree) : Type 0 where
  pub shape : IsArrow d g
  pub factor : FactorsBy d (dia d f.source) (dia d s) (arr d f.arrow) (arr d a) (arr d g)

-- a : s → t is the least degeneracy for the valid legs gs into the valid diagram t, and they factor through it by fs, in
-- their order; of dimension d
pub record IsNormalAt (d : ℕ) (t : Tree) (gs : List TreeLeg) (s a : Tree) (fs : List Tree) : Type 0 where
  pub target : IsValidTreeAt d t
  pub legs : (i : ℕ) → i < length gs → IsLegAt d t (tree_leg_at gs i)
  pub source : IsValidTreeAt d s
  pub arrow : IsArrow d a
  pub least : IsLeast keep.Free d (dia d t) (map (leg_in d) gs) (dia d s) (arr d a)
  pub count : length fs ≡ length gs
  pub factors : (i : ℕ) → i < length gs → FactorsAt d s a (tree_leg_at gs i) (get_or fs i nil)

pub record IsNormalTree (t : Tree) (gs : List TreeLeg) (s a : Tree) (fs : List Tree) : Type 0 where
  pub dim : ℕ
  pub at_dim : IsNormalAt dim t gs s a fs
