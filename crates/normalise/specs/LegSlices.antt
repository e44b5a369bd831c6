-- The slices of legs, by their trees.
use Rattle.std.specs.Prelude.{ℕ, List, length, get_or, map, nat_eq}
use Rattle.std.specs.List.{filter, flat_map}
use Rattle.diagram_terms.specs.Dual.{dual, upto}
use Rattle.diagram_terms.specs.Shape.{reg_at, sing_at}
use Rattle.diagram_terms.specs.Tree.{heights, sings}
use Rattle.hashcons.specs.NormalTrees.{TreeLeg}

-- the slices of a leg at a regular height j of its target, and at a height i of its source
abbrev pub reg_leg_tree : ℕ → TreeLeg → TreeLeg
reg_leg_tree j g = record { source = reg_at g.source (dual (heights g.arrow) j); arrow = reg_at g.arrow j }

abbrev pub sing_leg_tree : TreeLeg → ℕ → TreeLeg
sing_leg_tree g i = record { source = sing_at g.source i; arrow = sing_at g.arrow i }

-- the slices of some legs at a regular height j
abbrev pub regular_slice_trees : List TreeLeg → ℕ → List TreeLeg
regular_slice_trees legs j = map (reg_leg_tree j) legs

-- the heights of a leg that go to k, the slices there, and those of some legs
abbrev pub heights_to : TreeLeg → ℕ → List ℕ
heights_to g k = filter (λ i. nat_eq (get_or (heights g.arrow) i 0) k) (upto (length (sings g.source)))

-- the slices at those of its first n heights that go to k
abbrev pub first_slices_to : ℕ → TreeLeg → ℕ → List TreeLeg
first_slices_to k g n = map (sing_leg_tree g) (filter (λ i. nat_eq (get_or (heights g.arrow) i 0) k) (upto n))

abbrev pub slices_to : ℕ → TreeLeg → List TreeLeg
slices_to k g = map (sing_leg_tree g) (heights_to g k)

abbrev pub slice_trees_over : List TreeLeg → ℕ → List TreeLeg
slice_trees_over legs k = flat_map (slices_to k) legs
