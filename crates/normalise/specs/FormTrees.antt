-- The normal form of a tree relative to legs into it, and one level of it.
use Rattle.std.specs.Prelude.{ℕ, suc, List, [], ◌∷◌, ◌++◌, length, map, Bool, not, ◌&&◌, ◌||◌, nat_lt}
use Rattle.std.specs.List.{filter}
use Rattle.diagram_terms.specs.declared.place.Keep.TheVariants as keep
use Rattle.diagram_terms.specs.Decoded.{dia, dia_tree, arr_tree}
use Rattle.diagram_terms.specs.Dimension.{dimension_of}
use Rattle.diagram_terms.specs.Dual.{tab, upto}
use Rattle.diagram_terms.specs.Least.{Leg}
use Rattle.diagram_terms.specs.Loose.{is_identity}
use Rattle.diagram_terms.specs.NormalForms.{normal_form}
use Rattle.diagram_terms.specs.OnTrees.{on_arrow}
use Rattle.diagram_terms.specs.Operations.{composite_tree}
use Rattle.diagram_terms.specs.Shape.{reg_at, sing_at, fwd_at, bwd_at}
use Rattle.diagram_terms.specs.Tree.{Tree, zig, zag, sings}
use Rattle.hashcons.specs.NormalTrees.{TreeLeg, leg_in}
use Rattle.degeneracy.specs.FactorTrees.{factor_tree}
use Rattle.normalise.specs.LegSlices.{regular_slice_trees, slice_trees_over}

abbrev pub leg_tree : (d : ℕ) → Leg d → TreeLeg
leg_tree d g = record { source = dia_tree d g.source; arrow = arr_tree d g.arrow }

-- as a leg into t
unfoldable pub normal_tree : Tree → List TreeLeg → TreeLeg
normal_tree t legs = leg_tree (dimension_of t) (normal_form keep.Free (dimension_of t) (dia (dimension_of t) t) (map (leg_in (dimension_of t)) legs))

-- ---- one level of it

-- the normal form of the regular slice at j
abbrev pub reg_normal : Tree → List TreeLeg → ℕ → TreeLeg
reg_normal t legs j = normal_tree (reg_at t j) (regular_slice_trees legs j)

-- the composite of a leg between slices after a normal form, as a leg
abbrev pub way_tree : Tree → TreeLeg → TreeLeg
way_tree f g = record { source = g.source; arrow = composite_tree f g.arrow }

-- the two composites into the singular slice at k
abbrev pub fwd_way_tree : Tree → List TreeLeg → ℕ → TreeLeg
fwd_way_tree t legs k = way_tree (fwd_at t k) (reg_normal t legs k)

abbrev pub bwd_way_tree : Tree → List TreeLeg → ℕ → TreeLeg
bwd_way_tree t legs k = way_tree (bwd_at t k) (reg_normal t legs (suc k))

-- what leads into it, in the order of the legs, and its normal form
abbrev pub way_trees : Tree → List TreeLeg → ℕ → List TreeLeg
way_trees t legs k = slice_trees_over legs k ++ fwd_way_tree t legs k ∷ bwd_way_tree t legs k ∷ []

abbrev pub sing_normal : Tree → List TreeLeg → ℕ → TreeLeg
sing_normal t legs k = normal_tree (sing_at t k) (way_trees t legs k)

-- the legs between them
abbrev pub fwd_tree : Tree → List TreeLeg → ℕ → Tree
fwd_tree t legs k = factor_tree (sing_normal t legs k).arrow (fwd_way_tree t legs k).arrow

abbrev pub bwd_tree : Tree → List TreeLeg → ℕ → Tree
bwd_tree t legs k = factor_tree (sing_normal t legs k).arrow (bwd_way_tree t legs k).arrow

-- the heights that are kept
abbrev pub identity_test : Tree → Bool
identity_test f = on_arrow is_identity f

abbrev pub is_kept_tree : Tree → List TreeLeg → ℕ → Bool
is_kept_tree t legs k =
    not (identity_test (fwd_tree t legs k) && identity_test (bwd_tree t legs k)) || nat_lt 0 (length (slice_trees_over legs k))

abbrev pub kept_below : Tree → List TreeLeg → ℕ → List ℕ
kept_below t legs n = filter (is_kept_tree t legs) (upto n)

-- what is left, put together
abbrev pub assembled_source : Tree → List TreeLeg → List ℕ → Tree
assembled_source t legs kept =
    zig (map (λ k. (reg_normal t legs k).source) (kept ++ length (sings t) ∷ [])) (map (λ k. (sing_normal t legs k).source) kept)
    (map (fwd_tree t legs) kept) (map (bwd_tree t legs) kept)

abbrev pub assembled_arrow : Tree → List TreeLeg → List ℕ → Tree
assembled_arrow t legs kept = zag kept (tab (λ j. (reg_normal t legs j).arrow) (suc (length (sings t)))) (map (λ k. (sing_normal t legs k).arrow) kept)

abbrev pub assembled_tree : Tree → List TreeLeg → TreeLeg
assembled_tree t legs =
    let kept = kept_below t legs (length (sings t)) in
    record { source = assembled_source t legs kept; arrow = assembled_arrow t legs kept }
