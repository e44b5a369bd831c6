-- The slices of a diagram, by the heights that lead to them.
use Rattle.std.specs.Prelude.{◌≡◌, ℕ, suc, ◌<◌, List, [], ◌∷◌, length, Bool, ◌||◌, ◌&&◌, ◌==◌, if◌then◌else◌, Option, Some, None, Result, Ok, Err, slice_get}
use Rattle.diagram_terms.specs.declared.place.Height.{Height}
use Rattle.diagram_terms.specs.declared.place.Height.TheVariants as height
use Rattle.diagram_terms.specs.Completion.{same_tree}
use Rattle.diagram_terms.specs.Tree.{Tree, kind, regs, sings}
use Rattle.diagram_terms.specs.Shape.{reg_at}
use Rattle.diagram_terms.specs.Dimension.{dimension_of}

-- the slice at a height; a diagram of dimension 0 has none
unfoldable pub slice_at : Tree → Height → Option Tree
slice_at t (height.R j) = if kind t == 1 then slice_get (regs t) j else None
slice_at t (height.S i) = if kind t == 1 then slice_get (sings t) i else None

-- what is behind the slice that step n names, if it names one
abbrev pub behind : ℕ → Option Tree → (Tree → Result Tree ℕ) → Result Tree ℕ
behind n None go = Err n
behind n (Some s) go = go s

-- The slice to which a path leads, or the first step that names no height of its slice. The path begins with step n.
abbrev pub slice_from : ℕ → Tree → List Height → Result Tree ℕ
slice_from n t [] = Ok t
slice_from n t (h ∷ hs) = behind n (slice_at t h) (λ s. slice_from (suc n) s hs)

abbrev pub slice_along : Tree → List Height → Result Tree ℕ
slice_along t path = slice_from 0 t path

-- the source and the target of a diagram of dimension 1 or more: its first and its last regular slice
abbrev pub source_tree : Tree → Tree
source_tree t = reg_at t 0

abbrev pub target_tree : Tree → Tree
target_tree t = reg_at t (length (sings t))

-- parallel diagrams: of one dimension and, above dimension 0, with one source and one target
pub record AreParallel (s t : Tree) : Type 0 where
  pub dims : dimension_of s ≡ dimension_of t
  pub sources : 0 < dimension_of s → source_tree s ≡ source_tree t
  pub targets : 0 < dimension_of s → target_tree s ≡ target_tree t

-- above dimension 0 the two trees have one source and one target
abbrev pub have_one_boundary : Tree → Tree → Bool
have_one_boundary s t = (dimension_of s == 0) || (same_tree (source_tree s) (source_tree t) && same_tree (target_tree s) (target_tree t))
