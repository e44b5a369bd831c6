-- The dimension of a tree.
use Rattle.std.specs.Prelude.{◌≡◌, ℕ, suc, List, ◌∷◌, Bool, ◌||◌, ◌==◌, if◌then◌else◌, refl}
use Rattle.diagram_terms.specs.declared.label.Label.{Label}
use Rattle.diagram_terms.specs.Tree.{Tree, nil, num, pair, number_in, point, zig, ends, zag}
use Rattle.diagram_terms.specs.Shape.{IsDiagram, IsArrow}

-- whether a node of this kind has slices
abbrev has_slices : Tree → Bool
has_slices k = (number_in k == 1) || (number_in k == 3)

-- how often a first regular slice can be taken
unfoldable pub dimension_of : Tree → ℕ
dimension_of nil = 0
dimension_of (num n) = 0
dimension_of (pair k nil) = 0
dimension_of (pair k (num n)) = 0
dimension_of (pair k (pair nil rest)) = 0
dimension_of (pair k (pair (num n) rest)) = 0
dimension_of (pair k (pair (pair r rs) rest)) = if has_slices k then suc (dimension_of r) else 0

pub dimension_of-point : (x : Label) → dimension_of (point x) ≡ 0
unfolding dimension_of point
dimension_of-point x = refl

pub dimension_of-ends : (x y : Label) → dimension_of (ends x y) ≡ 0
unfolding dimension_of ends
dimension_of-ends x y = refl

pub dimension_of-zig : (r : Tree) (rs ss fs bs : List Tree) → dimension_of (zig (r ∷ rs) ss fs bs) ≡ suc (dimension_of r)
unfolding dimension_of zig
dimension_of-zig r rs ss fs bs = refl

pub dimension_of-zag : (hs : List ℕ) (r : Tree) (rs ss : List Tree) → dimension_of (zag hs (r ∷ rs) ss) ≡ suc (dimension_of r)
unfolding dimension_of zag
dimension_of-zag hs r rs ss = refl

-- the tree of a diagram, or of an arrow, of some dimension: that one
abbrev pub IsDiagramTree : Tree → Type 0
IsDiagramTree t = IsDiagram (dimension_of t) t

abbrev pub IsArrowTree : Tree → Type 0
IsArrowTree t = IsArrow (dimension_of t) t
