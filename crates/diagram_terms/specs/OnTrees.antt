-- A notion of the family, on trees: it is the family's at the dimension of the tree.
use Rattle.std.specs.Prelude.{ℕ}
use Rattle.diagram_terms.specs.Tree.{Tree}
use Rattle.diagram_terms.specs.Dimension.{dimension_of}
use Rattle.diagram_terms.specs.Decoded.{dia, arr}
use Rattle.diagram_terms.specs.Family.{Dia, Arr}

-- a notion of diagrams
unfoldable pub on_diagram {ℓ} : {X : Type ℓ} → ((d : ℕ) → Dia d → X) → Tree → X
on_diagram f t = f (dimension_of t) (dia (dimension_of t) t)

-- a notion of arrows
unfoldable pub on_arrow {ℓ} : {X : Type ℓ} → ((d : ℕ) → Arr d → X) → Tree → X
on_arrow f t = f (dimension_of t) (arr (dimension_of t) t)
