-- Identity diagrams, cones and types, on the trees that a store holds.
use Rattle.std.specs.Prelude.{ℕ, suc}
use Rattle.diagram_terms.specs.declared.label.Label.{Label}
use Rattle.diagram_terms.specs.Tree.{Tree}
use Rattle.diagram_terms.specs.Decoded.{dia, arr_tree, dia_tree}
use Rattle.diagram_terms.specs.Composite.{identity_diagram}
use Rattle.diagram_terms.specs.Cone.{cone, mid, type_over, HasLabelsBelow}
use Rattle.diagram_terms.specs.OnTrees.{on_diagram}

-- the identity diagram of a diagram
unfoldable pub identity_diagram_tree : Tree → Tree
identity_diagram_tree t = on_diagram (λ d D. dia_tree (suc d) (identity_diagram d D)) t

-- the cone over a diagram with the label x
unfoldable pub cone_tree : Tree → Label → Tree
cone_tree t x = on_diagram (λ d D. arr_tree d (cone d D x)) t

-- where that cone ends
unfoldable pub mid_tree : Tree → Label → Tree
mid_tree t x = on_diagram (λ d D. dia_tree d (mid d D x)) t

-- the type of a generator with the label x, the source s and the target t
unfoldable pub type_tree : Tree → Tree → Label → Tree
type_tree s t x = on_diagram (λ d S. dia_tree (suc d) (type_over d S (dia d t) x)) s

-- every label of t has a dimension below n
unfoldable pub HasLabelsBelowTree : ℕ → Tree → Type 0
HasLabelsBelowTree n t = on_diagram (HasLabelsBelow n) t
