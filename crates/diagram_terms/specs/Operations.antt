-- Operations of the family, on the trees that a store holds.
use Rattle.diagram_terms.specs.Tree.{Tree}
use Rattle.diagram_terms.specs.Decoded.{arr, arr_tree}
use Rattle.diagram_terms.specs.Composite.{ident, comp}
use Rattle.diagram_terms.specs.OnTrees.{on_diagram, on_arrow}

-- the identity arrow of a diagram
abbrev pub identity_tree : Tree → Tree
identity_tree t = on_diagram (λ d x. arr_tree d (ident d x)) t

-- the composite of g after f
abbrev pub composite_tree : Tree → Tree → Tree
composite_tree g f = on_arrow (λ d x. arr_tree d (comp d (arr d g) x)) f
