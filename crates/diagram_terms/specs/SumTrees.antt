-- Sums of diagrams, on the trees that a store holds.
use Rattle.std.specs.Prelude.{ℕ, zero, suc}
use Rattle.diagram_terms.specs.Decoded.{dia, dia_tree}
use Rattle.diagram_terms.specs.Family.{Dia}
use Rattle.diagram_terms.specs.OnTrees.{on_diagram}
use Rattle.diagram_terms.specs.Tree.{Tree}
use Rattle.diagram_terms.specs.Segments.{diagram_sum}

-- the sum of X and Y; in dimension 0 there is none, and it means nothing
abbrev pub sum_at : (d : ℕ) → Dia d → Dia d → Dia d
sum_at zero X Y = X
sum_at (suc d) X Y = diagram_sum d X Y

-- the sum of s and t, which have one dimension: t is pasted behind s
unfoldable pub sum_tree : Tree → Tree → Tree
sum_tree s t = on_diagram (λ n X. dia_tree n (sum_at n X (dia n t))) s
