-- Settling, on the trees that a store holds, under a test of trees.
use Rattle.std.specs.Prelude.{ℕ, zero, suc, Bool, List, [], map}
use Rattle.diagram_terms.specs.Decoded.{dia_tree}
use Rattle.diagram_terms.specs.Family.{Dia}
use Rattle.diagram_terms.specs.OnTrees.{on_diagram}
use Rattle.diagram_terms.specs.Tree.{Tree}
use Rattle.diagram_terms.specs.Settling.{Step, settled, all_steps, settle}

-- the steps of a diagram of dimension n; in dimension 0 there are none
abbrev pub steps_at : (Tree → Bool) → (n : ℕ) → Dia n → List (Step n)
steps_at accept zero C = []
steps_at accept (suc d) C = settle d (λ D. accept (dia_tree (suc (suc d)) D)) C

-- the heights of the steps of a tree
unfoldable pub settling_heights : (Tree → Bool) → Tree → List ℕ
settling_heights accept t = on_diagram (λ n C. map (λ s. s.height) (steps_at accept n C)) t

-- what is left after them
unfoldable pub settled_tree : (Tree → Bool) → Tree → Tree
settled_tree accept t = on_diagram (λ n C. dia_tree n (settled n C (steps_at accept n C))) t

-- the diagram that holds them
unfoldable pub settling_tree : (Tree → Bool) → Tree → Tree
settling_tree accept t = on_diagram (λ n C. dia_tree (suc n) (all_steps n C (steps_at accept n C))) t
