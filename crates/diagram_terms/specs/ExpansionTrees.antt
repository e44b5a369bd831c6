-- Expansion, on the trees that a store holds.
use Rattle.std.specs.Prelude.{ℕ, suc, Result, Ok, Err}
use Rattle.diagram_terms.specs.Decoded.{dia_tree, arr_tree}
use Rattle.diagram_terms.specs.Family.{Dia}
use Rattle.diagram_terms.specs.OnTrees.{on_diagram}
use Rattle.diagram_terms.specs.Tree.{Tree}
use Rattle.diagram_terms.specs.Expansion.{Expansion, stored_expansion, ExpansionFault, expand}

-- the trees of an expanded diagram, of the arrow from it, and of the diagram that is stored
pub record ExpansionTrees : Type 0 where
  pub result : Tree
  pub arrow : Tree
  pub stored : Tree

abbrev pub trees_of_expansion : (n : ℕ) → Dia n → Result (Expansion n) ExpansionFault → Result ExpansionTrees ExpansionFault
trees_of_expansion n D (Err e) = Err e
trees_of_expansion n D (Ok c) = Ok (record { result = dia_tree n c.result; arrow = arr_tree n c.arrow; stored = dia_tree (suc n) (stored_expansion n D c) })

-- the expansion of a tree at a height and an inner height, or why there is none
unfoldable pub expansion_trees : Tree → ℕ → ℕ → Result ExpansionTrees ExpansionFault
expansion_trees t k i = on_diagram (λ n D. trees_of_expansion n D (expand n D k i)) t
