-- Contraction, on the trees that a store holds.
use Rattle.std.specs.Prelude.{ℕ, suc, List, Result, Ok, Err}
use Rattle.diagram_terms.specs.declared.place.Bias.{Bias}
use Rattle.diagram_terms.specs.Decoded.{dia_tree, arr_tree}
use Rattle.diagram_terms.specs.Family.{Dia}
use Rattle.diagram_terms.specs.OnTrees.{on_diagram}
use Rattle.diagram_terms.specs.Tree.{Tree}
use Rattle.diagram_terms.specs.Contraction.{Contraction, stored_contraction, ContractionFault, contract}

-- the trees of a contracted diagram, of the arrow to it, and of the diagram that is stored
pub record ContractionTrees : Type 0 where
  pub result : Tree
  pub arrow : Tree
  pub stored : Tree

abbrev pub trees_of_contraction : (n : ℕ) → Dia n → Result (Contraction n) ContractionFault → Result ContractionTrees ContractionFault
trees_of_contraction n C (Err e) = Err e
trees_of_contraction n C (Ok c) = Ok (record { result = dia_tree n c.result; arrow = arr_tree n c.arrow; stored = dia_tree (suc n) (stored_contraction n C c) })

-- the contraction of a tree, or why nothing is contracted
unfoldable pub contraction_trees : Tree → List ℕ → ℕ → List Bias → Result ContractionTrees ContractionFault
contraction_trees t path k biases = on_diagram (λ n C. trees_of_contraction n C (contract n C path k biases)) t
