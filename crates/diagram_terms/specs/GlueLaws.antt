-- The law of decoding.
use Rattle.std.specs.Prelude.{◌≡◌, ℕ}
use Rattle.diagram_terms.specs.Tree.{Tree}
use Rattle.diagram_terms.specs.Family.{Dia, Arr}
use Rattle.diagram_terms.specs.Decoded.{dia, arr, dia_tree, arr_tree}
use Rattle.diagram_terms.specs.Shape.{IsDiagram, IsArrow}

-- Each diagram and arrow of the family has a tree that decodes to it, and each tree of the right shape is the tree of
-- what it decodes to.
pub record DecodingIsFaithful : Type 0 where
  pub diagrams : (d : ℕ) (X : Dia d) → dia d (dia_tree d X) ≡ X
  pub arrows : (d : ℕ) (f : Arr d) → arr d (arr_tree d f) ≡ f
  pub diagram_trees : (d : ℕ) (t : Tree) → IsDiagram d t → dia_tree d (dia d t) ≡ t
  pub arrow_trees : (d : ℕ) (t : Tree) → IsArrow d t → arr_tree d (arr d t) ≡ t
