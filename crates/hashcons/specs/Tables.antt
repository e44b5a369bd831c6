-- The trees that tables of nodes stand for, where each node names earlier ones.
use Rattle.std.specs.Prelude.{ℕ, ◌+◌, List, [], ◌∷◌, ◌++◌, length}
use Rattle.diagram_terms.specs.Tree.{Tree}
use Rattle.hashcons.specs.declared.view.DiagramView.{DiagramView}
use Rattle.hashcons.specs.declared.view.ArrowView.{ArrowView}
use Rattle.hashcons.specs.Contents.{Contents, Notes, IsStore}
use Rattle.hashcons.specs.Nodes.{tree_of_arrow, tree_of_diagram, IsArrowOver, IsDiagramOver}

module _ {N : Type 0} where
  -- these trees, and then those of the nodes, each made by f of the trees before it
  abbrev pub trees_from : (List Tree → N → Tree) → List Tree → List N → List Tree
  trees_from f ts [] = ts
  trees_from f ts (n ∷ ns) = trees_from f (ts ++ f ts n ∷ []) ns

  -- each node names only nodes before it, where k nodes stand before the list
  abbrev pub AreGrounded : (ℕ → N → Type 0) → ℕ → List N → Type 0
  AreGrounded B k [] = Unit {0}
  AreGrounded B k (n ∷ ns) = B k n × AreGrounded B (k + 1) ns

-- the trees of two tables
abbrev pub arrow_trees : List ArrowView → List Tree
arrow_trees nodes = trees_from tree_of_arrow [] nodes

abbrev pub diagram_trees : List ArrowView → List DiagramView → List Tree
diagram_trees arrows nodes = trees_from (tree_of_diagram (arrow_trees arrows)) [] nodes

-- what callers see of two tables and of the notes
abbrev pub contents_of : List ArrowView → List DiagramView → Notes → Contents
contents_of arrows diagrams notes = record { diagrams = diagram_trees arrows diagrams; arrows = arrow_trees arrows; notes = notes }

-- children stand before parents, and what is true of every store
pub record AreTables (arrows : List ArrowView) (diagrams : List DiagramView) (notes : Notes) : Type 0 where
  pub arrows_grounded : AreGrounded IsArrowOver 0 arrows
  pub diagrams_grounded : AreGrounded (IsDiagramOver (length (arrow_trees arrows))) 0 diagrams
  pub store : IsStore (contents_of arrows diagrams notes)
