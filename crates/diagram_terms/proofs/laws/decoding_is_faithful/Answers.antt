use Rattle.diagram_terms.proofs.Glue.{dia-dia_tree, arr-arr_tree, dia_tree-dia, arr_tree-arr}
use Rattle.diagram_terms.proofs.laws.decoding_is_faithful.Goals as goal

pub returns : goal.returns
returns c = record {
  diagrams = dia-dia_tree;
  arrows = arr-arr_tree;
  diagram_trees = dia_tree-dia;
  arrow_trees = arr_tree-arr;
}
