-- The length of a diagram, told by its tree.
use Rattle.std.proofs.Common.{◌≡◌, ℕ, zero, suc, [], length, sym, ap, ◌∙◌}
use Rattle.diagram_terms.specs.ConeTrees.{identity_diagram_tree}
use Rattle.diagram_terms.specs.Decoded.{dia}
use Rattle.diagram_terms.specs.Dimension.{dimension_of, dimension_of-zig}
use Rattle.diagram_terms.specs.Family.{length_of}
use Rattle.diagram_terms.specs.Shape.{IsDiagram}
use Rattle.diagram_terms.specs.Tree.{Tree, label_at, sings}
use Rattle.diagram_terms.proofs.Glue.{dia-sings_len}
use Rattle.boundary_paths.proofs.ConesBySlices.{identity_diagram_tree-is}
use Rattle.hashcons.proofs.PartsOfNodes.{length-sings_point}

pub tree_length : (d : ℕ) (t : Tree) → IsDiagram d t → length (sings t) ≡ length_of d (dia d t)
tree_length zero t h = ap (λ (u : Tree). length (sings u)) h ∙ length-sings_point (label_at t)
tree_length (suc d) t h = sym (dia-sings_len d t)

-- the identity diagram is one dimension higher
pub identity_dimension : (d : ℕ) (t : Tree) → IsDiagram d t → dimension_of (identity_diagram_tree t) ≡ suc (dimension_of t)
identity_dimension d t h = ap dimension_of (identity_diagram_tree-is d t h) ∙ dimension_of-zig t [] [] [] []
