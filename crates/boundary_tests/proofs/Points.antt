-- A label is a diagram of dimension 0 that is valid and plain.
use Rattle.std.proofs.Common.{◌≡◌, ℕ, zero, ◌<◌, refl, sym, subst}
use Rattle.diagram_terms.specs.declared.label.Label.{Label}
use Rattle.diagram_terms.specs.OnTrees.{on_diagram}
use Rattle.diagram_terms.specs.Tree.{point, label_at-point}
use Rattle.diagram_terms.specs.Cone.{HasLabelsBelow}
use Rattle.diagram_terms.specs.Decoded.{dia}
use Rattle.diagram_terms.specs.Dimension.{dimension_of-point}
use Rattle.diagram_terms.specs.Plain.{Plain}
use Rattle.diagram_terms.specs.Slices.{AreParallel}
use Rattle.diagram_terms.proofs.NotionsOnTrees.{on_diagram_at}
use Rattle.diagram_terms.proofs.Shapes.{IsDiagram-point}
use Rattle.hashcons.specs.Contents.{Contents, IsDiagramOf, diagram_at}
use Rattle.zigzag_maps.specs.Found.{IsValidDiagram}
use Rattle.plain_maps.specs.Plainness.{IsPlainDiagramTree}
use Rattle.plain_maps.specs.ValidPlain.{IsValidPlain}
use Rattle.diagram_terms.specs.ValidTrees.{IsValidTree}
use Rattle.diagram_terms.specs.ConeTrees.{HasLabelsBelowTree}

valid-point : (x : Label) → IsValidTree (point x)
valid-point x = record { dim = zero; at_dim = record { shape = IsDiagram-point x; valid = tt } }

plain-point : (x : Label) → IsPlainDiagramTree (point x)
plain-point x = subst (λ (P : Type 0). P) (sym (on_diagram_at Plain zero (point x) (IsDiagram-point x))) tt

labels-point : (n : ℕ) (x : Label) → x.dim < n → HasLabelsBelowTree n (point x)
unfolding HasLabelsBelowTree on_diagram
labels-point n x l =
    subst (λ d. HasLabelsBelow n d (dia d (point x))) (sym (dimension_of-point x)) (subst (λ (y : Label). y.dim < n) (sym (label_at-point x)) l)

-- in a store
module _ (c : Contents) (d : ℕ) (x : Label) (is : diagram_at c d ≡ point x) where
  pub valid_label : IsDiagramOf c d → IsValidDiagram c d
  valid_label l = record { of_store = l; valid = subst IsValidTree (sym is) (valid-point x) }

  pub plain_label : IsPlainDiagramTree (diagram_at c d)
  plain_label = subst IsPlainDiagramTree (sym is) (plain-point x)

  pub valid_plain_label : IsDiagramOf c d → IsValidPlain c d
  valid_plain_label l = record { valid = valid_label l; plain = plain_label }

  pub label_below : (n : ℕ) → x.dim < n → HasLabelsBelowTree n (diagram_at c d)
  label_below n l = subst (HasLabelsBelowTree n) (sym is) (labels-point n x l)

  pub parallel_label : AreParallel (diagram_at c d) (diagram_at c d)
  parallel_label = record { dims = refl; sources = λ _. refl; targets = λ _. refl }
