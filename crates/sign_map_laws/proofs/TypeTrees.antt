-- The trees of types, and what it is that a type stands at a label.
use Rattle.std.proofs.Common.{◌≡◌, ℕ, suc, ◌-◌, ◌≤◌, List, Bool, true, ◌&&◌, Some, slice_get, ap, ◌∙◌}
use Rattle.std.proofs.lemmas.Bool.{leb-true, le-leb}
use Rattle.diagram_terms.specs.declared.label.Label.{Label}
use Rattle.diagram_terms.specs.Cone.{type_over}
use Rattle.diagram_terms.specs.Decoded.{dia, dia_tree}
use Rattle.diagram_terms.specs.Dimension.{dimension_of}
use Rattle.diagram_terms.specs.Family.{Dia}
use Rattle.diagram_terms.specs.Shape.{IsDiagram}
use Rattle.diagram_terms.specs.Tree.{Tree}
use Rattle.diagram_terms.specs.Generators.{Generator}
use Rattle.diagram_terms.specs.Valid.{Valid}
use Rattle.diagram_terms.proofs.Dimensions.{diagram_dimension}
use Rattle.diagram_terms.proofs.FamilyShapes.{diagram_shape, valid_fits}
use Rattle.diagram_terms.specs.NormalForms.{normal_diagram}
use Rattle.diagram_terms.specs.SameDiagrams.{same_diagram}
use Rattle.normal_form_laws.proofs.SameDiagrams.{same_diagrams_are_decided}
use Rattle.diagram_terms.specs.Typing.{under_identities, normal_type, is_type}
use Rattle.typing_laws.proofs.GoodGenerators.{and_left, and_right}

-- the tree of a valid diagram has its shape and its dimension
pub valid_shape : (d : ℕ) (X : Dia d) → Valid d X → IsDiagram d (dia_tree d X)
valid_shape d X v = diagram_shape d X (valid_fits d X v)

pub valid_dimension : (d : ℕ) (X : Dia d) → Valid d X → dimension_of (dia_tree d X) ≡ d
valid_dimension d X v = diagram_dimension d (dia_tree d X) (valid_shape d X v)

-- the normal form of a type, where the source has dimension d
pub normal_type_at : (d : ℕ) (s t : Tree) (x : Label) → dimension_of s ≡ d
    → normal_type x (Some (Some (s, t))) ≡ dia_tree (suc d) (normal_diagram (suc d) (type_over d (dia d s) (dia d t) x))
unfolding normal_type
normal_type_at d s t x e = ap (λ (n : ℕ). dia_tree (suc n) (normal_diagram (suc n) (type_over n (dia n s) (dia n t) x))) e

-- what the test of a type says
pub record HasNormalType (generators : List Generator) (n : ℕ) (x : Label) (M : Dia n) : Type 0 where
  pub within : x.dim ≤ n
  pub same : M ≡ under_identities n (n - x.dim) (normal_type x (slice_get generators x.number))

pub type_says : (generators : List Generator) (n : ℕ) (x : Label) (M : Dia n) → is_type generators n x M ≡ true → HasNormalType generators n x M
type_says generators n x M e = record {
  within = leb-true x.dim n (and_left _ _ e);
  same = (same_diagrams_are_decided n M (under_identities n (n - x.dim) (normal_type x (slice_get generators x.number)))).0 (and_right _ _ e);
}

pub says_type : (generators : List Generator) (n : ℕ) (x : Label) (M : Dia n) → HasNormalType generators n x M → is_type generators n x M ≡ true
says_type generators n x M h =
    let U : Dia n = under_identities n (n - x.dim) (normal_type x (slice_get generators x.number)) in
    ap (λ (b : Bool). b && same_diagram n M U) (le-leb x.dim n h.within) ∙ (same_diagrams_are_decided n M U).1 h.same
