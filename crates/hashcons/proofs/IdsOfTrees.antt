-- Ids of one store and their trees.
use Rattle.std.proofs.Common.{◌≡◌, ◌↔◌, ℕ, Bool, true, true≢false, ap, sym, subst, ◌∙◌}
use Rattle.std.proofs.lemmas.Bool.Decides.{Decides-eqb}
use Rattle.diagram_terms.specs.Dimension.{dimension_of}
use Rattle.diagram_terms.proofs.Shapes.{one_kind}
use Rattle.diagram_terms.specs.Tree.{Tree}
use Rattle.diagram_terms.specs.Shape.{IsDiagram}
use Rattle.hashcons.specs.declared.id.AnyId.{AnyId}
use Rattle.hashcons.specs.declared.id.AnyId.TheVariants as id
use Rattle.hashcons.specs.Contents.{Contents, IsStore, IsDiagramOf, IsArrowOf, diagram_at, arrow_at}
use Rattle.hashcons.specs.EqualIds.{id_eq}
use Rattle.hashcons.specs.Ids.{IsOf, tree_of}

-- no diagram of a store has the tree of an arrow
apart : (c : Contents) (d a : ℕ) → IsStore c → IsDiagramOf c d → IsArrowOf c a → diagram_at c d ≡ arrow_at c a → ⊥
apart c d a store p q e =
    one_kind (dimension_of (diagram_at c d)) (dimension_of (arrow_at c a)) (arrow_at c a)
    (subst (λ (t : Tree). IsDiagram (dimension_of (diagram_at c d)) t) e (store.diagrams d p)) (store.arrows a q)

-- ids of one store are equal exactly if their trees are
pub same_iff : (c : Contents) → IsStore c → (a b : AnyId) → IsOf c a → IsOf c b → (a ≡ b) ↔ (tree_of c a ≡ tree_of c b)
same_iff c store (id.Diagram x) (id.Diagram y) p q = (ap (tree_of c), λ e. ap id.Diagram (store.diagrams_once x y p q e))
same_iff c store (id.Diagram x) (id.Arrow y) p q = (ap (tree_of c), λ e. absurd (apart c x y store p q e))
same_iff c store (id.Arrow x) (id.Diagram y) p q = (ap (tree_of c), λ e. absurd (apart c y x store q p (sym e)))
same_iff c store (id.Arrow x) (id.Arrow y) p q = (ap (tree_of c), λ e. ap id.Arrow (store.arrows_once x y p q e))

pub id_decides : (a b : AnyId) → (id_eq a b ≡ true) ↔ (a ≡ b)
id_decides (id.Diagram x) (id.Diagram y) = (λ h. ap id.Diagram ((Decides-eqb x y).0 h), λ e. (Decides-eqb x y).1 (cc))
id_decides (id.Diagram x) (id.Arrow y) = (λ h. absurd (true≢false (sym h)), λ e. cc)
id_decides (id.Arrow x) (id.Diagram y) = (λ h. absurd (true≢false (sym h)), λ e. cc)
id_decides (id.Arrow x) (id.Arrow y) = (λ h. ap id.Arrow ((Decides-eqb x y).0 h), λ e. (Decides-eqb x y).1 (cc))

-- what `==` of ids says of their trees
pub same_trees : (c : Contents) → IsStore c → (a b : AnyId) → IsOf c a → IsOf c b → (r : Bool) → r ≡ id_eq a b
    → (r ≡ true) ↔ (tree_of c a ≡ tree_of c b)
same_trees c store a b p q r e =
    let i = same_iff c store a b p q in
    let d = id_decides a b in
    (λ h. i.0 (d.0 (sym e ∙ h)), λ h. e ∙ d.1 (i.1 h))
