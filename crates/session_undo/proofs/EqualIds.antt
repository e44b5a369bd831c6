-- Equal ids are those of equal trees.
use Rattle.std.proofs.Common.{◌≡◌, ℕ, Bool, true, false, eqb, refl, sym, ap}
use Rattle.std.proofs.lemmas.Bool.Decides.{Decides-eqb}
use Rattle.std.specs.Bool.{Decides}
use Rattle.diagram_terms.specs.Completion.{same_tree}
use Rattle.diagram_terms.proofs.Completions.{same_tree_decides}
use Rattle.hashcons.specs.Contents.{Contents, IsDiagramOf, IsStore, diagram_at}

decided : (x y : Bool) (P Q : Type 0) → Decides x P → Decides y Q → (P → Q) → (Q → P) → x ≡ y
decided true y P Q d e f g = sym (e.1 (f (d.0 refl)))
decided false true P Q d e f g = d.1 (g (e.0 refl))
decided false false P Q d e f g = refl

pub same_ids : (c : Contents) → IsStore c → (a b : ℕ) → IsDiagramOf c a → IsDiagramOf c b → eqb a b ≡ same_tree (diagram_at c a) (diagram_at c b)
same_ids c store a b l m =
    decided (eqb a b) (same_tree (diagram_at c a) (diagram_at c b)) (a ≡ b) (diagram_at c a ≡ diagram_at c b) (Decides-eqb a b) (same_tree_decides (diagram_at c a) (diagram_at c b))
    (ap (diagram_at c)) (store.diagrams_once a b l m)
