-- A neighbourhood that is the type of its label's generator needs no normal form.
use Rattle.std.proofs.Common.{◌≡◌, ℕ, suc, ◌-◌, Bool, true, ◌&&◌, None, Some, slice_get, sym, ap, ◌∙◌, subst, arith}
use Rattle.std.proofs.lemmas.Bool.Decides.{Decides-eqb}
use Rattle.std.proofs.lemmas.Bool.{le-leb, cond-true}
use Rattle.diagram_terms.specs.declared.label.Label.{Label}
use Rattle.diagram_terms.specs.Cone.{type_over}
use Rattle.diagram_terms.specs.Decoded.{dia, dia_tree}
use Rattle.diagram_terms.specs.Dimension.{dimension_of}
use Rattle.diagram_terms.specs.Family.{Dia}
use Rattle.diagram_terms.specs.GeneratorTypes.{label_of, type_of_generator}
use Rattle.diagram_terms.specs.ConeTrees.{type_tree}
use Rattle.diagram_terms.specs.OnTrees.{on_diagram}
use Rattle.diagram_terms.specs.Tree.{Tree, point, label_at-point}
use Rattle.diagram_terms.specs.Generators.{Generator, generator_dim, has_dim, is_generator}
use Rattle.diagram_terms.proofs.Glue.{dia-dia_tree}
use Rattle.diagram_terms.specs.Constants.{above}
use Rattle.diagram_terms.specs.NormalForms.{normal_form, normal_diagram}
use Rattle.diagram_terms.specs.SameDiagrams.{same_diagram}
use Rattle.normal_form_laws.proofs.SameDiagrams.{same_diagrams_are_decided}
use Rattle.diagram_terms.specs.Typing.{no_generator, other_type, verdict, under_identities, normal_type, is_type}
use Rattle.typing_laws.specs.Laws.{TypesPassAtOnce}
use Rattle.typing_laws.proofs.Transfer.{tower_normal, above-minus}

-- the normal form of a generator's type, from the type
type_normal : (x : Label) (g : Generator) → generator_dim g ≡ x.dim
    → normal_type x (Some g) ≡ dia_tree x.dim (normal_diagram x.dim (dia x.dim (type_of_generator x.number g)))
unfolding normal_type normal_form type_tree on_diagram
type_normal x None e =
    let same : label_of x.number None ≡ x = λ i. record { number = x.number; dim = e i } in
    subst (λ (y : Label). normal_type y (Some None) ≡ dia_tree y.dim (normal_diagram y.dim (dia y.dim (type_of_generator y.number None)))) same
    (ap point (sym (label_at-point (label_of x.number None))))
type_normal x (Some (s, t)) e =
    let d : ℕ = dimension_of s in
    let same : label_of x.number (Some (s, t)) ≡ x = λ i. record { number = x.number; dim = e i } in
    subst (λ (y : Label). normal_type y (Some (Some (s, t))) ≡ dia_tree y.dim (normal_diagram y.dim (dia y.dim (type_of_generator y.number (Some (s, t)))))) same
    (ap (λ (D : Dia (suc d)). dia_tree (suc d) (normal_diagram (suc d) D))
    (sym (dia-dia_tree (suc d) (type_over d (dia d s) (dia d t) (label_of x.number (Some (s, t)))))))

-- the tree of a type is that of its diagram
type_tree_again : (x : Label) (g : Generator) → generator_dim g ≡ x.dim
    → type_of_generator x.number g ≡ dia_tree x.dim (dia x.dim (type_of_generator x.number g))
unfolding type_tree on_diagram
type_tree_again x None e =
    let same : label_of x.number None ≡ x = λ i. record { number = x.number; dim = e i } in
    subst (λ (y : Label). type_of_generator y.number None ≡ dia_tree y.dim (dia y.dim (type_of_generator y.number None))) same
    (ap point (sym (label_at-point (label_of x.number None))))
type_tree_again x (Some (s, t)) e =
    let d : ℕ = dimension_of s in
    let same : label_of x.number (Some (s, t)) ≡ x = λ i. record { number = x.number; dim = e i } in
    subst (λ (y : Label). type_of_generator y.number (Some (s, t)) ≡ dia_tree y.dim (dia y.dim (type_of_generator y.number (Some (s, t))))) same
    (ap (dia_tree (suc d)) (sym (dia-dia_tree (suc d) (type_over d (dia d s) (dia d t) (label_of x.number (Some (s, t)))))))

pub types_pass_at_once : (n : ℕ) → TypesPassAtOnce n
unfolding verdict
types_pass_at_once n generators x g M found dim l same =
    let t : Tree = type_of_generator x.number g in
    let T : Dia x.dim = dia x.dim t in
    let m : ℕ = n - x.dim in
    let U : Dia n = under_identities n m (normal_type x (slice_get generators x.number)) in
    let tree_is : t ≡ dia_tree x.dim T = type_tree_again x g dim in
    let high : above x.dim m ≡ n = above-minus x.dim m n (omega arith) in
    let normal : normal_diagram n M ≡ U =
    ap (normal_diagram n) (same ∙ ap (under_identities n m) tree_is)
    ∙ subst (λ (j : ℕ). normal_diagram j (under_identities j m (dia_tree x.dim T)) ≡ under_identities j m (dia_tree x.dim (normal_diagram x.dim T))) high
    (tower_normal x.dim T m)
    ∙ ap (under_identities n m) (sym (type_normal x g dim) ∙ ap (normal_type x) (sym found)) in
    let known : is_generator generators x ≡ true = ap (has_dim x.dim) found ∙ (Decides-eqb (generator_dim g) x.dim).1 dim in
    let type : is_type generators n x (normal_diagram n M) ≡ true =
    ap (λ (b : Bool). b && same_diagram n (normal_diagram n M) U) (le-leb x.dim n l) ∙ (same_diagrams_are_decided n (normal_diagram n M) U).1 normal in
    cond-true (is_generator generators x) _ (Some no_generator) known
    ∙ cond-true (is_type generators n x (normal_diagram n M)) None (Some other_type) type
