-- What the parts of a diagram of the program stand for, where it stands for a diagram of the family.
use Rattle.std.proofs.Common.{◌≡◌, ℕ, zero, suc, ◌<◌, List, length, get_or, map, Vec, Global, sym, ap, ◌∙◌, arith}
use Rattle.std.proofs.lemmas.List.{get_or-map, length-map}
use Rattle.diagram_terms.specs.declared.label.Label.{Label}
use Rattle.diagram_terms.specs.declared.tree.Arrow.{Arrow}
use Rattle.diagram_terms.specs.declared.tree.Diagram.{Diagram}
use Rattle.diagram_terms.specs.declared.tree.Diagram.TheVariants as diagram
use Rattle.diagram_terms.specs.Tree.{nil, kind, kind-point, kind-zig}
use Rattle.diagram_terms.specs.Family.{Dia, no_dia}
use Rattle.diagram_terms.specs.Decoded.{arr_tree, dia_tree}
use Rattle.diagram_terms.specs.Values.{tree_of_diagram, trees_of_arrows, trees_of_diagrams}
use Rattle.diagram_terms.proofs.ValuesAsTrees.{tree_of_diagram-Zero, tree_of_diagram-Zig, zig_iff, point_iff}

-- one diagram of a list
pub held_diagram : (d : ℕ) (held : List Diagram) (Xs : List (Dia d)) → trees_of_diagrams held ≡ map (dia_tree d) Xs
    → (k : ℕ) (a : Diagram) → k < length held → a ≡ get_or held k a → tree_of_diagram a ≡ dia_tree d (get_or Xs k (no_dia d))
held_diagram d held Xs e k a l is =
    let n : length held ≡ length Xs = sym (length-map held tree_of_diagram) ∙ ap length e ∙ length-map Xs (dia_tree d) in
    ap tree_of_diagram is ∙ sym (get_or-map tree_of_diagram held k a nil l)
    ∙ ap (λ ts. get_or ts k nil) e ∙ get_or-map (dia_tree d) Xs k (no_dia d) nil (omega arith)

pub held_diagrams_length : (d : ℕ) (held : List Diagram) (Xs : List (Dia d)) → trees_of_diagrams held ≡ map (dia_tree d) Xs → length held ≡ length Xs
held_diagrams_length d held Xs e = sym (length-map held tree_of_diagram) ∙ ap length e ∙ length-map Xs (dia_tree d)

-- lists of parts that are those of the diagram X
pub record AreHeldSlices (d : ℕ) (X : Dia (suc d)) (rs ss : List Diagram) (fs bs : List Arrow) : Type 0 where
  pub regs_are : trees_of_diagrams rs ≡ map (dia_tree d) X.regs
  pub sings_are : trees_of_diagrams ss ≡ map (dia_tree d) X.sings
  pub fwds_are : trees_of_arrows fs ≡ map (arr_tree d) X.fwds
  pub bwds_are : trees_of_arrows bs ≡ map (arr_tree d) X.bwds

pub held_slices : (d : ℕ) (X : Dia (suc d)) (a : Diagram) (rs ss : Vec Diagram Global) (fs bs : Vec Arrow Global) → a ≡ diagram.Zig rs ss fs bs
    → tree_of_diagram a ≡ dia_tree (suc d) X → AreHeldSlices d X rs.items ss.items fs.items bs.items
held_slices d X a rs ss fs bs e is =
    let p = (zig_iff (trees_of_diagrams rs.items) (map (dia_tree d) X.regs) (trees_of_diagrams ss.items) (map (dia_tree d) X.sings)
    (trees_of_arrows fs.items) (map (arr_tree d) X.fwds) (trees_of_arrows bs.items) (map (arr_tree d) X.bwds)).0
    (sym (ap tree_of_diagram e ∙ tree_of_diagram-Zig rs ss fs bs) ∙ is) in
    record { regs_are = p.0; sings_are = p.1; fwds_are = p.2; bwds_are = p.3 }

-- a diagram of dimension 0 is a label, and no other is
pub no_zigzag_at_zero : (X : Dia zero) (a : Diagram) (rs ss : Vec Diagram Global) (fs bs : Vec Arrow Global) → a ≡ diagram.Zig rs ss fs bs
    → tree_of_diagram a ≡ dia_tree zero X → ⊥
no_zigzag_at_zero X a rs ss fs bs e is =
    let t = sym (ap tree_of_diagram e ∙ tree_of_diagram-Zig rs ss fs bs) ∙ is in
    omega (arith, sym (kind-zig _ _ _ _) ∙ ap kind t ∙ kind-point _)

pub no_label_above : (d : ℕ) (X : Dia (suc d)) (a : Diagram) (x : Label) → a ≡ diagram.Zero x → tree_of_diagram a ≡ dia_tree (suc d) X → ⊥
no_label_above d X a x e is =
    let t = sym (ap tree_of_diagram e ∙ tree_of_diagram-Zero x) ∙ is in
    omega (arith, sym (kind-point x) ∙ ap kind t ∙ kind-zig _ _ _ _)

pub held_label : (X : Dia zero) (a : Diagram) (x : Label) → a ≡ diagram.Zero x → tree_of_diagram a ≡ dia_tree zero X → x ≡ X
held_label X a x e is = (point_iff x X).0 (sym (ap tree_of_diagram e ∙ tree_of_diagram-Zero x) ∙ is)
