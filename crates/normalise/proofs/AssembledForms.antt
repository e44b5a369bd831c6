-- The node that is put together, and what it describes.
use Rattle.std.proofs.Common.{◌≡◌, ℕ, suc, ◌<◌, List, ◌∷◌, [], ◌++◌, length, get_or, sym, ap, subst, ◌∙◌}
use Rattle.diagram_terms.specs.Dimension.{dimension_of, IsDiagramTree, IsArrowTree}
use Rattle.diagram_terms.specs.Nodes.{picked}
use Rattle.diagram_terms.specs.Tree.{Tree, zig, zag, sings}
use Rattle.diagram_terms.proofs.Dimensions.{diagram_tree, arrow_tree}
use Rattle.hashcons.specs.Contents.{Contents, Grows, Key, IsDiagramOf, IsArrowOf, diagram_at, arrow_at}
use Rattle.hashcons.specs.Nodes.{AreArrowChildren, AreDiagramChildren}
use Rattle.hashcons.specs.NormalTrees.{TreeLeg}
use Rattle.normalise.specs.declared.parts.Forms.{Forms}
use Rattle.normalise.specs.declared.left.Left.{Left}
use Rattle.normalise.specs.FormTrees.{normal_tree, assembled_tree}
use Rattle.normalise.specs.StoreForms.{legs_of, IsKeyOf, IsLegWith, AreForms, IsLeftOf}
use Rattle.normalise.proofs.FormsInStore.{form_arrow, form_assembled}
use Rattle.normalise.proofs.LeftSteps.{described_source, described_form, source_children, arrow_children, left-grows, forms-grow}

module _ (old : Contents) (k : Key) (h : IsKeyOf old k) (above : 0 < dimension_of (diagram_at old k.target)) (last : ℕ)
    (e : last ≡ length (sings (diagram_at old k.target))) (left : Left) (forms : Forms)
    (f : AreForms old (diagram_at old k.target) (legs_of old k.legs) (suc last) forms)
    (l : IsLeftOf old (diagram_at old k.target) (legs_of old k.legs) last left) where
  abbrev t : Tree
  t = diagram_at old k.target

  abbrev gs : List TreeLeg
  gs = legs_of old k.legs

  is_assembled : normal_tree t gs ≡ assembled_tree t gs
  is_assembled = form_assembled old k h above

  module _ (regs : List ℕ) (is : regs ≡ left.regs.items ++ get_or forms.sources.items last 0 ∷ []) where
    pub source_there : AreDiagramChildren (length old.arrows) (length old.diagrams) regs left.sings.items left.fwds.items left.bwds.items
    source_there = source_children old t gs last e left l forms f regs is

    pub source_is : zig (picked old.diagrams regs) (picked old.diagrams left.sings.items) (picked old.arrows left.fwds.items) (picked old.arrows left.bwds.items)
        ≡ (normal_tree t gs).source
    source_is = described_source old t gs last e left l forms f regs is ∙ sym (ap (λ (g : TreeLeg). g.source) is_assembled)

    pub source_shape : IsDiagramTree (zig (picked old.diagrams regs) (picked old.diagrams left.sings.items) (picked old.arrows left.fwds.items) (picked old.arrows left.bwds.items))
    source_shape =
        let a = form_arrow old k h in
        subst IsDiagramTree (sym source_is) (diagram_tree a.dim (normal_tree t gs).source a.at_dim.source.shape)

  module _ (new : Contents) (g : Grows old new) where
    pub arrow_there : AreArrowChildren (length new.arrows) forms.arrows.items left.arrows.items
    arrow_there = arrow_children new t gs last e left (left-grows old new t gs last left g l) forms (forms-grow old new t gs (suc last) forms g f)

    pub arrow_is : zag left.heights.items (picked new.arrows forms.arrows.items) (picked new.arrows left.arrows.items) ≡ (normal_tree t gs).arrow
    arrow_is = described_form new t gs last e left (left-grows old new t gs last left g l) forms (forms-grow old new t gs (suc last) forms g f)
        ∙ sym (ap (λ (u : TreeLeg). u.arrow) is_assembled)

    pub arrow_shape : IsArrowTree (zag left.heights.items (picked new.arrows forms.arrows.items) (picked new.arrows left.arrows.items))
    arrow_shape =
        let a = form_arrow old k h in
        subst IsArrowTree (sym arrow_is) (arrow_tree a.dim (normal_tree t gs).arrow a.at_dim.shape)

-- the ids of what was put are a leg with these trees
pub put_leg : (mid new : Contents) (g : TreeLeg) (d a : ℕ) → Grows mid new → IsDiagramOf mid d → diagram_at mid d ≡ g.source
    → IsArrowOf new a → arrow_at new a ≡ g.arrow → IsLegWith new g (d, a)
put_leg mid new g d a grows there is held tree =
    let s = grows.diagram_trees d there ∙ is in
    record {
      of_store = record { source = grows.diagrams d there; arrow = held };
      trees = λ i. record { source = s i; arrow = tree i };
    }
