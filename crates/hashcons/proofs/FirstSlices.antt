-- What a node that was viewed says of its first slice.
use Rattle.std.proofs.Common.{◌≡◌, ℕ, ◌<◌, List, length, get_or, sym, ap, subst, ◌∙◌, arith, suc}
use Rattle.std.specs.Prelude.{slice_index}
use Rattle.std.proofs.lemmas.List.{get_or_read, get_or_default}
use Rattle.diagram_terms.specs.Tree.{Tree, nil, regs, regs-zig, regs-zag}
use Rattle.diagram_terms.specs.Dimension.{dimension_of}
use Rattle.diagram_terms.specs.Nodes.{picked}
use Rattle.hashcons.specs.declared.view.ArrowView.{ArrowView}
use Rattle.hashcons.specs.declared.view.ArrowView.TheVariants as a
use Rattle.hashcons.specs.declared.view.DiagramView.{DiagramView}
use Rattle.hashcons.specs.declared.view.DiagramView.TheVariants as d
use Rattle.hashcons.specs.Contents.{Contents, IsStore, IsDiagramOf, IsArrowOf, diagram_at, arrow_at}
use Rattle.hashcons.specs.Nodes.{tree_of_arrow, tree_of_diagram, IsArrowOver, IsDiagramOver}
use Rattle.hashcons.proofs.TableTrees.{length-picked, get_or-picked}
use Rattle.hashcons.proofs.PartsOfNodes.{HasFirst, zig_first, zag_first}

-- the trees of a list of ids, the first of which is one of the list of the store and one dimension below t
pub record FirstIs (ts : List Tree) (t : Tree) (is : List ℕ) : Type 0 where
  pub nonempty : 0 < length is
  pub above : 0 < dimension_of t
  pub count : length (regs t) ≡ length is
  pub of_store : (x : ℕ) → x ≡ get_or is 0 x → x < length ts
  pub dimension : (x : ℕ) → x ≡ get_or is 0 x → dimension_of t ≡ suc (dimension_of (get_or ts x nil))

-- an entry that was read, at itself as the default
pub entry_read : (is : List ℕ) (i x : ℕ) → i < length is → x ≡ slice_index is i → x ≡ get_or is i x
entry_read is i x l e = e ∙ get_or_default is i 0 x l

first_is : (ts : List Tree) (t : Tree) (is : List ℕ) → ((j : ℕ) → j < length is → get_or is j 0 < length ts)
    → regs t ≡ picked ts is → HasFirst t (picked ts is) → FirstIs ts t is
first_is ts t is b r h =
    let n : 0 < length is = omega (arith, h.nonempty, length-picked ts is) in
    record {
      nonempty = n;
      above = omega (arith, h.dimension);
      count = ap length r ∙ length-picked ts is;
      of_store = λ x e. let r = get_or_read is 0 x n e 0 in let l = b 0 n in omega arith;
      dimension = λ x e. h.dimension ∙ ap (λ u. suc (dimension_of u))
          (get_or-picked ts is 0 0 n ∙ ap (λ i. get_or ts i nil) (sym (get_or_read is 0 x n e 0)));
    }

pub first_slice : (c : Contents) (i : ℕ) (n : DiagramView) (rs ss fs bs : _) → IsStore c → IsDiagramOf c i
    → tree_of_diagram c.arrows c.diagrams n ≡ diagram_at c i → IsDiagramOver (length c.arrows) (length c.diagrams) n
    → n ≡ d.Zig rs ss fs bs → FirstIs c.diagrams (diagram_at c i) rs
first_slice c i n rs ss fs bs store of_store tree children e =
    let over : IsDiagramOver (length c.arrows) (length c.diagrams) (d.Zig rs ss fs bs) = subst (IsDiagramOver (length c.arrows) (length c.diagrams)) e children in
    let described = sym (ap (tree_of_diagram c.arrows c.diagrams) e) ∙ tree in
    first_is c.diagrams (diagram_at c i) rs over.regs.below (sym (ap regs described) ∙ regs-zig _ _ _ _)
    (zig_first (diagram_at c i) (picked c.diagrams rs) (picked c.diagrams ss) (picked c.arrows fs)
    (picked c.arrows bs) described (store.diagrams i of_store))

pub first_arrow : (c : Contents) (i : ℕ) (n : ArrowView) (hs rs ss : _) → IsStore c → IsArrowOf c i
    → tree_of_arrow c.arrows n ≡ arrow_at c i → IsArrowOver (length c.arrows) n
    → n ≡ a.Zig hs rs ss → FirstIs c.arrows (arrow_at c i) rs
first_arrow c i n hs rs ss store of_store tree children e =
    let over : IsArrowOver (length c.arrows) (a.Zig hs rs ss) = subst (IsArrowOver (length c.arrows)) e children in
    let described = sym (ap (tree_of_arrow c.arrows) e) ∙ tree in
    first_is c.arrows (arrow_at c i) rs over.regs.below (sym (ap regs described) ∙ regs-zag _ _ _)
    (zag_first (arrow_at c i) hs (picked c.arrows rs) (picked c.arrows ss) described
    (store.arrows i of_store))
