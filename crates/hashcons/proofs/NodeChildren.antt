-- The children of a node are among the trees that it names.
use Rattle.std.proofs.Common.{◌≡◌, ℕ, ◌<◌, ◌≤◌, List, length, get_or, refl, sym, ap, ◌∙◌, arith, zero, suc}
use Rattle.diagram_terms.specs.Tree.{Tree, nil, point, regs, sings, fwds, bwds, regs-zig, sings-zig, fwds-zig, bwds-zig, regs-zag, sings-zag}
use Rattle.diagram_terms.specs.Dual.{AreBelow}
use Rattle.diagram_terms.specs.Nodes.{picked}
use Rattle.diagram_terms.specs.Shape.{IsDiagram, IsArrow, reg_at}
use Rattle.diagram_terms.specs.Completion.{IsAmongFirst}
use Rattle.diagram_terms.specs.Dimension.{dimension_of, dimension_of-ends, IsDiagramTree, IsArrowTree}
use Rattle.diagram_terms.proofs.Dimensions.{diagram_dimension, arrow_dimension}
use Rattle.hashcons.specs.declared.view.ArrowView.{ArrowView}
use Rattle.hashcons.specs.declared.view.ArrowView.TheVariants as a
use Rattle.hashcons.specs.declared.view.DiagramView.{DiagramView}
use Rattle.hashcons.specs.declared.view.DiagramView.TheVariants as d
use Rattle.hashcons.specs.Contents.{HasSlicesAmong, HasLegsAmong, HasArrowsAmong}
use Rattle.hashcons.specs.Nodes.{tree_of_arrow, tree_of_diagram, IsArrowOver, IsDiagramOver}
use Rattle.hashcons.proofs.TableTrees.{length-picked, get_or-picked}

-- the parts that a list of places names, where a tree has them as one of its lists
picked_among : (ts : List Tree) (is : List ℕ) (us : List Tree) → us ≡ picked ts is → AreBelow is (length ts)
    → (j : ℕ) → j < length us → IsAmongFirst (length ts) ts (get_or us j nil)
picked_among ts is us e b j l =
    let n = ap length e ∙ length-picked ts is in
    let m : j < length is = omega arith in
    record {
      place = get_or is j 0;
      before = b.below j m;
      is = sym (ap (λ vs. get_or vs j nil) e ∙ get_or-picked ts is j 0 m);
    }

pub arrow-among : (ts : List Tree) (n : ArrowView) → IsArrowOver (length ts) n
    → HasArrowsAmong (length ts) ts (tree_of_arrow ts n)
arrow-among ts (a.Zero x y) b = record {
  regs = λ above j l. absurd (omega (arith, dimension_of-ends x y));
  sings = λ above i l. absurd (omega (arith, dimension_of-ends x y));
}
arrow-among ts (a.Zig hs rs ss) b = record {
  regs = λ above. picked_among ts rs _ (regs-zag _ _ _) b.regs;
  sings = λ above. picked_among ts ss _ (sings-zag _ _ _) b.sings;
}

no_parts : (us : List Tree) → length us ≡ 0 → (P : ℕ → Type 0) → (j : ℕ) → j < length us → P j
no_parts us e P j l = absurd (omega arith)

regs-point : (x : _) → length (regs (point x)) ≡ 0
unfolding regs point
regs-point x = refl

sings-point : (x : _) → length (sings (point x)) ≡ 0
unfolding sings point
sings-point x = refl

fwds-point : (x : _) → length (fwds (point x)) ≡ 0
unfolding fwds point
fwds-point x = refl

bwds-point : (x : _) → length (bwds (point x)) ≡ 0
unfolding bwds point
bwds-point x = refl

pub slices-among : (arrows ts : List Tree) (n : DiagramView) → IsDiagramOver (length arrows) (length ts) n
    → HasSlicesAmong (length ts) ts (tree_of_diagram arrows ts n)
slices-among arrows ts (d.Zero x) b = record {
  regs = no_parts _ (regs-point x) _;
  sings = no_parts _ (sings-point x) _;
}
slices-among arrows ts (d.Zig rs ss fs bs) b = record {
  regs = picked_among ts rs _ (regs-zig _ _ _ _) b.regs;
  sings = picked_among ts ss _ (sings-zig _ _ _ _) b.sings;
}

pub legs-among : (arrows ts : List Tree) (n : DiagramView) → IsDiagramOver (length arrows) (length ts) n
    → HasLegsAmong (length arrows) arrows (tree_of_diagram arrows ts n)
legs-among arrows ts (d.Zero x) b = record {
  fwds = no_parts _ (fwds-point x) _;
  bwds = no_parts _ (bwds-point x) _;
}
legs-among arrows ts (d.Zig rs ss fs bs) b = record {
  fwds = picked_among arrows fs _ (fwds-zig _ _ _ _) b.fwds;
  bwds = picked_among arrows bs _ (bwds-zig _ _ _ _) b.bwds;
}

-- a tree has one dimension more than its first slice, which stands before it
arrow_low : (m : ℕ) (ts : List Tree) (t : Tree) → IsArrow m t → HasArrowsAmong (length ts) ts t
    → ((i : ℕ) → i < length ts → dimension_of (get_or ts i nil) ≤ i) → m ≤ length ts
arrow_low zero ts t h among low = omega arith
arrow_low (suc m) ts t h among low =
    let e = arrow_dimension (suc m) t h in
    let first = among.regs (omega arith) 0 h.regs_len in
    let k : dimension_of (get_or ts first.place nil) ≡ m = ap dimension_of first.is ∙ arrow_dimension m (reg_at t 0)
    (h.regs_are 0 h.regs_len) in
    let l = low first.place first.before in
    let b = first.before in
    omega arith

pub arrow-low : (ts : List Tree) (t : Tree) → IsArrowTree t → HasArrowsAmong (length ts) ts t
    → ((i : ℕ) → i < length ts → dimension_of (get_or ts i nil) ≤ i) → dimension_of t ≤ length ts
arrow-low ts t h among low = arrow_low (dimension_of t) ts t h among low

diagram_low : (m : ℕ) (ts : List Tree) (t : Tree) → IsDiagram m t → HasSlicesAmong (length ts) ts t
    → ((i : ℕ) → i < length ts → dimension_of (get_or ts i nil) ≤ i) → m ≤ length ts
diagram_low zero ts t h among low = omega arith
diagram_low (suc m) ts t h among low =
    let n = h.regs_len in
    let first = among.regs 0 (omega arith) in
    let k : dimension_of (get_or ts first.place nil) ≡ m = ap dimension_of first.is ∙ diagram_dimension m (reg_at t 0)
    (h.regs_are 0 (omega arith)) in
    let l = low first.place first.before in
    let b = first.before in
    omega arith

pub diagram-low : (ts : List Tree) (t : Tree) → IsDiagramTree t → HasSlicesAmong (length ts) ts t
    → ((i : ℕ) → i < length ts → dimension_of (get_or ts i nil) ≤ i) → dimension_of t ≤ length ts
diagram-low ts t h among low = diagram_low (dimension_of t) ts t h among low
