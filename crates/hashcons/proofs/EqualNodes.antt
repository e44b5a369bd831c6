-- Nodes as a store shows them, told by the trees that they describe.
use Rattle.std.proofs.Common.{◌≡◌, ℕ, ◌≤◌, List, length, refl, sym, ap, ap₂, ◌∙◌, arith}
use Rattle.diagram_terms.specs.Tree.{Tree, zig, zag, kind, label_at, from_at, to_at, regs, sings, fwds, bwds, heights, label_at-point, from_at-ends, to_at-ends, heights-zag, regs-zag, sings-zag, regs-zig, sings-zig, fwds-zig, bwds-zig, kind-point, kind-zig, kind-ends, kind-zag}
use Rattle.diagram_terms.specs.Nodes.{picked}
use Rattle.hashcons.specs.declared.view.ArrowView.{ArrowView}
use Rattle.hashcons.specs.declared.view.ArrowView.TheVariants as a
use Rattle.hashcons.specs.declared.view.DiagramView.{DiagramView}
use Rattle.hashcons.specs.declared.view.DiagramView.TheVariants as d
use Rattle.hashcons.specs.Contents.{IsOnce}
use Rattle.hashcons.specs.Nodes.{tree_of_arrow, tree_of_diagram, IsArrowOver, IsDiagramOver}
use Rattle.block_lists.proofs.Below.{AreBelow-more}
use Rattle.hashcons.proofs.TableTrees.{picked-inj, AgreeBelow, picked-agree}

-- ---- arrows

-- where no tree stands twice, nodes with one tree are one
pub arrow-told : (ts : List Tree) → IsOnce ts → (n m : ArrowView) → IsArrowOver (length ts) n → IsArrowOver (length ts) m
    → tree_of_arrow ts m ≡ tree_of_arrow ts n → n ≡ m
arrow-told ts once (a.Zero x y) (a.Zero z w) b c e =
    ap₂ (λ u v. a.Zero u v) (sym (from_at-ends x y) ∙ sym (ap from_at e) ∙ from_at-ends z w)
    (sym (to_at-ends x y) ∙ sym (ap to_at e) ∙ to_at-ends z w)
arrow-told ts once (a.Zero x y) (a.Zig hs rs ss) b c e = absurd
    (omega (arith, sym (kind-zag _ _ _) ∙ ap kind e ∙ kind-ends x y))
arrow-told ts once (a.Zig hs rs ss) (a.Zero z w) b c e = absurd
    (omega (arith, sym (kind-ends z w) ∙ ap kind e ∙ kind-zag _ _ _))
arrow-told ts once (a.Zig hs rs ss) (a.Zig hs2 rs2 ss2) b c e =
    let h = sym (heights-zag _ _ _) ∙ sym (ap heights e) ∙ heights-zag _ _ _ in
    let u = picked-inj ts once rs rs2 b.regs c.regs (sym (regs-zag _ _ _) ∙ sym (ap regs e) ∙ regs-zag _ _ _) in
    let v = picked-inj ts once ss ss2 b.sings c.sings (sym (sings-zag _ _ _) ∙ sym (ap sings e) ∙ sings-zag _ _ _) in
    λ i. a.Zig (h i) (u i) (v i)

pub arrow-local : (k : ℕ) (ts us : List Tree) (n : ArrowView) → IsArrowOver k n → AgreeBelow k ts us
    → tree_of_arrow ts n ≡ tree_of_arrow us n
arrow-local k ts us (a.Zero x y) b h = refl
arrow-local k ts us (a.Zig hs rs ss) b h =
    let u = picked-agree k ts us rs b.regs h in
    let v = picked-agree k ts us ss b.sings h in
    λ i. zag hs (u i) (v i)

pub arrow-wider : (k l : ℕ) (n : ArrowView) → k ≤ l → IsArrowOver k n → IsArrowOver l n
arrow-wider k l (a.Zero x y) h b = tt
arrow-wider k l (a.Zig hs rs ss) h b = record {
  regs = AreBelow-more k l h rs b.regs;
  sings = AreBelow-more k l h
      ss b.sings;
}

-- ---- diagrams

pub diagram-told : (arrows ts : List Tree) → IsOnce arrows → IsOnce ts → (n m : DiagramView)
    → IsDiagramOver (length arrows) (length ts) n → IsDiagramOver (length arrows) (length ts) m
    → tree_of_diagram arrows ts m ≡ tree_of_diagram arrows ts n → n ≡ m
diagram-told arrows ts o once (d.Zero x) (d.Zero z) b c e =
    ap (λ u. d.Zero u) (sym (label_at-point x) ∙ sym (ap label_at e) ∙ label_at-point z)
diagram-told arrows ts o once (d.Zero x) (d.Zig rs ss fs bs) b c e = absurd
    (omega (arith, sym (kind-zig _ _ _ _) ∙ ap kind e ∙ kind-point x))
diagram-told arrows ts o once (d.Zig rs ss fs bs) (d.Zero z) b c e = absurd
    (omega (arith, sym (kind-point z) ∙ ap kind e ∙ kind-zig _ _ _ _))
diagram-told arrows ts o once (d.Zig rs ss fs bs) (d.Zig rs2 ss2 fs2 bs2) b c e =
    let u = picked-inj ts once rs rs2 b.regs c.regs (sym (regs-zig _ _ _ _) ∙ sym (ap regs e) ∙ regs-zig _ _ _ _) in
    let v = picked-inj ts once ss ss2 b.sings c.sings (sym (sings-zig _ _ _ _) ∙ sym (ap sings e) ∙ sings-zig _ _ _ _) in
    let w = picked-inj arrows o fs fs2 b.fwds c.fwds (sym (fwds-zig _ _ _ _) ∙ sym (ap fwds e) ∙ fwds-zig _ _ _ _) in
    let x = picked-inj arrows o bs bs2 b.bwds c.bwds (sym (bwds-zig _ _ _ _) ∙ sym (ap bwds e) ∙ bwds-zig _ _ _ _) in
    λ i. d.Zig (u i) (v i) (w i) (x i)

pub diagram-local : (arrows : List Tree) (k : ℕ) (ts us : List Tree) (n : DiagramView) → IsDiagramOver (length arrows) k n
    → AgreeBelow k ts us → tree_of_diagram arrows ts n ≡ tree_of_diagram arrows us n
diagram-local arrows k ts us (d.Zero x) b h = refl
diagram-local arrows k ts us (d.Zig rs ss fs bs) b h =
    let u = picked-agree k ts us rs b.regs h in
    let v = picked-agree k ts us ss b.sings h in
    λ i. zig (u i) (v i) (picked arrows fs) (picked arrows bs)

-- only the arrows that the node names matter
pub diagram-arrows : (m : ℕ) (before after : List Tree) → AgreeBelow m before after
    → (k : ℕ) (ts : List Tree) (n : DiagramView) → IsDiagramOver m k n
    → tree_of_diagram before ts n ≡ tree_of_diagram after ts n
diagram-arrows m before after h k ts (d.Zero x) b = refl
diagram-arrows m before after h k ts (d.Zig rs ss fs bs) b =
    let u = picked-agree m before after fs b.fwds h in
    let v = picked-agree m before after bs b.bwds h in
    λ i. zig (picked ts rs) (picked ts ss) (u i) (v i)

pub diagram-wider : (m k l : ℕ) (n : DiagramView) → k ≤ l → IsDiagramOver m k n → IsDiagramOver m l n
diagram-wider m k l (d.Zero x) h b = tt
diagram-wider m k l (d.Zig rs ss fs bs) h b = record {
  regs = AreBelow-more k l h rs b.regs;
  sings = AreBelow-more k l h ss b.sings;
  fwds = b.fwds;
  bwds = b.bwds;
}

pub diagram-more_arrows : (m o : ℕ) → m ≤ o → (k : ℕ) (n : DiagramView) → IsDiagramOver m k n → IsDiagramOver o k n
diagram-more_arrows m o h k (d.Zero x) b = tt
diagram-more_arrows m o h k (d.Zig rs ss fs bs) b = record {
  regs = b.regs;
  sings = b.sings;
  fwds = AreBelow-more m o h fs b.fwds;
  bwds = AreBelow-more m o h bs b.bwds;
}
