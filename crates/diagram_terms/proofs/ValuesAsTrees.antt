-- The trees of the variants, when two are equal, and what a tree's shape says of the value.
use Rattle.std.proofs.Common.{◌≡◌, ℕ, zero, suc, ◌<◌, ◌↔◌, length, get_or, Vec, Global, List, sym, ap, ◌∙◌, subst, refl, arith}
use Rattle.std.proofs.lemmas.List.{get_or-map}
use Rattle.diagram_terms.specs.declared.label.Label.{Label}
use Rattle.diagram_terms.specs.declared.tree.Arrow.{Arrow}
use Rattle.diagram_terms.specs.declared.tree.Arrow.TheOpen.{Arrow-F}
use Rattle.diagram_terms.specs.declared.tree.Arrow.TheFolds.{fold-roll-Arrow}
use Rattle.diagram_terms.specs.declared.tree.Arrow.TheVariants as arrow
use Rattle.diagram_terms.specs.declared.tree.Diagram.{Diagram}
use Rattle.diagram_terms.specs.declared.tree.Diagram.TheOpen.{Diagram-F}
use Rattle.diagram_terms.specs.declared.tree.Diagram.TheFolds.{fold-roll-Diagram}
use Rattle.diagram_terms.specs.declared.tree.Diagram.TheVariants as diagram
use Rattle.diagram_terms.specs.Tree.{Tree, nil, point, zig, ends, zag, kind, label_at, from_at, to_at, regs, sings, fwds, bwds, heights, kind-point, kind-zig, label_at-point, from_at-ends, to_at-ends, heights-zag, regs-zag, sings-zag, regs-zig, sings-zig, fwds-zig, bwds-zig}
use Rattle.diagram_terms.specs.Shape.{IsDiagram}
use Rattle.diagram_terms.specs.Values.{tree_of_arrow, arrow_level, tree_of_diagram, trees_of_arrows, trees_of_diagrams, diagram_level}

pub tree_of_arrow-Zero : (x y : Label) → tree_of_arrow (arrow.Zero x y) ≡ ends x y
tree_of_arrow-Zero x y = ap tree_of_arrow (sym (arrow.rolls-Zero x y)) ∙ fold-roll-Arrow Tree arrow_level (Arrow-F.Zero x y)

pub tree_of_arrow-Zig : (hs : Vec ℕ Global) (rs ss : Vec Arrow Global) → tree_of_arrow (arrow.Zig hs rs ss) ≡ zag hs.items (trees_of_arrows rs.items) (trees_of_arrows ss.items)
tree_of_arrow-Zig hs rs ss = ap tree_of_arrow (sym (arrow.rolls-Zig hs rs ss)) ∙ fold-roll-Arrow Tree arrow_level (Arrow-F.Zig hs rs ss)

pub tree_of_diagram-Zero : (x : Label) → tree_of_diagram (diagram.Zero x) ≡ point x
tree_of_diagram-Zero x = ap tree_of_diagram (sym (diagram.rolls-Zero x)) ∙ fold-roll-Diagram Tree diagram_level (Diagram-F.Zero x)

pub tree_of_diagram-Zig : (rs ss : Vec Diagram Global) (fs bs : Vec Arrow Global)
    → tree_of_diagram (diagram.Zig rs ss fs bs) ≡ zig (trees_of_diagrams rs.items) (trees_of_diagrams ss.items) (trees_of_arrows fs.items) (trees_of_arrows bs.items)
tree_of_diagram-Zig rs ss fs bs = ap tree_of_diagram (sym (diagram.rolls-Zig rs ss fs bs)) ∙ fold-roll-Diagram Tree diagram_level (Diagram-F.Zig rs ss fs bs)

-- equal nodes have equal parts
pub point_iff : (x y : Label) → (point x ≡ point y) ↔ (x ≡ y)
point_iff x y = (λ e. sym (label_at-point x) ∙ ap label_at e ∙ label_at-point y, λ e. ap point e)

pub ends_iff : (x y z w : Label) → (ends x y ≡ ends z w) ↔ (x ≡ z) × (y ≡ w)
ends_iff x y z w = (
  λ e. (sym (from_at-ends x y) ∙ ap from_at e ∙ from_at-ends z w, sym (to_at-ends x y) ∙ ap to_at e ∙ to_at-ends z w),
  λ p. cc,
)

pub zag_iff : (hs hs2 : List ℕ) (rs rs2 ss ss2 : List Tree) → (zag hs rs ss ≡ zag hs2 rs2 ss2) ↔ (hs ≡ hs2) × (rs ≡ rs2) × (ss ≡ ss2)
zag_iff hs hs2 rs rs2 ss ss2 = (
  λ e. (
    sym (heights-zag hs rs ss) ∙ ap heights e ∙ heights-zag hs2 rs2 ss2,
    sym (regs-zag hs rs ss) ∙ ap regs e ∙ regs-zag hs2 rs2 ss2,
    sym (sings-zag hs rs ss) ∙ ap sings e ∙ sings-zag hs2 rs2 ss2,
  ),
  λ p. cc,
)

pub zig_iff : (rs rs2 ss ss2 fs fs2 bs bs2 : List Tree) → (zig rs ss fs bs ≡ zig rs2 ss2 fs2 bs2) ↔ (rs ≡ rs2) × (ss ≡ ss2) × (fs ≡ fs2) × (bs ≡ bs2)
zig_iff rs rs2 ss ss2 fs fs2 bs bs2 = (
  λ e. (
    sym (regs-zig rs ss fs bs) ∙ ap regs e ∙ regs-zig rs2 ss2 fs2 bs2,
    sym (sings-zig rs ss fs bs) ∙ ap sings e ∙ sings-zig rs2 ss2 fs2 bs2,
    sym (fwds-zig rs ss fs bs) ∙ ap fwds e ∙ fwds-zig rs2 ss2 fs2 bs2,
    sym (bwds-zig rs ss fs bs) ∙ ap bwds e ∙ bwds-zig rs2 ss2 fs2 bs2,
  ),
  λ p. cc,
)

pub equal_zags : (a b : Arrow) (hs hs2 : Vec ℕ Global) (rs rs2 ss ss2 : Vec Arrow Global) → a ≡ arrow.Zig hs rs ss → b ≡ arrow.Zig hs2 rs2 ss2
    → (tree_of_arrow a ≡ tree_of_arrow b) ↔ (hs.items ≡ hs2.items) × (trees_of_arrows rs.items ≡ trees_of_arrows rs2.items) × (trees_of_arrows ss.items ≡ trees_of_arrows ss2.items)
equal_zags a b hs hs2 rs rs2 ss ss2 ea eb =
    let p = ap tree_of_arrow ea ∙ tree_of_arrow-Zig hs rs ss in
    let q = ap tree_of_arrow eb ∙ tree_of_arrow-Zig hs2 rs2 ss2 in
    let i = zag_iff hs.items hs2.items (trees_of_arrows rs.items) (trees_of_arrows rs2.items) (trees_of_arrows ss.items) (trees_of_arrows ss2.items) in
    (λ e. i.0 (sym p ∙ e ∙ q), λ e. p ∙ i.1 e ∙ sym q)

pub equal_zigs : (a b : Diagram) (rs rs2 ss ss2 : Vec Diagram Global) (fs fs2 bs bs2 : Vec Arrow Global) → a ≡ diagram.Zig rs ss fs bs → b ≡ diagram.Zig rs2 ss2 fs2 bs2
    → (tree_of_diagram a ≡ tree_of_diagram b) ↔ (trees_of_diagrams rs.items ≡ trees_of_diagrams rs2.items) × (trees_of_diagrams ss.items ≡ trees_of_diagrams ss2.items)
    × (trees_of_arrows fs.items ≡ trees_of_arrows fs2.items) × (trees_of_arrows bs.items ≡ trees_of_arrows bs2.items)
equal_zigs a b rs rs2 ss ss2 fs fs2 bs bs2 ea eb =
    let p = ap tree_of_diagram ea ∙ tree_of_diagram-Zig rs ss fs bs in
    let q = ap tree_of_diagram eb ∙ tree_of_diagram-Zig rs2 ss2 fs2 bs2 in
    let i = zig_iff (trees_of_diagrams rs.items) (trees_of_diagrams rs2.items) (trees_of_diagrams ss.items) (trees_of_diagrams ss2.items) (trees_of_arrows fs.items) (trees_of_arrows fs2.items) (trees_of_arrows bs.items) (trees_of_arrows bs2.items) in
    (λ e. i.0 (sym p ∙ e ∙ q), λ e. p ∙ i.1 e ∙ sym q)

-- what is below a diagram of dimension m whose first regular slice is the first of rs
pub record IsAbove (m : ℕ) (rs : List Tree) : Type 0 where
  pub below : ℕ
  pub above : m ≡ suc below
  pub nonempty : 0 < length rs
  pub first_is : IsDiagram below (get_or rs 0 nil)

zig_above : (m : ℕ) (rs ss fs bs : List Tree) → IsDiagram m (zig rs ss fs bs) → IsAbove m rs
zig_above zero rs ss fs bs h = absurd (omega (arith, sym (kind-zig rs ss fs bs) ∙ ap kind h ∙ kind-point _))
zig_above (suc m) rs ss fs bs h =
    let e = regs-zig rs ss fs bs in
    let n : length rs ≡ suc (length (sings (zig rs ss fs bs))) = ap length (sym e) ∙ h.regs_len in
    record { below = m; above = refl; nonempty = omega arith; first_is = subst (λ ts. IsDiagram m (get_or ts 0 nil)) e (h.regs_are 0 (omega arith)) }

point_at_zero : (m : ℕ) (x : Label) → IsDiagram m (point x) → m ≡ 0
point_at_zero zero x h = refl
point_at_zero (suc m) x h = absurd (omega (arith, sym (kind-point x) ∙ ap kind h.is_zig ∙ kind-zig _ _ _ _))

-- one step down
pub diagram_above : (m : ℕ) (a : Diagram) (rs ss : Vec Diagram Global) (fs bs : Vec Arrow Global) → a ≡ diagram.Zig rs ss fs bs
    → IsDiagram m (tree_of_diagram a) → IsAbove m (trees_of_diagrams rs.items)
diagram_above m a rs ss fs bs e h = zig_above m _ _ _ _ (subst (IsDiagram m) (ap tree_of_diagram e ∙ tree_of_diagram-Zig rs ss fs bs) h)

pub diagram_at_zero : (m : ℕ) (a : Diagram) (x : Label) → a ≡ diagram.Zero x → IsDiagram m (tree_of_diagram a) → m ≡ 0
diagram_at_zero m a x e h = point_at_zero m _ (subst (IsDiagram m) (ap tree_of_diagram e ∙ tree_of_diagram-Zero x) h)

pub first_tree : (ds : List Diagram) (a : Diagram) → 0 < length ds → a ≡ get_or ds 0 a → get_or (trees_of_diagrams ds) 0 nil ≡ tree_of_diagram a
first_tree ds a l e = get_or-map tree_of_diagram ds 0 a nil l ∙ ap tree_of_diagram (sym e)
