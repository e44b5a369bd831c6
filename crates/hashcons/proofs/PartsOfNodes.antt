-- The parts of a tree that a node describes.
use Rattle.std.proofs.Common.{◌≡◌, ℕ, ◌<◌, List, length, get_or, refl, sym, ap, ◌∙◌, arith, zero, suc}
use Rattle.std.proofs.lemmas.List.{get_or_default}
use Rattle.diagram_terms.specs.declared.label.Label.{Label}
use Rattle.diagram_terms.specs.Tree.{Tree, nil, kind, kind-zig, kind-zag, point, zig, zag, ends, regs, sings, fwds, bwds, heights, regs-zig, sings-zig, fwds-zig, bwds-zig, heights-zag, regs-zag, sings-zag}
use Rattle.diagram_terms.specs.Dual.{AreBelow}
use Rattle.diagram_terms.specs.Shape.{IsDiagram, IsArrow}
use Rattle.diagram_terms.specs.Dimension.{dimension_of, dimension_of-point, dimension_of-ends, IsDiagramTree, IsArrowTree}
use Rattle.diagram_terms.proofs.Shapes.{kind-diagram_zero, kind-arrow_zero}
use Rattle.diagram_terms.proofs.Dimensions.{dimension_of-zig_first, dimension_of-zag_first}
use Rattle.hashcons.proofs.TableTrees.{length-picked, get_or-picked}

pub length-regs_point : (x : Label) → length (regs (point x)) ≡ 0
unfolding regs point
length-regs_point x = refl

pub length-sings_point : (x : Label) → length (sings (point x)) ≡ 0
unfolding sings point
length-sings_point x = refl

pub length-fwds_point : (x : Label) → length (fwds (point x)) ≡ 0
unfolding fwds point
length-fwds_point x = refl

pub length-bwds_point : (x : Label) → length (bwds (point x)) ≡ 0
unfolding bwds point
length-bwds_point x = refl

pub below-at : (n : ℕ) (is : List ℕ) (j d : ℕ) → AreBelow is n → j < length is → get_or is j d < n
below-at n is j d b l = omega (arith, b.below j l, get_or_default is j d 0 l)

-- a node above dimension 0 has a first slice, of one dimension less
pub record HasFirst (t : Tree) (rs : List Tree) : Type 0 where
  pub nonempty : 0 < length rs
  pub dimension : dimension_of t ≡ suc (dimension_of (get_or rs 0 nil))

zig_nonempty : (d : ℕ) (t : Tree) (rs ss fs bs : List Tree) → zig rs ss fs bs ≡ t → IsDiagram d t → 0 < length rs
zig_nonempty zero t rs ss fs bs e h = absurd (omega (arith, sym (kind-zig rs ss fs bs) ∙ ap kind e ∙ kind-diagram_zero t h))
zig_nonempty (suc d) t rs ss fs bs e h =
    let n = h.regs_len in
    let k : length rs ≡ length (regs t) = ap length (sym (regs-zig rs ss fs bs) ∙ ap regs e) in
    omega arith

pub zig_first : (t : Tree) (rs ss fs bs : List Tree) → zig rs ss fs bs ≡ t → IsDiagramTree t → HasFirst t rs
zig_first t rs ss fs bs e h =
    let n = zig_nonempty (dimension_of t) t rs ss fs bs e h in
    record { nonempty = n; dimension = sym (ap dimension_of e) ∙ dimension_of-zig_first rs ss fs bs n }

zag_nonempty : (d : ℕ) (t : Tree) (hs : List ℕ) (rs ss : List Tree) → zag hs rs ss ≡ t → IsArrow d t → 0 < length rs
zag_nonempty zero t hs rs ss e h = absurd (omega (arith, sym (kind-zag hs rs ss) ∙ ap kind e ∙ kind-arrow_zero t h))
zag_nonempty (suc d) t hs rs ss e h =
    let n = h.regs_len in
    let k : length rs ≡ length (regs t) = ap length (sym (regs-zag hs rs ss) ∙ ap regs e) in
    omega arith

pub zag_first : (t : Tree) (hs : List ℕ) (rs ss : List Tree) → zag hs rs ss ≡ t → IsArrowTree t → HasFirst t rs
zag_first t hs rs ss e h =
    let n = zag_nonempty (dimension_of t) t hs rs ss e h in
    record { nonempty = n; dimension = sym (ap dimension_of e) ∙ dimension_of-zag_first hs rs ss n }

pub ruleset picks = (
  length-picked,
  get_or-picked,
  length-regs_point,
  length-sings_point,
  length-fwds_point,
  length-bwds_point,
  regs-zig,
  sings-zig,
  fwds-zig,
  bwds-zig,
  heights-zag,
  regs-zag,
  sings-zag,
  dimension_of-point,
  dimension_of-ends,
  dimension_of-zig_first,
  dimension_of-zag_first,
  below-at,
)
