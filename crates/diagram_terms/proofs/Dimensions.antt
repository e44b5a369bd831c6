-- A tree of the shape of a diagram or an arrow of a dimension has that dimension, and its parts have one less.
use Rattle.std.proofs.Common.{◌≡◌, ℕ, zero, suc, ◌<◌, List, [], ◌∷◌, length, get_or, sym, ap, ◌∙◌, arith, subst}
use Rattle.diagram_terms.specs.declared.label.Label.{Label}
use Rattle.diagram_terms.specs.Tree.{Tree, nil, point, zig, ends, zag, label_at, from_at, to_at, regs, sings, fwds, bwds, heights}
use Rattle.diagram_terms.specs.Shape.{IsDiagram, IsArrow, reg_at, sing_at, fwd_at, bwd_at}
use Rattle.diagram_terms.specs.Dimension.{dimension_of, dimension_of-point, dimension_of-ends, dimension_of-zig, dimension_of-zag, IsDiagramTree, IsArrowTree}
use Rattle.diagram_terms.proofs.Shapes.{IsDiagram-point, IsArrow-ends}

pub dimension_of-zig_first : (rs ss fs bs : List Tree) → 0 < length rs
    → dimension_of (zig rs ss fs bs) ≡ suc (dimension_of (get_or rs 0 nil))
dimension_of-zig_first [] ss fs bs l = absurd (omega arith)
dimension_of-zig_first (r ∷ rs) ss fs bs l = dimension_of-zig r rs ss fs bs

pub dimension_of-zag_first : (hs : List ℕ) (rs ss : List Tree) → 0 < length rs
    → dimension_of (zag hs rs ss) ≡ suc (dimension_of (get_or rs 0 nil))
dimension_of-zag_first hs [] ss l = absurd (omega arith)
dimension_of-zag_first hs (r ∷ rs) ss l = dimension_of-zag hs r rs ss

-- the dimension is the one of the shape
pub diagram_dimension : (d : ℕ) (t : Tree) → IsDiagram d t → dimension_of t ≡ d
diagram_dimension zero t h = ap dimension_of h ∙ dimension_of-point (label_at t)
diagram_dimension (suc d) t h =
    let n = h.regs_len in
    let l : 0 < length (regs t) = omega arith in
    ap dimension_of h.is_zig ∙ dimension_of-zig_first (regs t) (sings t) (fwds t) (bwds t) l
    ∙ ap suc (diagram_dimension d (reg_at t 0) (h.regs_are 0 (omega arith)))

pub arrow_dimension : (d : ℕ) (t : Tree) → IsArrow d t → dimension_of t ≡ d
arrow_dimension zero t h = ap dimension_of h ∙ dimension_of-ends (from_at t) (to_at t)
arrow_dimension (suc d) t h =
    ap dimension_of h.is_zag ∙ dimension_of-zag_first (heights t) (regs t) (sings t) h.regs_len
    ∙ ap suc (arrow_dimension d (reg_at t 0) (h.regs_are 0 h.regs_len))

pub diagram_tree : (d : ℕ) (t : Tree) → IsDiagram d t → IsDiagramTree t
diagram_tree d t h = subst (λ n. IsDiagram n t) (sym (diagram_dimension d t h)) h

pub arrow_tree : (d : ℕ) (t : Tree) → IsArrow d t → IsArrowTree t
arrow_tree d t h = subst (λ n. IsArrow n t) (sym (arrow_dimension d t h)) h

-- the shape at a dimension that is known otherwise
pub diagram_of_dimension : (d : ℕ) (t : Tree) → IsDiagramTree t → dimension_of t ≡ d → IsDiagram d t
diagram_of_dimension d t h e = subst (λ n. IsDiagram n t) e h

pub arrow_of_dimension : (d : ℕ) (t : Tree) → IsArrowTree t → dimension_of t ≡ d → IsArrow d t
arrow_of_dimension d t h e = subst (λ n. IsArrow n t) e h

-- the trees of dimension 0
pub IsDiagramTree-point : (x : Label) → IsDiagramTree (point x)
IsDiagramTree-point x = diagram_tree zero (point x) (IsDiagram-point x)

pub IsArrowTree-ends : (x y : Label) → IsArrowTree (ends x y)
IsArrowTree-ends x y = arrow_tree zero (ends x y) (IsArrow-ends x y)

pub ruleset labels = (IsDiagramTree-point, IsArrowTree-ends, dimension_of-point, dimension_of-ends)

-- ---- the parts of a tree of dimension 1 or more

-- a diagram has one regular slice more than singular ones, two legs into each of these, and parts of one dimension less
pub record DiagramParts (t : Tree) : Type 0 where
  pub regs_len : length (regs t) ≡ suc (length (sings t))
  pub fwds_len : length (fwds t) ≡ length (sings t)
  pub bwds_len : length (bwds t) ≡ length (sings t)
  pub regs : (j : ℕ) → j < length (regs t) → IsDiagramTree (reg_at t j) × (suc (dimension_of (reg_at t j)) ≡ dimension_of t)
  pub sings : (i : ℕ) → i < length (sings t)
      → IsDiagramTree (sing_at t i) × (suc (dimension_of (sing_at t i)) ≡ dimension_of t)
  pub fwds : (k : ℕ) → k < length (fwds t) → IsArrowTree (fwd_at t k) × (suc (dimension_of (fwd_at t k)) ≡ dimension_of t)
  pub bwds : (k : ℕ) → k < length (bwds t) → IsArrowTree (bwd_at t k) × (suc (dimension_of (bwd_at t k)) ≡ dimension_of t)

module _ (n d : ℕ) (e : n ≡ suc d) where
  diagram_part : (t : Tree) → IsDiagram d t → IsDiagramTree t × (suc (dimension_of t) ≡ n)
  diagram_part t h = (diagram_tree d t h, omega (arith, diagram_dimension d t h))

  arrow_part : (t : Tree) → IsArrow d t → IsArrowTree t × (suc (dimension_of t) ≡ n)
  arrow_part t h = (arrow_tree d t h, omega (arith, arrow_dimension d t h))

diagram_parts_at : (d : ℕ) (t : Tree) → IsDiagram (suc d) t → DiagramParts t
diagram_parts_at d t h =
    let k = diagram_dimension (suc d) t h in
    let rl = h.regs_len in
    let fl = h.fwds_len in
    let bl = h.bwds_len in
    record {
      regs_len = rl;
      fwds_len = fl;
      bwds_len = bl;
      regs = λ j l. diagram_part (dimension_of t) d k (reg_at t j) (h.regs_are j (omega arith));
      sings = λ i l. diagram_part (dimension_of t) d k (sing_at t i) (h.sings_are i l);
      fwds = λ i l. arrow_part (dimension_of t) d k (fwd_at t i) (h.fwds_are i (omega arith));
      bwds = λ i l. arrow_part (dimension_of t) d k (bwd_at t i) (h.bwds_are i (omega arith));
    }

diagram_parts_above : (n : ℕ) (t : Tree) → IsDiagram n t → 0 < n → DiagramParts t
diagram_parts_above zero t h l = absurd (omega arith)
diagram_parts_above (suc d) t h l = diagram_parts_at d t h

pub diagram_parts_of : (t : Tree) → IsDiagramTree t → 0 < dimension_of t → DiagramParts t
diagram_parts_of t h l = diagram_parts_above (dimension_of t) t h l

-- an arrow has a singular slice for each height, and parts of one dimension less
pub record ArrowParts (t : Tree) : Type 0 where
  pub regs_len : 0 < length (regs t)
  pub sings_len : length (sings t) ≡ length (heights t)
  pub below : (i : ℕ) → i < length (heights t) → suc (get_or (heights t) i 0) < length (regs t)
  pub regs : (j : ℕ) → j < length (regs t) → IsArrowTree (reg_at t j) × (suc (dimension_of (reg_at t j)) ≡ dimension_of t)
  pub sings : (i : ℕ) → i < length (sings t)
      → IsArrowTree (sing_at t i) × (suc (dimension_of (sing_at t i)) ≡ dimension_of t)

arrow_parts_above : (n : ℕ) (t : Tree) → IsArrow n t → 0 < n → ArrowParts t
arrow_parts_above zero t h l = absurd (omega arith)
arrow_parts_above (suc d) t h l =
    let k = arrow_dimension (suc d) t h in
    record {
      regs_len = h.regs_len;
      sings_len = h.sings_len;
      below = h.below;
      regs = λ j l. arrow_part (dimension_of t) d k (reg_at t j) (h.regs_are j l);
      sings = λ i l. arrow_part (dimension_of t) d k (sing_at t i) (h.sings_are i l);
    }

pub arrow_parts_of : (t : Tree) → IsArrowTree t → 0 < dimension_of t → ArrowParts t
arrow_parts_of t h l = arrow_parts_above (dimension_of t) t h l

-- a tree without parts of a kind has dimension 0
above_from : (n : ℕ) (t : Tree) → IsDiagram n t → (m : ℕ) → (IsDiagram zero t → m ≡ 0) → 0 < m → 0 < n
above_from zero t h m e l = absurd (omega (arith, e h))
above_from (suc d) t h m e l = omega arith

length-regs_zero : (t : Tree) → IsDiagram zero t → length (regs t) ≡ 0
unfolding regs point
length-regs_zero t h = ap (λ u. length (regs u)) h

length-sings_zero : (t : Tree) → IsDiagram zero t → length (sings t) ≡ 0
unfolding sings point
length-sings_zero t h = ap (λ u. length (sings u)) h

length-fwds_zero : (t : Tree) → IsDiagram zero t → length (fwds t) ≡ 0
unfolding fwds point
length-fwds_zero t h = ap (λ u. length (fwds u)) h

length-bwds_zero : (t : Tree) → IsDiagram zero t → length (bwds t) ≡ 0
unfolding bwds point
length-bwds_zero t h = ap (λ u. length (bwds u)) h

-- ---- in the form that searches apply

-- a diagram above dimension 0 has one regular slice more than singular ones
pub length-regs : (t : Tree) → IsDiagramTree t → 0 < dimension_of t → length (regs t) ≡ suc (length (sings t))
length-regs t h l = (diagram_parts_of t h l).regs_len

pub length-fwds : (t : Tree) → IsDiagramTree t → 0 < dimension_of t → length (fwds t) ≡ length (sings t)
length-fwds t h l = (diagram_parts_of t h l).fwds_len

pub length-bwds : (t : Tree) → IsDiagramTree t → 0 < dimension_of t → length (bwds t) ≡ length (sings t)
length-bwds t h l = (diagram_parts_of t h l).bwds_len

pub length-arrow_sings : (t : Tree) → IsArrowTree t → 0 < dimension_of t → length (sings t) ≡ length (heights t)
length-arrow_sings t h l = (arrow_parts_of t h l).sings_len

-- a part has one dimension less
pub dimension_of-reg_at : (t : Tree) (j : ℕ) → IsDiagramTree t → j < length (regs t)
    → suc (dimension_of (reg_at t j)) ≡ dimension_of t
dimension_of-reg_at t j h l =
    ((diagram_parts_of t h (above_from (dimension_of t) t h (length (regs t)) (length-regs_zero t) (omega arith))).regs j l).1

pub dimension_of-sing_at : (t : Tree) (i : ℕ) → IsDiagramTree t → i < length (sings t)
    → suc (dimension_of (sing_at t i)) ≡ dimension_of t
dimension_of-sing_at t i h l =
    ((diagram_parts_of t h (above_from (dimension_of t) t h (length (sings t)) (length-sings_zero t)
    (omega arith))).sings i l).1

pub dimension_of-fwd_at : (t : Tree) (k : ℕ) → IsDiagramTree t → k < length (fwds t)
    → suc (dimension_of (fwd_at t k)) ≡ dimension_of t
dimension_of-fwd_at t k h l =
    ((diagram_parts_of t h (above_from (dimension_of t) t h (length (fwds t)) (length-fwds_zero t) (omega arith))).fwds k l).1

pub dimension_of-bwd_at : (t : Tree) (k : ℕ) → IsDiagramTree t → k < length (bwds t)
    → suc (dimension_of (bwd_at t k)) ≡ dimension_of t
dimension_of-bwd_at t k h l =
    ((diagram_parts_of t h (above_from (dimension_of t) t h (length (bwds t)) (length-bwds_zero t) (omega arith))).bwds k l).1

pub dimension_of-arrow_reg : (t : Tree) (j : ℕ) → IsArrowTree t → 0 < dimension_of t → j < length (regs t)
    → suc (dimension_of (reg_at t j)) ≡ dimension_of t
dimension_of-arrow_reg t j h l k = ((arrow_parts_of t h l).regs j k).1

pub dimension_of-arrow_sing : (t : Tree) (i : ℕ) → IsArrowTree t → 0 < dimension_of t → i < length (sings t)
    → suc (dimension_of (sing_at t i)) ≡ dimension_of t
dimension_of-arrow_sing t i h l k = ((arrow_parts_of t h l).sings i k).1

pub ruleset diagram_dimensions = (
  length-regs,
  length-fwds,
  length-bwds,
  dimension_of-reg_at,
  dimension_of-sing_at,
  dimension_of-fwd_at,
  dimension_of-bwd_at,
)

pub ruleset arrow_dimensions = (length-arrow_sings, dimension_of-arrow_reg, dimension_of-arrow_sing)
