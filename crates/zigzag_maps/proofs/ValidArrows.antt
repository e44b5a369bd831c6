-- Valid arrows between valid diagrams, on trees: their slices and the legs of their ends.
use Rattle.std.proofs.Common.{◌≡◌, ℕ, zero, suc, ◌<◌, ◌≤◌, length, get_or, sym, subst, ◌∙◌, arith}
use Rattle.diagram_terms.specs.Tree.{Tree, heights, regs, sings}
use Rattle.diagram_terms.specs.Family.{Dia, Arr, reg}
use Rattle.diagram_terms.specs.Decoded.{dia}
use Rattle.diagram_terms.specs.Dual.{dual}
use Rattle.diagram_terms.specs.Shape.{IsDiagram, IsArrow, reg_at, sing_at, fwd_at, bwd_at}
use Rattle.diagram_terms.specs.Dimension.{dimension_of, IsDiagramTree}
use Rattle.diagram_terms.specs.Valid.{Valid, ValidArrow}
use Rattle.diagram_terms.specs.ValidTrees.{IsValidTreeAt, IsValidTree, IsArrowBetween}
use Rattle.diagram_terms.proofs.Dimensions.{arrow_dimension, diagram_dimension, diagram_tree}
use Rattle.diagram_terms.proofs.Duals.{dual-le-length}
use Rattle.diagram_terms.proofs.Glue.{dia-reg, dia-sing, dia-fwd, dia-bwd, dia-sings_len, arr-reg, arr-sing, arr-regs_len}
use Rattle.diagram_terms.proofs.Shapes.{one_diagram_dimension}
use Rattle.zigzag_maps.specs.MapTrees.{IsValidArrowAt, IsValidArrowTree}

-- ---- valid arrows between valid diagrams

valid_at : (d : ℕ) (t : Tree) → IsDiagram d t → IsValidTree t → IsValidTreeAt d t
valid_at d t h v = subst (λ (n : ℕ). IsValidTreeAt n t) (one_diagram_dimension v.dim d t v.at_dim.shape h) v.at_dim

pub valid_arrow : (s t f : Tree) → IsValidTree s → IsValidTree t → IsArrowBetween s t f → IsValidArrowTree s t f
valid_arrow s t f v w a = record {
  dim = a.dim;
  at_dim = record {
    source = valid_at a.dim s a.at_dim.source v;
    target = valid_at a.dim t a.at_dim.target w;
    shape = a.at_dim.shape;
    valid = a.at_dim.valid;
  };
}

pub between_of : (s t f : Tree) → IsValidArrowTree s t f → IsArrowBetween s t f
between_of s t f v = record {
  dim = v.dim;
  at_dim = record { source = v.at_dim.source.shape; target = v.at_dim.target.shape; shape = v.at_dim.shape; valid = v.at_dim.valid };
}

same_valid : (d : ℕ) (X Y Z W : Dia d) (f g : Arr d) → X ≡ Z → Y ≡ W → f ≡ g → ValidArrow d X Y f → ValidArrow d Z W g
same_valid d X Y Z W f g p q r h = subst (λ (A : Dia d). ValidArrow d A W g) p (subst (λ (B : Dia d). ValidArrow d X B g) q (subst (ValidArrow d X Y) r h))

-- ---- the slices and legs of a valid diagram

module _ (d : ℕ) (t : Tree) (v : IsValidTreeAt (suc d) t) where
  pub reg_tree : (j : ℕ) → j ≤ length (sings t) → IsValidTreeAt d (reg_at t j)
  reg_tree j l = record {
    shape = v.shape.regs_are j l;
    valid = subst (Valid d) (dia-reg d t v.shape j l) (v.valid.regs j (omega (arith, dia-sings_len d t)));
  }

  pub sing_tree : (i : ℕ) → i < length (sings t) → IsValidTreeAt d (sing_at t i)
  sing_tree i l = record {
    shape = v.shape.sings_are i l;
    valid = subst (Valid d) (dia-sing d t v.shape i l) (v.valid.sings i (omega (arith, dia-sings_len d t)));
  }

  pub fwd_at_is : (k : ℕ) → k < length (sings t) → IsValidArrowAt d (reg_at t k) (sing_at t k) (fwd_at t k)
  fwd_at_is k l = record {
    source = reg_tree k (omega arith);
    target = sing_tree k l;
    shape = v.shape.fwds_are k l;
    valid = same_valid d _ _ _ _ _ _ (dia-reg d t v.shape k (omega arith)) (dia-sing d t v.shape k l) (dia-fwd d t v.shape k l)
        (v.valid.fwds k (omega (arith, dia-sings_len d t)));
  }

  pub bwd_at_is : (k : ℕ) → k < length (sings t) → IsValidArrowAt d (reg_at t (suc k)) (sing_at t k) (bwd_at t k)
  bwd_at_is k l = record {
    source = reg_tree (suc k) l;
    target = sing_tree k l;
    shape = v.shape.bwds_are k l;
    valid = same_valid d _ _ _ _ _ _ (dia-reg d t v.shape (suc k) l) (dia-sing d t v.shape k l) (dia-bwd d t v.shape k l)
        (v.valid.bwds k (omega (arith, dia-sings_len d t)));
  }

-- ---- the slices of a valid arrow

module _ (d : ℕ) (s t f : Tree) (v : IsValidArrowAt (suc d) s t f) where
  pub dual_in : (k : ℕ) → dual (heights f) k ≤ length (sings s)
  dual_in k = let a = dual-le-length (heights f) k in let b = v.valid.heights_len in let c = dia-sings_len d s in omega arith

  pub regs_is : length (regs f) ≡ suc (length (sings t))
  regs_is = let a = arr-regs_len d f in let b = v.valid.regs_len in let c = dia-sings_len d t in omega arith

  pub heights_is : length (heights f) ≡ length (sings s)
  heights_is = let b = v.valid.heights_len in let c = dia-sings_len d s in omega arith

  pub height_in : (i : ℕ) → i < length (heights f) → get_or (heights f) i 0 < length (sings t)
  height_in i l = let b = v.valid.below.below i l in let c = dia-sings_len d t in omega arith

  pub sings_is : length (sings f) ≡ length (heights f)
  sings_is = v.shape.sings_len

  pub reg_source : (k : ℕ) → reg d (dia (suc d) s) (dual (heights f) k) ≡ dia d (reg_at s (dual (heights f) k))
  reg_source k = dia-reg d s v.source.shape (dual (heights f) k) (dual_in k)

  pub reg_is : (k : ℕ) → k < length (regs f) → IsValidArrowAt d (reg_at s (dual (heights f) k)) (reg_at t k) (reg_at f k)
  reg_is k l = record {
    source = reg_tree d s v.source (dual (heights f) k) (dual_in k);
    target = reg_tree d t v.target k (omega (arith, regs_is));
    shape = v.shape.regs_are k l;
    valid = same_valid d _ _ _ _ _ _ (reg_source k) (dia-reg d t v.target.shape k (omega (arith, regs_is))) (arr-reg d f k l)
        (v.valid.regs k (omega (arith, regs_is, dia-sings_len d t)));
  }

  pub sing_is : (i : ℕ) → i < length (heights f) → IsValidArrowAt d (sing_at s i) (sing_at t (get_or (heights f) i 0)) (sing_at f i)
  sing_is i l =
      let m : i < length (sings s) = omega (arith, heights_is) in
      let n : i < length (sings f) = omega (arith, sings_is) in
      record {
        source = sing_tree d s v.source i m;
        target = sing_tree d t v.target (get_or (heights f) i 0) (height_in i l);
        shape = v.shape.sings_are i n;
        valid = same_valid d _ _ _ _ _ _ (dia-sing d s v.source.shape i m) (dia-sing d t v.target.shape (get_or (heights f) i 0) (height_in i l)) (arr-sing d f i n)
            (v.valid.sings i (omega (arith, heights_is, dia-sings_len d s)));
      }

-- ---- at any dimension above 0

pub record HasMapParts (s t f : Tree) : Type 0 where
  pub dual_in : (k : ℕ) → dual (heights f) k ≤ length (sings s)
  pub regs_len : length (regs f) ≡ suc (length (sings t))
  pub heights_len : length (heights f) ≡ length (sings s)
  pub below : (i : ℕ) → i < length (heights f) → get_or (heights f) i 0 < length (sings t)
  pub regs : (k : ℕ) → k < length (regs f) → IsValidArrowTree (reg_at s (dual (heights f) k)) (reg_at t k) (reg_at f k)
  pub sings : (i : ℕ) → i < length (heights f) → IsValidArrowTree (sing_at s i) (sing_at t (get_or (heights f) i 0)) (sing_at f i)

parts_above : (n : ℕ) (s t f : Tree) → IsValidArrowAt n s t f → 0 < n → HasMapParts s t f
parts_above zero s t f v l = absurd (omega arith)
parts_above (suc d) s t f v l = record {
  dual_in = dual_in d s t f v;
  regs_len = regs_is d s t f v;
  heights_len = heights_is d s t f v;
  below = height_in d s t f v;
  regs = λ k l. record { dim = d; at_dim = reg_is d s t f v k l };
  sings = λ i l. record { dim = d; at_dim = sing_is d s t f v i l };
}

pub valid_parts : (s t f : Tree) → IsValidArrowTree s t f → 0 < dimension_of f → HasMapParts s t f
valid_parts s t f v l = parts_above v.dim s t f v.at_dim (omega (arith, arrow_dimension v.dim f v.at_dim.shape))

legs_above : (n : ℕ) (t : Tree) → IsValidTreeAt n t → 0 < n → (k : ℕ) → k < length (sings t)
    → IsValidArrowTree (reg_at t k) (sing_at t k) (fwd_at t k) × IsValidArrowTree (reg_at t (suc k)) (sing_at t k) (bwd_at t k)
legs_above zero t v l k m = absurd (omega arith)
legs_above (suc d) t v l k m = (record { dim = d; at_dim = fwd_at_is d t v k m }, record { dim = d; at_dim = bwd_at_is d t v k m })

pub valid_legs : (t : Tree) → IsValidTree t → 0 < dimension_of t → (k : ℕ) → k < length (sings t)
    → IsValidArrowTree (reg_at t k) (sing_at t k) (fwd_at t k) × IsValidArrowTree (reg_at t (suc k)) (sing_at t k) (bwd_at t k)
valid_legs t v l k m = legs_above v.dim t v.at_dim (omega (arith, diagram_dimension v.dim t v.at_dim.shape)) k m

pub source_dimension : (s t f : Tree) → IsArrowBetween s t f → dimension_of s ≡ dimension_of f
source_dimension s t f a = diagram_dimension a.dim s a.at_dim.source ∙ sym (arrow_dimension a.dim f a.at_dim.shape)

pub target_dimension : (s t f : Tree) → IsArrowBetween s t f → dimension_of t ≡ dimension_of f
target_dimension s t f a = diagram_dimension a.dim t a.at_dim.target ∙ sym (arrow_dimension a.dim f a.at_dim.shape)

pub valid_shape : (t : Tree) → IsValidTree t → IsDiagramTree t
valid_shape t v = diagram_tree v.dim t v.at_dim.shape

sings_above : (n : ℕ) (f : Tree) → IsArrow n f → 0 < n → length (sings f) ≡ length (heights f)
sings_above zero f h l = absurd (omega arith)
sings_above (suc d) f h l = h.sings_len

pub arrow_sings_len : (s t f : Tree) → IsValidArrowTree s t f → 0 < dimension_of f → length (sings f) ≡ length (heights f)
arrow_sings_len s t f v l = sings_above v.dim f v.at_dim.shape (omega (arith, arrow_dimension v.dim f v.at_dim.shape))

pub valid_dimension : (s t f : Tree) → IsValidArrowTree s t f → dimension_of s ≡ dimension_of f
valid_dimension s t f v = source_dimension s t f (between_of s t f v)
