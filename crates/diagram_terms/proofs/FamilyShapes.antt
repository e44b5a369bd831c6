-- The diagrams and arrows of the family whose lengths fit at every level are those whose trees have the right shape.
use Rattle.std.proofs.Common.{◌≡◌, ℕ, zero, suc, ◌<◌, ◌≤◌, List, length, get_or, sym, ◌∙◌, ap, arith, subst}
use Rattle.diagram_terms.specs.Tree.{Tree, regs, sings}
use Rattle.diagram_terms.specs.Family.{Dia, Arr, reg, sing, fwd, bwd, height, arrow_reg, arrow_sing}
use Rattle.diagram_terms.specs.Dual.{IsMonotone}
use Rattle.diagram_terms.specs.Decoded.{dia, arr, dia_tree, arr_tree}
use Rattle.diagram_terms.specs.Shape.{IsDiagram, IsArrow, reg_at, sing_at, fwd_at, bwd_at}
use Rattle.diagram_terms.specs.Valid.{ValidArrow, Valid}
use Rattle.diagram_terms.proofs.Glue.{dia-dia_tree, arr-arr_tree, dia-regs_len, dia-sings_len, dia-fwds_len, dia-bwds_len, dia-reg, dia-sing, dia-fwd, dia-bwd, arr-regs_len, arr-sings_len, arr-reg, arr-sing, dia_tree-regs_len, dia_tree-sings_len, dia_tree-fwds_len, dia_tree-bwds_len, dia_tree-reg, dia_tree-sing, dia_tree-fwd, dia_tree-bwd, heights-arr_tree, arr_tree-regs_len, arr_tree-sings_len, arr_tree-reg, arr_tree-sing}
use Rattle.diagram_terms.proofs.Shapes.{zig_again, zag_again, IsDiagram-point, IsArrow-ends}

-- one level of an arrow, where A says which slices fit
pub record ZagFits (d : ℕ) (A : Arr d → Type 0) (f : Arr (suc d)) : Type 0 where
  pub regs_len : 0 < length f.regs
  pub sings_len : length f.sings ≡ length f.heights
  pub monotone : IsMonotone f.heights
  pub below : (i : ℕ) → i < length f.heights → suc (height d f i) < length f.regs
  pub regs : (j : ℕ) → j < length f.regs → A (arrow_reg d f j)
  pub sings : (i : ℕ) → i < length f.sings → A (arrow_sing d f i)

abbrev pub ArrowFits : (d : ℕ) → Arr d → Type 0
ArrowFits zero f = Unit {0}
ArrowFits (suc d) f = ZagFits d (ArrowFits d) f

-- one level of a diagram, where D and A say which slices and legs fit
pub record ZigFits (d : ℕ) (D : Dia d → Type 0) (A : Arr d → Type 0) (X : Dia (suc d)) : Type 0 where
  pub regs_len : length X.regs ≡ suc (length X.sings)
  pub fwds_len : length X.fwds ≡ length X.sings
  pub bwds_len : length X.bwds ≡ length X.sings
  pub regs : (j : ℕ) → j ≤ length X.sings → D (reg d X j)
  pub sings : (i : ℕ) → i < length X.sings → D (sing d X i)
  pub fwds : (k : ℕ) → k < length X.sings → A (fwd d X k)
  pub bwds : (k : ℕ) → k < length X.sings → A (bwd d X k)

abbrev pub DiagramFits : (d : ℕ) → Dia d → Type 0
DiagramFits zero x = Unit {0}
DiagramFits (suc d) X = ZigFits d (DiagramFits d) (ArrowFits d) X

-- ---- what a tree of the right shape decodes to fits

pub arrow_fits : (d : ℕ) (t : Tree) → IsArrow d t → ArrowFits d (arr d t)
arrow_fits zero t h = tt
arrow_fits (suc d) t h =
    let rl = arr-regs_len d t in
    let sl = arr-sings_len d t in
    record {
      regs_len = omega (arith, h.regs_len);
      sings_len = sl ∙ h.sings_len;
      monotone = h.monotone;
      below = λ i l. omega (arith, h.below i l);
      regs = λ j l. let m : j < length (regs t) = omega arith in
          subst (ArrowFits d) (sym (arr-reg d t j m)) (arrow_fits d (reg_at t j) (h.regs_are j m));
      sings = λ i l. let m : i < length (sings t) = omega arith in
          subst (ArrowFits d) (sym (arr-sing d t i m)) (arrow_fits d (sing_at t i) (h.sings_are i m));
    }

pub diagram_fits : (d : ℕ) (t : Tree) → IsDiagram d t → DiagramFits d (dia d t)
diagram_fits zero t h = tt
diagram_fits (suc d) t h =
    let rl = dia-regs_len d t in
    let sl = dia-sings_len d t in
    record {
      regs_len = omega (arith, h.regs_len);
      fwds_len = dia-fwds_len d t ∙ h.fwds_len ∙ sym sl;
      bwds_len = dia-bwds_len d t ∙ h.bwds_len ∙ sym sl;
      regs = λ j l. let m : j ≤ length (sings t) = omega arith in
          subst (DiagramFits d) (sym (dia-reg d t h j m)) (diagram_fits d (reg_at t j) (h.regs_are j m));
      sings = λ i l. let m : i < length (sings t) = omega arith in
          subst (DiagramFits d) (sym (dia-sing d t h i m)) (diagram_fits d (sing_at t i) (h.sings_are i m));
      fwds = λ k l. let m : k < length (sings t) = omega arith in
          subst (ArrowFits d) (sym (dia-fwd d t h k m)) (arrow_fits d (fwd_at t k) (h.fwds_are k m));
      bwds = λ k l. let m : k < length (sings t) = omega arith in
          subst (ArrowFits d) (sym (dia-bwd d t h k m)) (arrow_fits d (bwd_at t k) (h.bwds_are k m));
    }

-- ---- what fits has a tree of the right shape

pub arrow_shape : (d : ℕ) (f : Arr d) → ArrowFits d f → IsArrow d (arr_tree d f)
arrow_shape zero f p = IsArrow-ends f.from f.to
arrow_shape (suc d) f p =
    let hs = heights-arr_tree d f in
    let hl = ap length hs in
    let rl = arr_tree-regs_len d f in
    let sl = arr_tree-sings_len d f in
    record {
      is_zag = zag_again _ _ _;
      regs_len = omega (arith, p.regs_len);
      sings_len = sl ∙ p.sings_len ∙ sym hl;
      monotone = subst IsMonotone (sym hs) p.monotone;
      below = λ i l.
          let q = p.below i (omega arith) in
          let e = ap (λ (ns : List ℕ). get_or ns i 0) hs in omega arith;
      regs_are = λ j l. let m : j < length f.regs = omega arith in
          subst (IsArrow d) (sym (arr_tree-reg d f j m)) (arrow_shape d (arrow_reg d f j) (p.regs j m));
      sings_are = λ i l. let m : i < length f.sings = omega arith in
          subst (IsArrow d) (sym (arr_tree-sing d f i m)) (arrow_shape d (arrow_sing d f i) (p.sings i m));
    }

pub diagram_shape : (d : ℕ) (X : Dia d) → DiagramFits d X → IsDiagram d (dia_tree d X)
diagram_shape zero x p = IsDiagram-point x
diagram_shape (suc d) X p =
    let rl = dia_tree-regs_len d X in
    let sl = dia_tree-sings_len d X in
    let fl = p.fwds_len in
    let bl = p.bwds_len in
    let n = p.regs_len in
    record {
      is_zig = zig_again _ _ _ _;
      regs_len = omega arith;
      fwds_len = dia_tree-fwds_len d X ∙ fl ∙ sym sl;
      bwds_len = dia_tree-bwds_len d X ∙ bl ∙ sym sl;
      regs_are = λ j l. let m : j ≤ length X.sings = omega arith in
          subst (IsDiagram d) (sym (dia_tree-reg d X j (omega arith))) (diagram_shape d (reg d X j) (p.regs j m));
      sings_are = λ i l. let m : i < length X.sings = omega arith in
          subst (IsDiagram d) (sym (dia_tree-sing d X i m)) (diagram_shape d (sing d X i) (p.sings i m));
      fwds_are = λ k l. let m : k < length X.sings = omega arith in
          subst (IsArrow d) (sym (dia_tree-fwd d X k (omega arith))) (arrow_shape d (fwd d X k) (p.fwds k m));
      bwds_are = λ k l. let m : k < length X.sings = omega arith in
          subst (IsArrow d) (sym (dia_tree-bwd d X k (omega arith))) (arrow_shape d (bwd d X k) (p.bwds k m));
    }

-- so a diagram or an arrow fits exactly if its tree has the right shape
pub arrow_fits_from : (d : ℕ) (f : Arr d) → IsArrow d (arr_tree d f) → ArrowFits d f
arrow_fits_from d f h = subst (ArrowFits d) (arr-arr_tree d f) (arrow_fits d (arr_tree d f) h)

pub diagram_fits_from : (d : ℕ) (X : Dia d) → IsDiagram d (dia_tree d X) → DiagramFits d X
diagram_fits_from d X h = subst (DiagramFits d) (dia-dia_tree d X) (diagram_fits d (dia_tree d X) h)

-- ---- what is valid fits

pub valid_arrow_fits : (d : ℕ) (X Y : Dia d) (f : Arr d) → ValidArrow d X Y f → ArrowFits d f
valid_arrow_fits zero X Y f v = tt
valid_arrow_fits (suc d) X Y f v =
    let hl = v.heights_len in
    let rl = v.regs_len in
    let sl = v.sings_len in
    record {
      regs_len = omega arith;
      sings_len = omega arith;
      monotone = v.monotone;
      below = λ i l. omega (arith, v.below.below i l);
      regs = λ j l. valid_arrow_fits d _ _ (arrow_reg d f j) (v.regs j (omega arith));
      sings = λ i l. valid_arrow_fits d _ _ (arrow_sing d f i) (v.sings i (omega arith));
    }

pub valid_fits : (d : ℕ) (X : Dia d) → Valid d X → DiagramFits d X
valid_fits zero X v = tt
valid_fits (suc d) X v = record {
  regs_len = v.regs_len;
  fwds_len = v.fwds_len;
  bwds_len = v.bwds_len;
  regs = λ j l. valid_fits d (reg d X j) (v.regs j l);
  sings = λ i l. valid_fits d (sing d X i) (v.sings i l);
  fwds = λ k l. valid_arrow_fits d _ _ (fwd d X k) (v.fwds k l);
  bwds = λ k l. valid_arrow_fits d _ _ (bwd d X k) (v.bwds k l);
}
