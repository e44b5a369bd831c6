-- A degeneracy on trees, told by its shape.
use Rattle.std.proofs.Common.{◌≡◌, ◌↔◌, ℕ, zero, suc, ◌<◌, length, get_or, sym, ap, subst, ◌∙◌, arith}
use Rattle.diagram_terms.specs.Tree.{Tree, heights, regs, sings, from_at, to_at}
use Rattle.diagram_terms.specs.Family.{Dia, Arr, fwd, bwd, arrow_reg}
use Rattle.diagram_terms.specs.Decoded.{dia, arr}
use Rattle.diagram_terms.specs.Composite.{comp}
use Rattle.diagram_terms.specs.Dual.{dual}
use Rattle.diagram_terms.specs.Shape.{IsArrow, reg_at, sing_at, fwd_at, bwd_at}
use Rattle.diagram_terms.specs.Dimension.{dimension_of}
use Rattle.diagram_terms.specs.Degeneracy.{Degeneracy, DegeneracyByShape}
use Rattle.diagram_terms.proofs.Dimensions.{arrow_dimension}
use Rattle.diagram_terms.proofs.Glue.{arr-arr_tree, dia-reg, dia-sing, dia-fwd, dia-bwd, dia-sings_len, arr-reg, arr-sing}
use Rattle.diagram_terms.proofs.Shapes.{one_diagram_dimension}
use Rattle.degeneracy_laws.proofs.Shapes.{degeneracies_have_shape}
use Rattle.degeneracy_laws.proofs.Splits.{shape_means_degeneracy}
use Rattle.diagram_terms.specs.Operations.{composite_tree}
use Rattle.diagram_terms.specs.ValidTrees.{IsValidTreeAt, AreComposableAt}
use Rattle.zigzag_maps.proofs.CompositeSlices.{composite_shape}
use Rattle.diagram_terms.proofs.NotionsOnTrees.{on_arrow_at}
use Rattle.degeneracy.specs.DegeneracyTrees.{IsDegeneracyTree}
use Rattle.zigzag_maps.specs.MapTrees.{IsValidArrowAt, IsValidArrowTree}
use Rattle.zigzag_maps.proofs.ValidArrows.{sing_tree, fwd_at_is, bwd_at_is, regs_is, heights_is, height_in, reg_source, reg_is, sing_is, sings_is}
use Rattle.degeneracy.specs.DegeneracyShapes.{HasDegeneracyShape}

same_shape : (d : ℕ) (X Y Z W : Dia d) (f g : Arr d) → X ≡ Z → Y ≡ W → f ≡ g → DegeneracyByShape d X Y f → DegeneracyByShape d Z W g
same_shape d X Y Z W f g p q r h =
    subst (λ (A : Dia d). DegeneracyByShape d A W g) p (subst (λ (B : Dia d). DegeneracyByShape d X B g) q (subst (DegeneracyByShape d X Y) r h))

-- ---- the composites into a singular slice

module _ (d : ℕ) (s t f : Tree) (v : IsValidArrowAt (suc d) s t f) where
  -- the arrows of the two composites at k meet
  pub fwd_meets : (k : ℕ) → k < length (sings t) → AreComposableAt d (fwd_at t k) (reg_at f k)
  fwd_meets k l =
      let x = reg_is d s t f v k (omega (arith, regs_is d s t f v)) in
      let y = fwd_at_is d t v.target k l in
      record { outer = y.shape; inner = x.shape; source = dia d (reg_at s (dual (heights f) k)); middle = dia d (reg_at t k); target = dia d (sing_at t k); inner_valid = x.valid; outer_valid = y.valid }

  pub bwd_meets : (k : ℕ) → k < length (sings t) → AreComposableAt d (bwd_at t k) (reg_at f (suc k))
  bwd_meets k l =
      let x = reg_is d s t f v (suc k) (omega (arith, regs_is d s t f v)) in
      let y = bwd_at_is d t v.target k l in
      record { outer = y.shape; inner = x.shape; source = dia d (reg_at s (dual (heights f) (suc k))); middle = dia d (reg_at t (suc k)); target = dia d (sing_at t k); inner_valid = x.valid; outer_valid = y.valid }

  pub fwd_edge : (k : ℕ) → k < length (sings t) → comp d (fwd d (dia (suc d) t) k) (arrow_reg d (arr (suc d) f) k) ≡ arr d (composite_tree (fwd_at t k) (reg_at f k))
  fwd_edge k l =
      let m : k < length (regs f) = omega (arith, regs_is d s t f v) in
      let p = dia-fwd d t v.target.shape k l in
      let q = arr-reg d f k m in
      (λ i. comp d (p i) (q i)) ∙ sym (ap (arr d) (on_arrow_at _ d (reg_at f k) (v.shape.regs_are k m)) ∙ arr-arr_tree d (comp d (arr d (fwd_at t k)) (arr d (reg_at f k))))

  pub bwd_edge : (k : ℕ) → k < length (sings t) → comp d (bwd d (dia (suc d) t) k) (arrow_reg d (arr (suc d) f) (suc k)) ≡ arr d (composite_tree (bwd_at t k) (reg_at f (suc k)))
  bwd_edge k l =
      let m : suc k < length (regs f) = omega (arith, regs_is d s t f v) in
      let p = dia-bwd d t v.target.shape k l in
      let q = arr-reg d f (suc k) m in
      (λ i. comp d (p i) (q i)) ∙ sym (ap (arr d) (on_arrow_at _ d (reg_at f (suc k)) (v.shape.regs_are (suc k) m)) ∙ arr-arr_tree d (comp d (arr d (bwd_at t k)) (arr d (reg_at f (suc k)))))

-- ---- the shape at a dimension

module _ (d : ℕ) (s t f : Tree) (vs : IsValidTreeAt d s) (vt : IsValidTreeAt d t) (shape : IsArrow d f) where
  to_tree : DegeneracyByShape d (dia d s) (dia d t) (arr d f) → IsDegeneracyTree s t f
  to_tree q = record {
    dim = d;
    at_dim = record { source = vs.shape; target = vt.shape; shape = shape; degeneracy = shape_means_degeneracy d (dia d s) (dia d t) (arr d f) vs.valid vt.valid q };
  }

  pub from_tree : IsDegeneracyTree s t f → DegeneracyByShape d (dia d s) (dia d t) (arr d f)
  from_tree h = degeneracies_have_shape d (dia d s) (dia d t) (arr d f)
      (subst (λ (n : ℕ). Degeneracy n (dia n s) (dia n t) (arr n f)) (one_diagram_dimension h.dim d s h.at_dim.source vs.shape) h.at_dim.degeneracy)

module _ (d : ℕ) (s t f : Tree) (v : IsValidArrowAt (suc d) s t f) where
  shape_from : IsDegeneracyTree s t f → HasDegeneracyShape s t f
  shape_from h =
      let z = from_tree (suc d) s t f v.source v.target v.shape h in
      let fl = regs_is d s t f v in
      let tl = dia-sings_len d t in
      let sl = dia-sings_len d s in
      let hl = heights_is d s t f v in
      record {
        increasing = z.increasing;
        regs = λ k l. (let x = reg_is d s t f v k l in
            to_tree d _ _ _ x.source x.target x.shape (same_shape d _ _ _ _ _ _ (reg_source d s t f v k) (dia-reg d t v.target.shape k (omega arith)) (arr-reg d f k l) (z.regs k (omega arith))));
        sings = λ i l. (let x = sing_is d s t f v i l in
            to_tree d _ _ _ x.source x.target x.shape (same_shape d _ _ _ _ _ _ (dia-sing d s v.source.shape i (omega arith)) (dia-sing d t v.target.shape (get_or (heights f) i 0) (height_in d s t f v i l))
            (arr-sing d f i (omega (arith, sings_is d s t f v))) (z.sings i (omega arith))));
        missed = λ k l e. record {
          fwd = let x = reg_is d s t f v k (omega arith) in
              to_tree d _ _ _ x.source (sing_tree d t v.target k l) (composite_shape d _ _ (fwd_meets d s t f v k l))
              (same_shape d _ _ _ _ _ _ (reg_source d s t f v k) (dia-sing d t v.target.shape k l) (fwd_edge d s t f v k l) (z.missed_fwds k (omega arith) e));
          bwd = let x = reg_is d s t f v (suc k) (omega arith) in
              to_tree d _ _ _ x.source (sing_tree d t v.target k l) (composite_shape d _ _ (bwd_meets d s t f v k l))
              (same_shape d _ _ _ _ _ _ (reg_source d s t f v (suc k)) (dia-sing d t v.target.shape k l) (bwd_edge d s t f v k l) (z.missed_bwds k (omega arith) e));
        };
      }

  shape_to : HasDegeneracyShape s t f → IsDegeneracyTree s t f
  shape_to z =
      let fl = regs_is d s t f v in
      let tl = dia-sings_len d t in
      let sl = dia-sings_len d s in
      let hl = heights_is d s t f v in
      to_tree (suc d) s t f v.source v.target v.shape (record {
        valid = v.valid;
        increasing = z.increasing;
        regs = λ k l. (let m : k < length (regs f) = omega arith in let x = reg_is d s t f v k m in
            same_shape d _ _ _ _ _ _ (sym (reg_source d s t f v k)) (sym (dia-reg d t v.target.shape k (omega arith))) (sym (arr-reg d f k m)) (from_tree d _ _ _ x.source x.target x.shape (z.regs k m)));
        sings = λ i l. (let m : i < length (heights f) = omega arith in let x = sing_is d s t f v i m in
            same_shape d _ _ _ _ _ _ (sym (dia-sing d s v.source.shape i (omega arith))) (sym (dia-sing d t v.target.shape (get_or (heights f) i 0) (height_in d s t f v i m)))
            (sym (arr-sing d f i (omega (arith, sings_is d s t f v)))) (from_tree d _ _ _ x.source x.target x.shape (z.sings i m)));
        missed_fwds = λ k l e. (let m : k < length (sings t) = omega arith in let x = reg_is d s t f v k (omega arith) in
            same_shape d _ _ _ _ _ _ (sym (reg_source d s t f v k)) (sym (dia-sing d t v.target.shape k m)) (sym (fwd_edge d s t f v k m))
            (from_tree d _ _ _ x.source (sing_tree d t v.target k m) (composite_shape d _ _ (fwd_meets d s t f v k m)) (z.missed k m e).fwd));
        missed_bwds = λ k l e. (let m : k < length (sings t) = omega arith in let x = reg_is d s t f v (suc k) (omega arith) in
            same_shape d _ _ _ _ _ _ (sym (reg_source d s t f v (suc k))) (sym (dia-sing d t v.target.shape k m)) (sym (bwd_edge d s t f v k m))
            (from_tree d _ _ _ x.source (sing_tree d t v.target k m) (composite_shape d _ _ (bwd_meets d s t f v k m)) (z.missed k m e).bwd));
      })

shape_above : (n : ℕ) (s t f : Tree) → IsValidArrowAt n s t f → 0 < n → IsDegeneracyTree s t f ↔ HasDegeneracyShape s t f
shape_above zero s t f v l = absurd (omega arith)
shape_above (suc d) s t f v l = (shape_from d s t f v, shape_to d s t f v)

-- above dimension 0, a degeneracy is what has the shape of one
pub degeneracy_shape : (s t f : Tree) → IsValidArrowTree s t f → 0 < dimension_of f → IsDegeneracyTree s t f ↔ HasDegeneracyShape s t f
degeneracy_shape s t f v l = shape_above v.dim s t f v.at_dim (omega (arith, arrow_dimension v.dim f v.at_dim.shape))

ends_zero : (n : ℕ) (s t f : Tree) → IsValidArrowAt n s t f → n ≡ 0 → (from_at f ≡ to_at f) ↔ IsDegeneracyTree s t f
ends_zero zero s t f v e = (
  λ same. to_tree zero s t f v.source v.target v.shape (v.valid, same),
  λ h. (from_tree zero s t f v.source v.target v.shape h).1,
)
ends_zero (suc d) s t f v e = absurd (omega arith)

-- in dimension 0 it is an identity
pub degeneracy_ends : (s t f : Tree) → IsValidArrowTree s t f → dimension_of f ≡ 0 → (from_at f ≡ to_at f) ↔ IsDegeneracyTree s t f
degeneracy_ends s t f v e = ends_zero v.dim s t f v.at_dim (omega (arith, arrow_dimension v.dim f v.at_dim.shape))
