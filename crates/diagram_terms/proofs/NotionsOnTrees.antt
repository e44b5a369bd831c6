-- A notion of the family on trees of a known dimension, and on the slices and legs of such a tree.
use Rattle.std.proofs.Common.{◌≡◌, ℕ, zero, suc, ◌<◌, ◌≤◌, length, sym, ap, ◌∙◌, arith}
use Rattle.diagram_terms.specs.Tree.{Tree, regs, sings}
use Rattle.diagram_terms.specs.Shape.{IsDiagram, IsArrow, reg_at, sing_at, fwd_at, bwd_at}
use Rattle.diagram_terms.specs.Decoded.{dia, arr}
use Rattle.diagram_terms.specs.Family.{Dia, Arr, reg, sing, fwd, bwd, arrow_reg, arrow_sing}
use Rattle.diagram_terms.proofs.Dimensions.{diagram_dimension, arrow_dimension}
use Rattle.diagram_terms.proofs.Glue.{dia-reg, dia-sing, dia-fwd, dia-bwd, arr-reg, arr-sing}
use Rattle.diagram_terms.specs.OnTrees.{on_diagram, on_arrow}

-- the case above dimension 0
pub above {ℓ} : (P : ℕ → Type ℓ) → ((d : ℕ) → P (suc d)) → (n : ℕ) → 0 < n → P n
above P step zero l = absurd (omega arith)
above P step (suc d) l = step d

-- ---- at the dimension of a tree

pub on_diagram_at {ℓ} : {X : Type ℓ} (f : (d : ℕ) → Dia d → X) (d : ℕ) (t : Tree) → IsDiagram d t → on_diagram f t ≡ f d (dia d t)
unfolding on_diagram
on_diagram_at f d t h = ap (λ n. f n (dia n t)) (diagram_dimension d t h)

pub on_arrow_at {ℓ} : {X : Type ℓ} (f : (d : ℕ) → Arr d → X) (d : ℕ) (t : Tree) → IsArrow d t → on_arrow f t ≡ f d (arr d t)
unfolding on_arrow
on_arrow_at f d t h = ap (λ n. f n (arr n t)) (arrow_dimension d t h)

-- ---- on the parts of a diagram

pub on_reg {ℓ} : {X : Type ℓ} (f : (d : ℕ) → Dia d → X) (d : ℕ) (t : Tree) (j : ℕ) → IsDiagram (suc d) t → j ≤ length (sings t)
    → f d (reg d (dia (suc d) t) j) ≡ on_diagram f (reg_at t j)
on_reg f d t j h l = ap (f d) (dia-reg d t h j l) ∙ sym (on_diagram_at f d (reg_at t j) (h.regs_are j l))

pub on_sing {ℓ} : {X : Type ℓ} (f : (d : ℕ) → Dia d → X) (d : ℕ) (t : Tree) (i : ℕ) → IsDiagram (suc d) t → i < length (sings t)
    → f d (sing d (dia (suc d) t) i) ≡ on_diagram f (sing_at t i)
on_sing f d t i h l = ap (f d) (dia-sing d t h i l) ∙ sym (on_diagram_at f d (sing_at t i) (h.sings_are i l))

pub on_fwd {ℓ} : {X : Type ℓ} (f : (d : ℕ) → Arr d → X) (d : ℕ) (t : Tree) (k : ℕ) → IsDiagram (suc d) t → k < length (sings t)
    → f d (fwd d (dia (suc d) t) k) ≡ on_arrow f (fwd_at t k)
on_fwd f d t k h l = ap (f d) (dia-fwd d t h k l) ∙ sym (on_arrow_at f d (fwd_at t k) (h.fwds_are k l))

pub on_bwd {ℓ} : {X : Type ℓ} (f : (d : ℕ) → Arr d → X) (d : ℕ) (t : Tree) (k : ℕ) → IsDiagram (suc d) t → k < length (sings t)
    → f d (bwd d (dia (suc d) t) k) ≡ on_arrow f (bwd_at t k)
on_bwd f d t k h l = ap (f d) (dia-bwd d t h k l) ∙ sym (on_arrow_at f d (bwd_at t k) (h.bwds_are k l))

-- ---- on the slices of an arrow

pub on_arrow_reg {ℓ} : {X : Type ℓ} (f : (d : ℕ) → Arr d → X) (d : ℕ) (t : Tree) (j : ℕ) → IsArrow (suc d) t → j < length (regs t)
    → f d (arrow_reg d (arr (suc d) t) j) ≡ on_arrow f (reg_at t j)
on_arrow_reg f d t j h l = ap (f d) (arr-reg d t j l) ∙ sym (on_arrow_at f d (reg_at t j) (h.regs_are j l))

pub on_arrow_sing {ℓ} : {X : Type ℓ} (f : (d : ℕ) → Arr d → X) (d : ℕ) (t : Tree) (i : ℕ) → IsArrow (suc d) t → i < length (sings t)
    → f d (arrow_sing d (arr (suc d) t) i) ≡ on_arrow f (sing_at t i)
on_arrow_sing f d t i h l = ap (f d) (arr-sing d t i l) ∙ sym (on_arrow_at f d (sing_at t i) (h.sings_are i l))
