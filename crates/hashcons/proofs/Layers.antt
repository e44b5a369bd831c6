-- For callers: the family's diagram or arrow of an id, one layer above those of its parts.
use Rattle.std.proofs.Common.{◌≡◌, ℕ, ◌<◌, length, sym, ap, ◌∙◌, suc}
use Rattle.diagram_terms.specs.Tree.{regs, sings, fwds, bwds}
use Rattle.diagram_terms.specs.Family.{reg, sing, fwd, bwd, arrow_reg, arrow_sing}
use Rattle.diagram_terms.specs.Decoded.{dia, arr}
use Rattle.diagram_terms.specs.Shape.{reg_at, sing_at, fwd_at, bwd_at}
use Rattle.diagram_terms.proofs.Glue.{dia-reg_below, dia-sing_below, dia-fwd_below, dia-bwd_below, arr-reg, arr-sing}
use Rattle.hashcons.specs.Contents.{Contents, diagram_at, arrow_at}

module _ (c : Contents) (n d : ℕ) where
  pub layer-reg : (j r : ℕ) → j < length (regs (diagram_at c d)) → diagram_at c r ≡ reg_at (diagram_at c d) j
      → reg n (dia (suc n) (diagram_at c d)) j ≡ dia n (diagram_at c r)
  layer-reg j r l e = dia-reg_below n (diagram_at c d) j l ∙ ap (dia n) (sym e)

  pub layer-sing : (i s : ℕ) → i < length (sings (diagram_at c d)) → diagram_at c s ≡ sing_at (diagram_at c d) i
      → sing n (dia (suc n) (diagram_at c d)) i ≡ dia n (diagram_at c s)
  layer-sing i s l e = dia-sing_below n (diagram_at c d) i l ∙ ap (dia n) (sym e)

  pub layer-fwd : (k a : ℕ) → k < length (fwds (diagram_at c d)) → arrow_at c a ≡ fwd_at (diagram_at c d) k
      → fwd n (dia (suc n) (diagram_at c d)) k ≡ arr n (arrow_at c a)
  layer-fwd k a l e = dia-fwd_below n (diagram_at c d) k l ∙ ap (arr n) (sym e)

  pub layer-bwd : (k a : ℕ) → k < length (bwds (diagram_at c d)) → arrow_at c a ≡ bwd_at (diagram_at c d) k
      → bwd n (dia (suc n) (diagram_at c d)) k ≡ arr n (arrow_at c a)
  layer-bwd k a l e = dia-bwd_below n (diagram_at c d) k l ∙ ap (arr n) (sym e)

module _ (c : Contents) (n a : ℕ) where
  pub layer-arrow_reg : (j r : ℕ) → j < length (regs (arrow_at c a)) → arrow_at c r ≡ reg_at (arrow_at c a) j
      → arrow_reg n (arr (suc n) (arrow_at c a)) j ≡ arr n (arrow_at c r)
  layer-arrow_reg j r l e = arr-reg n (arrow_at c a) j l ∙ ap (arr n) (sym e)

  pub layer-arrow_sing : (i s : ℕ) → i < length (sings (arrow_at c a)) → arrow_at c s ≡ sing_at (arrow_at c a) i
      → arrow_sing n (arr (suc n) (arrow_at c a)) i ≡ arr n (arrow_at c s)
  layer-arrow_sing i s l e = arr-sing n (arrow_at c a) i l ∙ ap (arr n) (sym e)
