-- Identity arrows, told by their shape.
use Rattle.std.specs.Prelude.{◌≡◌, ℕ, ◌<◌, length, zero, suc}
use Rattle.diagram_terms.specs.Family.{Arr, arrow_reg, arrow_sing}
use Rattle.diagram_terms.specs.Dual.{upto}

-- one level of an identity arrow, where I says which slices are identities
pub record IdentityZag (d : ℕ) (I : Arr d → Type 0) (f : Arr (suc d)) : Type 0 where
  pub heights : f.heights ≡ upto (length f.sings)
  pub regs_len : length f.regs ≡ suc (length f.sings)
  pub regs : (j : ℕ) → j < length f.regs → I (arrow_reg d f j)
  pub sings : (i : ℕ) → i < length f.sings → I (arrow_sing d f i)

-- f is an identity: two equal labels, or identity heights and identity slices
abbrev pub IsIdentity : (d : ℕ) → Arr d → Type 0
IsIdentity zero f = f.from ≡ f.to
IsIdentity (suc d) f = IdentityZag d (IsIdentity d) f
