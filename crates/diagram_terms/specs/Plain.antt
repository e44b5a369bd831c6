-- Plain arrows and plain diagrams.
use Rattle.std.specs.Prelude.{ℕ, ◌<◌, length, zero, suc}
use Rattle.diagram_terms.specs.Family.{Dia, Arr, reg, sing, fwd, bwd, arrow_reg, arrow_sing}
use Rattle.diagram_terms.specs.Identity.{IsIdentity}

-- one level of a plain arrow, where P says which singular slices are plain
pub record PlainZag (d : ℕ) (P : Arr d → Type 0) (f : Arr (suc d)) : Type 0 where
  pub regs : (j : ℕ) → j < length f.regs → IsIdentity d (arrow_reg d f j)
  pub sings : (i : ℕ) → i < length f.sings → P (arrow_sing d f i)

-- f is plain: its regular slices are identities, and its singular slices are plain
abbrev pub PlainArrow : (d : ℕ) → Arr d → Type 0
PlainArrow zero f = Unit {0}
PlainArrow (suc d) f = PlainZag d (PlainArrow d) f

-- one level of a plain diagram, where P says which slices are plain
pub record PlainZig (d : ℕ) (P : Dia d → Type 0) (X : Dia (suc d)) : Type 0 where
  pub regs : (j : ℕ) → j < length X.regs → P (reg d X j)
  pub sings : (i : ℕ) → i < length X.sings → P (sing d X i)
  pub fwds : (k : ℕ) → k < length X.fwds → PlainArrow d (fwd d X k)
  pub bwds : (k : ℕ) → k < length X.bwds → PlainArrow d (bwd d X k)

-- X is plain: each leg at each depth of it is
abbrev pub Plain : (d : ℕ) → Dia d → Type 0
Plain zero x = Unit {0}
Plain (suc d) X = PlainZig d (Plain d) X
