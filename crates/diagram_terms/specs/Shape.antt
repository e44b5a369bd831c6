-- The shape of the trees of diagrams and arrows. That slices and legs have the right ends is no part of it.
use Rattle.std.specs.Prelude.{◌≡◌, ℕ, zero, suc, ◌<◌, ◌≤◌, length, get_or}
use Rattle.diagram_terms.specs.Dual.{IsMonotone}
use Rattle.diagram_terms.specs.Tree.{Tree, nil, label_at, from_at, to_at, point, zig, ends, zag, regs, sings, fwds, bwds, heights}

-- the parts of a tree by their heights
abbrev pub reg_at : Tree → ℕ → Tree
reg_at t j = get_or (regs t) j nil

abbrev pub sing_at : Tree → ℕ → Tree
sing_at t i = get_or (sings t) i nil

abbrev pub fwd_at : Tree → ℕ → Tree
fwd_at t k = get_or (fwds t) k nil

abbrev pub bwd_at : Tree → ℕ → Tree
bwd_at t k = get_or (bwds t) k nil

-- One level of an arrow, where A says what its slices are: its heights do not fall, and are those of a target that has
-- one regular height more than singular ones.
pub record IsZag (A : Tree → Type 0) (t : Tree) : Type 0 where
  pub is_zag : t ≡ zag (heights t) (regs t) (sings t)
  pub regs_len : 0 < length (regs t)
  pub sings_len : length (sings t) ≡ length (heights t)
  pub monotone : IsMonotone (heights t)
  pub below : (i : ℕ) → i < length (heights t) → suc (get_or (heights t) i 0) < length (regs t)
  pub regs_are : (j : ℕ) → j < length (regs t) → A (reg_at t j)
  pub sings_are : (i : ℕ) → i < length (sings t) → A (sing_at t i)

-- the tree of an arrow of dimension d
abbrev pub IsArrow : ℕ → Tree → Type 0
IsArrow zero t = t ≡ ends (from_at t) (to_at t)
IsArrow (suc d) t = IsZag (IsArrow d) t

-- One level of a diagram, where D and A say what its slices and its legs are: one regular slice more than singular
-- slices, and two legs into each of these.
pub record IsZig (D A : Tree → Type 0) (t : Tree) : Type 0 where
  pub is_zig : t ≡ zig (regs t) (sings t) (fwds t) (bwds t)
  pub regs_len : length (regs t) ≡ suc (length (sings t))
  pub fwds_len : length (fwds t) ≡ length (sings t)
  pub bwds_len : length (bwds t) ≡ length (sings t)
  pub regs_are : (j : ℕ) → j ≤ length (sings t) → D (reg_at t j)
  pub sings_are : (i : ℕ) → i < length (sings t) → D (sing_at t i)
  pub fwds_are : (k : ℕ) → k < length (sings t) → A (fwd_at t k)
  pub bwds_are : (k : ℕ) → k < length (sings t) → A (bwd_at t k)

-- the tree of a diagram of dimension d
abbrev pub IsDiagram : ℕ → Tree → Type 0
IsDiagram zero t = t ≡ point (label_at t)
IsDiagram (suc d) t = IsZig (IsDiagram d) (IsArrow d) t
