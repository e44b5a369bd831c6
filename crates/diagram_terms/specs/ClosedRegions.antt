-- Closed regions: those that hold, with a part of a singular slice, what leads into it from the slices beside it.
use Rattle.std.specs.Prelude.{◌≡◌, ℕ, zero, suc, ◌<◌, ◌≤◌}
use Rattle.diagram_terms.specs.Family.{Dia, reg, sing, fwd, bwd}
use Rattle.diagram_terms.specs.Preimages.{preimage}
use Rattle.diagram_terms.specs.Regions.{Reg, reg_region, sing_region, IsRegionOf}

-- One level of a closed region W of X, where C says which regions of slices are closed: inside the interval the region of
-- a regular slice is the preimage, along each of its legs, of that of the singular slice.
pub record ClosedZig (d : ℕ) (C : Dia d → Reg d → Type 0) (X : Dia (suc d)) (W : Reg (suc d)) : Type 0 where
  pub regs : (j : ℕ) → W.from ≤ j → j ≤ W.to → C (reg d X j) (reg_region d W j)
  pub sings : (i : ℕ) → W.from ≤ i → i < W.to → C (sing d X i) (sing_region d W i)
  pub fwds : (i : ℕ) → W.from ≤ i → i < W.to → preimage d (reg d X i) (fwd d X i) (sing_region d W i) ≡ reg_region d W i
  pub bwds : (i : ℕ) → W.from ≤ i → i < W.to → preimage d (reg d X (suc i)) (bwd d X i) (sing_region d W i) ≡ reg_region d W (suc i)

-- W is closed in X
abbrev pub IsClosed : (d : ℕ) → Dia d → Reg d → Type 0
IsClosed zero x W = Unit {0}
IsClosed (suc d) X W = ClosedZig d (IsClosed d) X W

-- W is a closed region of X
pub record IsClosedRegion (d : ℕ) (X : Dia d) (W : Reg d) : Type 0 where
  pub region : IsRegionOf d X W
  pub closed : IsClosed d X W
