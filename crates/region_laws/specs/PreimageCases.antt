-- The cases of a preimage, side by side.
use Rattle.std.specs.Prelude.{◌≡◌, ℕ, suc, ◌<◌, ◌≤◌}
use Rattle.diagram_terms.specs.Dual.{dual}
use Rattle.diagram_terms.specs.Family.{Dia, Arr, reg, fwd, bwd, arrow_reg}
use Rattle.diagram_terms.specs.Preimages.{preimage}
use Rattle.diagram_terms.specs.Regions.{Reg, reg_region, sing_region}
use Rattle.map_laws.specs.Edges.{HasEdges}

-- The region of a regular slice of X in the preimage under f : X → Y of W is the preimage in each way there is: under a
-- regular slice of f, along a leg of X beside it, and along an edge of a square.
pub record PreimageCases (d : ℕ) (X Y : Dia (suc d)) (f : Arr (suc d)) (W : Reg (suc d)) : Type 0 where
  pub regs : (k : ℕ) → W.from ≤ k → k ≤ W.to
      → reg_region d (preimage (suc d) X f W) (dual f.heights k) ≡ preimage d (reg d X (dual f.heights k)) (arrow_reg d f k) (reg_region d W k)
  pub fwds : (i : ℕ) → dual f.heights W.from ≤ i → i < dual f.heights W.to
      → reg_region d (preimage (suc d) X f W) i ≡ preimage d (reg d X i) (fwd d X i) (sing_region d (preimage (suc d) X f W) i)
  pub bwds : (i : ℕ) → dual f.heights W.from ≤ i → i < dual f.heights W.to
      → reg_region d (preimage (suc d) X f W) (suc i) ≡ preimage d (reg d X (suc i)) (bwd d X i) (sing_region d (preimage (suc d) X f W) i)
  pub edges : (k t : ℕ) (e : HasEdges d X Y f k) → W.from ≤ k → k < W.to → dual f.heights k ≤ t → t ≤ dual f.heights (suc k)
      → reg_region d (preimage (suc d) X f W) t ≡ preimage d (reg d X t) (e.edge t) (sing_region d W k)
