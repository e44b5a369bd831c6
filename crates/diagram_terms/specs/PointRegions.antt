-- The region of a point and of a path, and which points lie in a region.
use Rattle.std.specs.Prelude.{ℕ, zero, suc, ◌<◌, ◌≤◌, List, [], ◌∷◌}
use Rattle.diagram_terms.specs.declared.place.Height.{Height}
use Rattle.diagram_terms.specs.declared.place.Height.TheVariants as height_kind
use Rattle.diagram_terms.specs.Family.{Dia, reg, sing, fwd, bwd}
use Rattle.diagram_terms.specs.Preimages.{preimage}
use Rattle.diagram_terms.specs.Regions.{Reg, reg_region, sing_region, whole_region}

-- the region of a regular height alone, and of a singular height between its two regular ones
abbrev pub at_reg : (d : ℕ) → ℕ → Reg d → Reg (suc d)
at_reg d j W = record { from = j; to = j; regs = W ∷ []; sings = [] }

abbrev pub at_sing : (d : ℕ) → Dia (suc d) → ℕ → Reg d → Reg (suc d)
at_sing d X k W = record {
  from = k;
  to = suc k;
  regs = preimage d (reg d X k) (fwd d X k) W ∷ preimage d (reg d X (suc k)) (bwd d X k) W ∷ [];
  sings = W ∷ [];
}

-- the region of a point, and of a path, where the slice to which it leads counts whole
unfoldable pub point_region : (d : ℕ) → Dia d → List Height → Reg d
point_region zero x hs = record {}
point_region (suc d) X [] = whole_region (suc d) X
point_region (suc d) X (height_kind.R j ∷ hs) = at_reg d j (point_region d (reg d X j) hs)
point_region (suc d) X (height_kind.S k ∷ hs) = at_sing d X k (point_region d (sing d X k) hs)

-- the path or point keeps to the intervals of the region
abbrev pub LiesIn : (d : ℕ) → Reg d → List Height → Type 0
LiesIn zero W hs = Unit {0}
LiesIn (suc d) W [] = Unit {0}
LiesIn (suc d) W (height_kind.R j ∷ hs) = (W.from ≤ j) × (j ≤ W.to) × LiesIn d (reg_region d W j) hs
LiesIn (suc d) W (height_kind.S k ∷ hs) = (W.from ≤ k) × (k < W.to) × LiesIn d (sing_region d W k) hs
