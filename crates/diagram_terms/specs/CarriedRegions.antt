-- Regions of relabelled and of suspended diagrams.
use Rattle.std.specs.Prelude.{ℕ, zero, suc, [], ◌∷◌, map}
use Rattle.diagram_terms.specs.Regions.{Reg}

-- one level up from a map r of regions
abbrev pub on_region : (d e : ℕ) → (Reg d → Reg e) → Reg (suc d) → Reg (suc e)
on_region d e r W = record { from = W.from; to = W.to; regs = map r W.regs; sings = map r W.sings }

-- a region, as one of the relabelled diagram: the same heights
unfoldable pub relabelled_region : (d : ℕ) → Reg d → Reg d
relabelled_region zero W = W
relabelled_region (suc d) W = on_region d d (relabelled_region d) W

-- a region, as one of the suspended diagram: in the place of a label all of its cospan
unfoldable pub suspended_region : (d : ℕ) → Reg d → Reg (suc d)
suspended_region zero W = record { from = 0; to = 1; regs = W ∷ W ∷ []; sings = W ∷ [] }
suspended_region (suc d) W = on_region d (suc d) (suspended_region d) W
