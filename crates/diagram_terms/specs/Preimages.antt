-- The preimage of a region under an arrow.
use Rattle.std.specs.Prelude.{ℕ, zero, suc, ◌-◌, nat_lt, if◌then◌else◌}
use Rattle.diagram_terms.specs.Dual.{dual}
use Rattle.diagram_terms.specs.Family.{Dia, Arr, reg, sing, fwd, bwd, height, arrow_reg, arrow_sing}
use Rattle.diagram_terms.specs.Regions.{tab_from, Reg, reg_region, sing_region}

-- The regions of the slices of X in the preimage under f : X → Y of the region W of Y, where P takes preimages of regions
-- of slices. At a singular height it is the preimage of the region at the height to which that one goes.
abbrev pub sing_preimage : (d : ℕ) → (Dia d → Arr d → Reg d → Reg d) → Dia (suc d) → Arr (suc d) → Reg (suc d) → ℕ → Reg d
sing_preimage d P X f W i = P (sing d X i) (arrow_sing d f i) (sing_region d W (height d f i))

-- At a regular height after the first one of the interval it is the preimage along the leg backward, at the first one that
-- along the leg forward, and where the interval has the one height alone that under the regular slice of f.
abbrev pub reg_preimage : (d : ℕ) → (Dia d → Arr d → Reg d → Reg d) → Dia (suc d) → Arr (suc d) → Reg (suc d) → ℕ → Reg d
reg_preimage d P X f W j =
    if nat_lt (dual f.heights W.from) j then P (reg d X j) (bwd d X (j - 1)) (sing_preimage d P X f W (j - 1))
    else (if nat_lt j (dual f.heights W.to) then P (reg d X j) (fwd d X j) (sing_preimage d P X f W j)
    else P (reg d X j) (arrow_reg d f W.from) (reg_region d W W.from))

-- the preimage under f : X → Y of the region W of Y; its interval is from the dual of the first height to that of the last
unfoldable pub preimage : (d : ℕ) → Dia d → Arr d → Reg d → Reg d
preimage zero x f W = record {}
preimage (suc d) X f W = record {
  from = dual f.heights W.from;
  to = dual f.heights W.to;
  regs = tab_from (reg_preimage d (preimage d) X f W) (dual f.heights W.from) (suc (dual f.heights W.to - dual f.heights W.from));
  sings = tab_from (sing_preimage d (preimage d) X f W) (dual f.heights W.from) (dual f.heights W.to - dual f.heights W.from);
}
