-- Maps of diagrams and arrows, one level up: they keep lengths and heights, and act on all slices.
use Rattle.std.specs.Prelude.{ℕ, suc, List, map}
use Rattle.diagram_terms.specs.Family.{Dia, Arr}
use Rattle.diagram_terms.specs.Least.{Leg}

-- one level up from a map o of diagrams and a map a of arrows
abbrev pub on_slices : (d e : ℕ) → (Dia d → Dia e) → (Arr d → Arr e) → Dia (suc d) → Dia (suc e)
on_slices d e o a X = record { regs = map o X.regs; sings = map o X.sings; fwds = map a X.fwds; bwds = map a X.bwds }

-- the same of arrows
abbrev pub on_arrow_slices : (d e : ℕ) → (Arr d → Arr e) → Arr (suc d) → Arr (suc e)
on_arrow_slices d e a f = record { heights = f.heights; regs = map a f.regs; sings = map a f.sings }

-- the same of legs
abbrev pub on_leg : (d e : ℕ) → (Dia d → Dia e) → (Arr d → Arr e) → Leg d → Leg e
on_leg d e o a g = record { source = o g.source; arrow = a g.arrow }

abbrev pub on_legs : (d e : ℕ) → (Dia d → Dia e) → (Arr d → Arr e) → List (Leg d) → List (Leg e)
on_legs d e o a gs = map (on_leg d e o a) gs
