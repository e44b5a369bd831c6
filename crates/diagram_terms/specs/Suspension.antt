-- Suspended diagrams and arrows: one dimension higher, with a cospan between two new labels in the place of each label.
use Rattle.std.specs.Prelude.{ℕ, zero, suc, [], ◌∷◌}
use Rattle.diagram_terms.specs.declared.label.Label.{Label}
use Rattle.diagram_terms.specs.Family.{Ends, Dia, Arr}
use Rattle.diagram_terms.specs.SliceMaps.{on_slices, on_arrow_slices}

-- the two new labels of dimension 0
abbrev pub north : Label
north = record { number = 0; dim = 0 }

abbrev pub south : Label
south = record { number = 1; dim = 0 }

-- what a label becomes: it is numbered after these, and has one dimension more
abbrev pub raised : Label → Label
raised x = record { number = suc (suc x.number); dim = suc x.dim }

-- the arrow of dimension 0 from x to y
abbrev pub ends_of : Label → Label → Ends
ends_of x y = record { from = x; to = y }

-- in dimension 0 a label becomes the cospan north -> x <- south
unfoldable pub suspended_arrow : (d : ℕ) → Arr d → Arr (suc d)
suspended_arrow zero f = record {
  heights = 0 ∷ [];
  regs = ends_of north north ∷ ends_of south south ∷ [];
  sings = ends_of (raised f.from) (raised f.to) ∷ [];
}
suspended_arrow (suc d) f = on_arrow_slices d (suc d) (suspended_arrow d) f

unfoldable pub suspended : (d : ℕ) → Dia d → Dia (suc d)
suspended zero x = record {
  regs = north ∷ south ∷ [];
  sings = raised x ∷ [];
  fwds = ends_of north (raised x) ∷ [];
  bwds = ends_of south (raised x) ∷ [];
}
suspended (suc d) X = on_slices d (suc d) (suspended d) (suspended_arrow d) X
