-- The points of a diagram: a height of it, a height of the slice there, and so on down to a label.
use Rattle.std.specs.Prelude.{ℕ, zero, suc, List, [], ◌∷◌, ◌++◌, length, map}
use Rattle.std.specs.List.{flat_map}
use Rattle.diagram_terms.specs.declared.label.Label.{Label}
use Rattle.diagram_terms.specs.declared.place.Height.{Height}
use Rattle.diagram_terms.specs.declared.place.Height.TheVariants as height
use Rattle.diagram_terms.specs.Family.{Dia, reg, sing}
use Rattle.diagram_terms.specs.Dual.{upto}

-- the heights that lead to it, outermost first, and the label there
pub record Point : Type 0 where
  pub heights : List Height
  pub label : Label

-- the points of a slice, as points of the diagram
abbrev pub point_inside : Height → Point → Point
point_inside h p = record { heights = h ∷ p.heights; label = p.label }

abbrev pub inside : Height → List Point → List Point
inside h ps = map (point_inside h) ps

-- The points in order: those over the regular height 0, over the singular height 0, over the regular height 1 and so on.
abbrev pub points : (d : ℕ) → Dia d → List Point
points zero x = record { heights = []; label = x } ∷ []
points (suc d) X =
    flat_map (λ i. inside (height.R i) (points d (reg d X i)) ++ inside (height.S i) (points d (sing d X i))) (upto (length X.sings))
    ++ inside (height.R (length X.sings)) (points d (reg d X (length X.sings)))
