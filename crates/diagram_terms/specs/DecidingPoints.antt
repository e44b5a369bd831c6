-- Points that decide whether a diagram is well typed, by their heights.
use Rattle.std.specs.Prelude.{ℕ, zero, suc, List, [], ◌∷◌, length, Bool, true, false}
use Rattle.std.specs.List.{filter, flat_map}
use Rattle.diagram_terms.specs.declared.place.Height.{Height}
use Rattle.diagram_terms.specs.declared.place.Height.TheVariants as height_kind
use Rattle.diagram_terms.specs.Dual.{upto}
use Rattle.diagram_terms.specs.Family.{Dia, sing}
use Rattle.diagram_terms.specs.Points.{Point, inside, points}

-- all heights are singular
abbrev pub all_singular : List Height → Bool
all_singular [] = true
all_singular (height_kind.R j ∷ hs) = false
all_singular (height_kind.S k ∷ hs) = all_singular hs

-- regular heights come first, and then singular ones
abbrev pub is_deciding : List Height → Bool
is_deciding [] = true
is_deciding (height_kind.R j ∷ hs) = is_deciding hs
is_deciding (height_kind.S k ∷ hs) = all_singular hs

-- the points of such heights, in order
abbrev pub deciding_points : (d : ℕ) → Dia d → List Point
deciding_points d X = filter (λ p. is_deciding p.heights) (points d X)

-- the points over singular heights alone, in order
abbrev pub singular_points : (d : ℕ) → Dia d → List Point
singular_points zero x = record { heights = []; label = x } ∷ []
singular_points (suc d) X = flat_map (λ k. inside (height_kind.S k) (singular_points d (sing d X k))) (upto (length X.sings))
