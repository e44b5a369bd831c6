-- Tests at each point of a diagram, of its neighbourhood and its label.
use Rattle.std.specs.Prelude.{◌≡◌, ℕ, Bool, true, List}
use Rattle.diagram_terms.specs.declared.place.Height.{Height}
use Rattle.diagram_terms.specs.declared.label.Label.{Label}
use Rattle.diagram_terms.specs.Family.{Dia}
use Rattle.diagram_terms.specs.Paths.{IsPointOf, point_label}
use Rattle.diagram_terms.specs.Neighbourhoods.{neighbourhood}

-- the test passes at each point of X
abbrev pub PassesAtEachPoint : (n : ℕ) → (Dia n → Label → Bool) → Dia n → Type 0
PassesAtEachPoint n test X = (hs : List Height) → IsPointOf n X hs → test (neighbourhood n X hs) (point_label n X hs) ≡ true
