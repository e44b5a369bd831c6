-- Attachment of a generator to a diagram, at its target or at its source.
use Rattle.std.specs.Prelude.{ℕ, suc, List}
use Rattle.diagram_terms.specs.declared.label.Label.{Label}
use Rattle.diagram_terms.specs.Family.{Dia}
use Rattle.diagram_terms.specs.Cone.{source, target, cospan, cone, mid}
use Rattle.diagram_terms.specs.Segments.{diagram_sum}
use Rattle.diagram_terms.specs.Occurrences.{swap, put}

-- The height that a generator with the boundary S, T and the label x adds behind B, in which S is inside at the offsets e. It
-- goes from B through the diagram with the middle of the generator's type in the place of S to the one with T there; its
-- legs are the cones over S and over T, put there.
abbrev pub attached_height : (d : ℕ) → Dia d → List ℕ → Dia d → Dia d → Label → Dia (suc d)
attached_height d B e S T x =
    let M : Dia d = mid d S x in
    cospan d B (put d B e S M (cone d S x)) (swap d B e S M) (put d (swap d B e S T) e T M (cone d T x)) (swap d B e S T)

-- the height that it adds before B, in which T is inside at e: from the diagram with S in the place of T to B
abbrev pub attached_height_before : (d : ℕ) → Dia d → List ℕ → Dia d → Dia d → Label → Dia (suc d)
attached_height_before d B e S T x =
    let M : Dia d = mid d S x in
    cospan d (swap d B e T S) (put d (swap d B e T S) e S M (cone d S x)) (swap d B e T M) (put d B e T M (cone d T x)) B

-- D with that height added after the last one, at the target of D
abbrev pub attached_at_target : (d : ℕ) → Dia (suc d) → List ℕ → Dia d → Dia d → Label → Dia (suc d)
attached_at_target d D e S T x = diagram_sum d D (attached_height d (target d D) e S T x)

-- D with that height added before the first one, at the source of D
abbrev pub attached_at_source : (d : ℕ) → Dia (suc d) → List ℕ → Dia d → Dia d → Label → Dia (suc d)
attached_at_source d D e S T x = diagram_sum d (attached_height_before d (source d D) e S T x) D
