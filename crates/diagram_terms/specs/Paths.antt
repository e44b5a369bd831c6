-- Paths and points of a diagram, by their heights: they lead to a slice, and to a label.
use Rattle.std.specs.Prelude.{◌≡◌, ℕ, zero, suc, ◌<◌, ◌≤◌, List, [], ◌∷◌, length}
use Rattle.diagram_terms.specs.declared.label.Label.{Label}
use Rattle.diagram_terms.specs.declared.place.Height.{Height}
use Rattle.diagram_terms.specs.declared.place.Height.TheVariants as height_kind
use Rattle.diagram_terms.specs.Family.{Dia, no_label, reg, sing}

-- the heights are a path of X: they lead to a slice of it, or of a slice of it and so on
abbrev pub IsPathOf : (d : ℕ) → Dia d → List Height → Type 0
IsPathOf zero x [] = Unit {0}
IsPathOf zero x (h ∷ hs) = ⊥
IsPathOf (suc d) X [] = Unit {0}
IsPathOf (suc d) X (height_kind.R j ∷ hs) = (j ≤ length X.sings) × IsPathOf d (reg d X j) hs
IsPathOf (suc d) X (height_kind.S k ∷ hs) = (k < length X.sings) × IsPathOf d (sing d X k) hs

-- the heights are those of a point of X: a path to a label
abbrev pub IsPointOf : (d : ℕ) → Dia d → List Height → Type 0
IsPointOf zero x [] = Unit {0}
IsPointOf zero x (h ∷ hs) = ⊥
IsPointOf (suc d) X [] = ⊥
IsPointOf (suc d) X (height_kind.R j ∷ hs) = (j ≤ length X.sings) × IsPointOf d (reg d X j) hs
IsPointOf (suc d) X (height_kind.S k ∷ hs) = (k < length X.sings) × IsPointOf d (sing d X k) hs

-- the label to which a point leads
abbrev pub point_label : (d : ℕ) → Dia d → List Height → Label
point_label zero x hs = x
point_label (suc d) X [] = no_label
point_label (suc d) X (height_kind.R j ∷ hs) = point_label d (reg d X j) hs
point_label (suc d) X (height_kind.S k ∷ hs) = point_label d (sing d X k) hs

-- the path keeps to slices that have no other: each height is the regular one of a slice of length 0, or the singular one of
-- a slice of length 1
abbrev pub IsOnlyPath : (d : ℕ) → Dia d → List Height → Type 0
IsOnlyPath zero x hs = Unit {0}
IsOnlyPath (suc d) X [] = Unit {0}
IsOnlyPath (suc d) X (height_kind.R j ∷ hs) = (j ≡ 0) × (length X.sings ≡ 0) × IsOnlyPath d (reg d X j) hs
IsOnlyPath (suc d) X (height_kind.S k ∷ hs) = (k ≡ 0) × (length X.sings ≡ 1) × IsOnlyPath d (sing d X k) hs

-- a deep point: each height is singular, or the one regular height of a slice that has no other
abbrev pub IsDeep : (d : ℕ) → Dia d → List Height → Type 0
IsDeep zero x hs = Unit {0}
IsDeep (suc d) X [] = Unit {0}
IsDeep (suc d) X (height_kind.R j ∷ hs) = (length X.sings ≡ 0) × IsDeep d (reg d X j) hs
IsDeep (suc d) X (height_kind.S k ∷ hs) = IsDeep d (sing d X k) hs

-- the first height of the same kind: what a height of a path becomes in the cut at the region of the path
abbrev pub first_height : Height → Height
first_height (height_kind.R j) = height_kind.R 0
first_height (height_kind.S k) = height_kind.S 0
