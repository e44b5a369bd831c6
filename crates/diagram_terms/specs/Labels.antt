-- The order of labels, and the join of a list of them.
use Rattle.std.specs.Prelude.{◌≡◌, ◌≢◌, ◌<◌, ◌≤◌, ◌⊎◌, Bool, ◌&&◌, ◌||◌, nat_eq, nat_lt, List, ◌∷◌, ◌++◌}
use Rattle.std.specs.List.{All, Contains}
use Rattle.diagram_terms.specs.declared.label.Label.{Label}

-- x is y, or has a smaller dimension
abbrev pub IsAtMost : Label → Label → Type 0
IsAtMost x y = (x ≡ y) ⊎ (x.dim < y.dim)

-- the same as tests
abbrev pub same_label : Label → Label → Bool
same_label x y = nat_eq x.number y.number && nat_eq x.dim y.dim

abbrev pub at_most : Label → Label → Bool
at_most x y = same_label x y || nat_lt x.dim y.dim

-- x is one of the labels, and each of them is at most x
pub record IsJoin (labels : List Label) (x : Label) : Type 0 where
  pub among : Contains labels x
  pub above : All (λ y. IsAtMost y x) labels

-- x has the greatest dimension
abbrev pub HasGreatestDimension : List Label → Label → Type 0
HasGreatestDimension labels x = All (λ y. y.dim ≤ x.dim) labels

-- `one` is the first label of the greatest dimension, and `other` the first later one of that dimension that differs from it.
pub record IsFirstClash (labels : List Label) (one other : Label) : Type 0 where
  pub before : List Label
  pub between : List Label
  pub after : List Label
  pub places : labels ≡ before ++ one ∷ between ++ other ∷ after
  pub greatest : HasGreatestDimension labels one
  pub first : All (λ x. x.dim < one.dim) before
  pub same_dimension : other.dim ≡ one.dim
  pub different : other ≢ one
  pub next : All (λ x. IsAtMost x one) between
