-- Signatures, and which diagrams are well typed over one.
use Rattle.std.specs.Prelude.{◌≡◌, ℕ, suc, ◌<◌, List, [], ◌∷◌, length, get_or, take, Bool, true, false, ◌==◌, nat_le, if◌then◌else◌, Option, Some, None, option_map, slice_get}
use Rattle.std.specs.List.{All}
use Rattle.diagram_terms.specs.declared.label.Label.{Label}
use Rattle.diagram_terms.specs.declared.place.Fault.{Fault}
use Rattle.diagram_terms.specs.declared.place.Fault.TheVariants as fault
use Rattle.diagram_terms.specs.Family.{Dia}
use Rattle.diagram_terms.specs.Decoded.{dia}
use Rattle.diagram_terms.specs.Dimension.{dimension_of, IsDiagramTree}
use Rattle.diagram_terms.specs.Loose.{first_loose_leg}
use Rattle.diagram_terms.specs.Places.{first_bad_place}
use Rattle.diagram_terms.specs.Plain.{Plain}
use Rattle.diagram_terms.specs.Points.{Point, points}
use Rattle.diagram_terms.specs.Slices.{AreParallel}
use Rattle.diagram_terms.specs.Tree.{Tree}
use Rattle.diagram_terms.specs.Valid.{Valid}

-- A generator is told by its boundary, if it has one: its source and its target. A signature is a list of generators.
abbrev pub Generator : Type 0
Generator = Option (Tree × Tree)

-- its dimension: 0 without a boundary, and else one more than that of its source
abbrev pub generator_dim : Generator → ℕ
generator_dim None = 0
generator_dim (Some (s, t)) = suc (dimension_of s)

-- a generator that is there has this dimension
abbrev pub has_dim : ℕ → Option Generator → Bool
has_dim n None = false
has_dim n (Some g) = generator_dim g == n

-- the label is a generator's: its number is the generator's place, and its dimension the generator's
abbrev pub is_generator : List Generator → Label → Bool
is_generator generators x = has_dim x.dim (slice_get generators x.number)

-- An n-diagram has at a point the type of the generator there. What is asked at this stage is that the generator's
-- dimension is at most n, and nothing of the diagram around the point.
abbrev pub has_type : ℕ → Point → Bool
has_type n p = nat_le p.label.dim n

-- what is wrong at a point of an n-diagram
abbrev pub point_fault : List Generator → ℕ → Point → Option Fault
point_fault generators n p =
    if is_generator generators p.label
    then (if has_type n p then None else Some (fault.TypeAt p.heights))
    else Some (fault.LabelAt p.heights)

-- the first of two that is there
abbrev pub first_of : {A : Type 0} → Option A → Option A → Option A
first_of None later = later
first_of (Some x) later = Some x

-- the first fault of points in order
abbrev pub first_point_fault : List Generator → ℕ → List Point → Option Fault
first_point_fault generators n [] = None
first_point_fault generators n (p ∷ ps) = first_of (point_fault generators n p) (first_point_fault generators n ps)

-- the first fault of an n-diagram: its first bad place, else its first loose leg, else its first point that fails
abbrev pub first_fault : List Generator → (n : ℕ) → Dia n → Option Fault
first_fault generators n X =
    first_of (option_map (λ p. fault.SquareAt p) (first_bad_place n X))
    (first_of (option_map (λ steps. fault.LooseAt steps) (first_loose_leg n X)) (first_point_fault generators n (points n X)))

-- the same of a tree
abbrev pub first_point_fault_in : List Generator → Tree → Option Fault
first_point_fault_in generators t = first_point_fault generators (dimension_of t) (points (dimension_of t) (dia (dimension_of t) t))

abbrev pub first_fault_in : List Generator → Tree → Option Fault
first_fault_in generators t = first_fault generators (dimension_of t) (dia (dimension_of t) t)

-- an n-diagram is well typed: it is valid and plain, and at each point stands a generator of whose type it is there
pub record WellTyped (generators : List Generator) (n : ℕ) (X : Dia n) : Type 0 where
  pub valid : Valid n X
  pub plain : Plain n X
  pub labels : All (λ p. is_generator generators p.label ≡ true) (points n X)
  pub types : All (λ p. has_type n p ≡ true) (points n X)

-- the same of a tree
pub record IsWellTyped (generators : List Generator) (t : Tree) : Type 0 where
  pub shape : IsDiagramTree t
  pub typed : WellTyped generators (dimension_of t) (dia (dimension_of t) t)

-- a boundary is good over a signature: parallel, and well typed
pub record IsGoodBoundary (generators : List Generator) (s t : Tree) : Type 0 where
  pub parallel : AreParallel s t
  pub source : IsWellTyped generators s
  pub target : IsWellTyped generators t

abbrev pub IsGoodGenerator : List Generator → Generator → Type 0
IsGoodGenerator generators None = Unit {0}
IsGoodGenerator generators (Some (s, t)) = IsGoodBoundary generators s t

-- a signature is good: each generator is, over those before it
pub record IsGoodSignature (generators : List Generator) : Type 0 where
  pub good : (i : ℕ) → i < length generators → IsGoodGenerator (take i generators) (get_or generators i None)
