-- The plain program that computes the colimit of a shape, or its refusal. That it meets the relations is a law.
use Rattle.std.specs.Prelude.{ℕ, zero, suc, Bool, true, false, nat_lt, if◌then◌else◌, List, [], ◌∷◌, map, Option, Some, None, Result, Ok, Err}
use Rattle.diagram_terms.specs.declared.label.Label.{Label}
use Rattle.diagram_terms.specs.declared.place.Bias.{Bias}
use Rattle.diagram_terms.specs.Labels.{at_most}
use Rattle.diagram_terms.specs.OrderFaults.{OrderFault}
use Rattle.diagram_terms.specs.Ranks.{Ranks}
use Rattle.diagram_terms.specs.Shapes.{Shape, heights_of}
use Rattle.diagram_terms.specs.Cocones.{Cocone}
use Rattle.diagram_terms.specs.ClassParts.{part}
use Rattle.diagram_terms.specs.Colimits.{glued, outer_bias, inner_biases}
use Rattle.diagram_terms.specs.ColimitRefusals.{order, clash, Refusal}
use Rattle.diagram_terms.specs.RankProgram.{ranks_under}

-- ---- dimension 0

-- the first label of the greatest dimension; x is the first so far
abbrev pub greater : Label → Label → Label
greater x y = if nat_lt x.dim y.dim then y else x

unfoldable pub first_greatest : Label → List Label → Label
first_greatest x [] = x
first_greatest x (y ∷ ys) = first_greatest (greater x y) ys

-- the first label that is not at most x
abbrev pub unless_below : Bool → Label → Option Label → Option Label
unless_below true y rest = rest
unless_below false y rest = Some y

unfoldable pub first_above : Label → List Label → Option Label
first_above x [] = None
first_above x (y ∷ ys) = unless_below (at_most y x) y (first_above x ys)

-- the cocone to x, unless some label is not at most x
abbrev pub label_answer : List Label → Label → Option Label → Result (Cocone 0) Refusal
label_answer labels x None = Ok (record { apex = x; legs = map (λ y. record { from = y; to = x }) labels })
label_answer labels x (Some y) = Err (record { ranks = []; cause = clash x y })

abbrev pub joined_at : List Label → Label → Result (Cocone 0) Refusal
joined_at labels x = label_answer labels x (first_above x labels)

-- the join of some labels, or the first clash; of no labels, which no shape has, it means nothing
abbrev pub join_of : List Label → Result (Cocone 0) Refusal
join_of [] = Err (record { ranks = []; cause = clash (record { number = 0; dim = 0 }) (record { number = 0; dim = 0 }) })
join_of (x ∷ xs) = joined_at (x ∷ xs) (first_greatest x xs)

-- ---- one level up

-- the colimits of all parts, or the first refusal; k is the rank of the first of them
abbrev pub one_more : {X : Type 0} → ℕ → Result X Refusal → Result (List X) Refusal → Result (List X) Refusal
one_more k (Err f) rest = Err (record { ranks = k ∷ f.ranks; cause = f.cause })
one_more k (Ok c) (Err f) = Err f
one_more k (Ok c) (Ok cs) = Ok (c ∷ cs)

unfoldable pub each_part : {X : Type 0} → (ℕ → Result X Refusal) → ℕ → ℕ → Result (List X) Refusal
each_part answer k zero = Ok []
each_part answer k (suc n) = one_more k (answer k) (each_part answer (suc k) n)

-- the cocone that the parts make
abbrev pub glue_parts : (d : ℕ) → Shape (suc d) → Ranks → Result (List (Cocone d)) Refusal → Result (Cocone (suc d)) Refusal
glue_parts d S r (Err f) = Err f
glue_parts d S r (Ok parts) = Ok (glued d S r parts)

-- by the ranks, where C answers for the parts
abbrev pub by_ranks : (d : ℕ) → (Shape d → Result (Cocone d) Refusal) → Shape (suc d) → Result Ranks OrderFault → Result (Cocone (suc d)) Refusal
by_ranks d C S (Err e) = Err (record { ranks = []; cause = order e })
by_ranks d C S (Ok r) = glue_parts d S r (each_part (λ k. C (part d S r k)) 0 r.count)

-- the colimit of a shape under a list of biases, or the first refusal
unfoldable pub colimit_of : (d : ℕ) → Shape d → List Bias → Result (Cocone d) Refusal
colimit_of zero S biases = join_of S.objects
colimit_of (suc d) S biases = by_ranks d (λ P. colimit_of d P (inner_biases biases)) S (ranks_under (outer_bias biases) (heights_of d S))
