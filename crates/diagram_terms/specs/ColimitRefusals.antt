-- Why a shape has no colimit: a cause, and where it stands.
use Rattle.std.specs.Prelude.{◌≡◌, ℕ, zero, suc, ◌<◌, List, [], ◌∷◌}
use Rattle.diagram_terms.specs.declared.label.Label.{Label}
use Rattle.diagram_terms.specs.declared.place.Bias.{Bias}
use Rattle.diagram_terms.specs.Labels.{IsFirstClash}
use Rattle.diagram_terms.specs.OrderFaults.{OrderFault, IsOrderFault}
use Rattle.diagram_terms.specs.Ranks.{Ranks, IsRanked}
use Rattle.diagram_terms.specs.Shapes.{Shape, heights_of}
use Rattle.diagram_terms.specs.Cocones.{Cocone}
use Rattle.diagram_terms.specs.ClassParts.{part}
use Rattle.diagram_terms.specs.Colimits.{outer_bias, inner_biases, IsColimit}

-- the order of the heights is at fault, or two labels clash
pub data Cause : Type 0 where
  order : OrderFault → Cause
  clash : Label → Label → Cause

-- a cause, and its place: the ranks that lead down to it
pub record Refusal : Type 0 where
  pub ranks : List ℕ
  pub cause : Cause

-- in dimension 0: the first two labels that clash
pub record IsLabelRefusal (S : Shape zero) (f : Refusal) : Type 0 where
  pub one : Label
  pub other : Label
  pub clashes : IsFirstClash S.objects one other
  pub is_refusal : f ≡ record { ranks = []; cause = clash one other }

-- One level of a refusal, where C and N say which parts have a colimit, and which are refused: the order of the heights is
-- at fault, or the first part, by rank, that is refused.
pub data RefusalZig (d : ℕ) (C : Shape d → List Bias → Cocone d → Type 0) (N : Shape d → List Bias → Refusal → Type 0)
    (S : Shape (suc d)) (biases : List Bias) : Refusal → Type 0 where
  in_order : (e : OrderFault) → IsOrderFault (outer_bias biases) (heights_of d S) e
      → RefusalZig d C N S biases (record { ranks = []; cause = order e })
  in_part : (r : Ranks) → IsRanked (outer_bias biases) (heights_of d S) r → (k : ℕ) → k < r.count
      → ((j : ℕ) → j < k → (c : Cocone d) × C (part d S r j) (inner_biases biases) c)
      → (f : Refusal) → N (part d S r k) (inner_biases biases) f
      → RefusalZig d C N S biases (record { ranks = k ∷ f.ranks; cause = f.cause })

-- f refuses the colimit of S under these biases
abbrev pub IsRefused : (d : ℕ) → Shape d → List Bias → Refusal → Type 0
IsRefused zero S biases f = IsLabelRefusal S f
IsRefused (suc d) S biases f = RefusalZig d (IsColimit d) (IsRefused d) S biases f
