-- Contraction: in the slice to which a path leads, two heights become one, by the colimit of what stands there.
use Rattle.std.specs.Prelude.{◌≡◌, ℕ, zero, suc, ◌<◌, nat_lt, List, [], ◌∷◌, length, Result, Ok, Err}
use Rattle.diagram_terms.specs.declared.place.Bias.{Bias}
use Rattle.diagram_terms.specs.Family.{Dia, Arr, reg, sing, fwd, bwd}
use Rattle.diagram_terms.specs.Composite.{ident}
use Rattle.diagram_terms.specs.Cone.{cospan}
use Rattle.diagram_terms.specs.Tested.{if_passed}
use Rattle.diagram_terms.specs.Merging.{slice_replaced, slice_replacing, merged, merging, MergesInSlice}
use Rattle.diagram_terms.specs.Shapes.{Shape}
use Rattle.diagram_terms.specs.Cocones.{Cocone, leg}
use Rattle.diagram_terms.specs.ColimitRefusals.{Refusal, IsRefused}
use Rattle.diagram_terms.specs.Colimits.{IsColimit}
use Rattle.diagram_terms.specs.ColimitProgram.{colimit_of}

-- the singular slices k and k + 1 of C and the regular slice between them, in their order along C, with its two legs
abbrev pub two_heights : (d : ℕ) → Dia (suc d) → ℕ → Shape d
two_heights d C k = record {
  objects = sing d C k ∷ reg d C (suc k) ∷ sing d C (suc k) ∷ [];
  arrows = record { from = 1; to = 0; arrow = bwd d C k } ∷ record { from = 1; to = 2; arrow = fwd d C (suc k) } ∷ [];
}

-- what a contraction gives: the diagram, and the arrow to it
pub record Contraction (d : ℕ) : Type 0 where
  pub result : Dia d
  pub arrow : Arr d

-- the diagram that is stored for a contraction of C: C → X ← X with the arrow and the identity
abbrev pub stored_contraction : (d : ℕ) → Dia d → Contraction d → Dia (suc d)
stored_contraction d C c = cospan d C c.arrow c.result (ident d c.result) c.result

-- ---- the rule

-- X has one height in the place of the heights k and k + 1 of C. There the apex of the colimit of what stands at these heights
-- is the singular slice, and the legs of the two singular slices merge them. f has these legs there, and identities elsewhere.
pub record ContractsTo (d : ℕ) (C : Dia (suc d)) (k : ℕ) (biases : List Bias) (X : Dia (suc d)) (f : Arr (suc d)) : Type 0 where
  pub colimit : Cocone d
  pub fits : suc k < length C.sings
  pub is_colimit : IsColimit d (two_heights d C k) biases colimit
  pub result : X ≡ merged d C k colimit.apex (leg d colimit 0) (leg d colimit 2)
  pub arrow : f ≡ merging d C k (leg d colimit 0) (leg d colimit 2)

-- the heights k and k + 1 are contracted in the slice to which the path of singular heights leads; each slice around the path
-- keeps its heights, and the two legs into the slice that changed are followed by its arrow
abbrev pub ContractsAlong : (d : ℕ) → Dia d → List ℕ → ℕ → List Bias → Dia d → Arr d → Type 0
ContractsAlong zero C path k biases X f = ⊥
ContractsAlong (suc d) C [] k biases X f = ContractsTo d C k biases X f
ContractsAlong (suc d) C (p ∷ path) k biases X f = MergesInSlice d (λ S m. ContractsAlong d (sing d C p) path k biases S m) C p X f

-- why nothing is contracted: a step of the path, or the step after it, names no height, where the steps count from 0; or the
-- colimit is refused
pub data ContractionFault : Type 0 where
  no_height : ℕ → ContractionFault
  refused : Refusal → ContractionFault

-- what refuses at the end of the path: the step n after it names no two heights, or they have no colimit
pub data RefusesHere (n d : ℕ) (C : Dia (suc d)) (k : ℕ) (biases : List Bias) : ContractionFault → Type 0 where
  outside : (suc k < length C.sings → ⊥) → RefusesHere n d C k biases (no_height n)
  inside : suc k < length C.sings → (f : Refusal) → IsRefused d (two_heights d C k) biases f → RefusesHere n d C k biases (refused f)

-- what refuses at the step n of the path, which is p, or behind it, where N says what refuses there
pub data RefusesInSlice (n d : ℕ) (N : ContractionFault → Type 0) (C : Dia (suc d)) (p : ℕ) : ContractionFault → Type 0 where
  no_slice : (p < length C.sings → ⊥) → RefusesInSlice n d N C p (no_height n)
  in_slice : p < length C.sings → (e : ContractionFault) → N e → RefusesInSlice n d N C p e

-- e refuses the contraction along a path that begins with step n
abbrev pub RefusesAlong : ℕ → (d : ℕ) → Dia d → List ℕ → ℕ → List Bias → ContractionFault → Type 0
RefusesAlong n zero C path k biases e = e ≡ no_height n
RefusesAlong n (suc d) C [] k biases e = RefusesHere n d C k biases e
RefusesAlong n (suc d) C (p ∷ path) k biases e = RefusesInSlice n d (λ e. RefusesAlong (suc n) d (sing d C p) path k biases e) C p e

-- ---- the program

-- by the answer for the colimit of the two heights
abbrev pub by_colimit : (d : ℕ) → Dia (suc d) → ℕ → Result (Cocone d) Refusal → Result (Contraction (suc d)) ContractionFault
by_colimit d C k (Err f) = Err (refused f)
by_colimit d C k (Ok c) = Ok (record { result = merged d C k c.apex (leg d c 0) (leg d c 2); arrow = merging d C k (leg d c 0) (leg d c 2) })

-- by the answer for the slice p
abbrev pub by_slice : (d : ℕ) → Dia (suc d) → ℕ → Result (Contraction d) ContractionFault → Result (Contraction (suc d)) ContractionFault
by_slice d C p (Err e) = Err e
by_slice d C p (Ok c) = Ok (record { result = slice_replaced d C p c.result c.arrow; arrow = slice_replacing d C p c.arrow })

-- the contraction along a path that begins with step n, or its first refusal
unfoldable pub contract_from : ℕ → (d : ℕ) → Dia d → List ℕ → ℕ → List Bias → Result (Contraction d) ContractionFault
contract_from n zero C path k biases = Err (no_height n)
contract_from n (suc d) C [] k biases =
    if_passed (no_height n) (nat_lt (suc k) (length C.sings)) (by_colimit d C k (colimit_of d (two_heights d C k) biases))
contract_from n (suc d) C (p ∷ path) k biases =
    if_passed (no_height n) (nat_lt p (length C.sings)) (by_slice d C p (contract_from (suc n) d (sing d C p) path k biases))

abbrev pub contract : (d : ℕ) → Dia d → List ℕ → ℕ → List Bias → Result (Contraction d) ContractionFault
contract d C path k biases = contract_from 0 d C path k biases
