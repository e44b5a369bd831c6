-- Settling: the least height at which a contraction is accepted is contracted, until there is none.
use Rattle.std.specs.Prelude.{◌≡◌, ℕ, zero, suc, ◌<◌, Bool, true, if◌then◌else◌, List, [], ◌∷◌, length, map, Option, Some, None, Result, Ok, Err}
use Rattle.diagram_terms.specs.Family.{Dia}
use Rattle.diagram_terms.specs.Composite.{ident}
use Rattle.diagram_terms.specs.Contraction.{Contraction, stored_contraction, ContractsTo, ContractionFault, contract}

-- one step: the height, and its contraction
pub record Step (d : ℕ) : Type 0 where
  pub height : ℕ
  pub contraction : Contraction d

-- what is left after the steps
abbrev pub settled : (d : ℕ) → Dia d → List (Step d) → Dia d
settled d C [] = C
settled d C (s ∷ steps) = settled d s.contraction.result steps

-- the diagram that holds the steps: from each diagram the arrow to the next, and back the identity
abbrev pub all_steps : (d : ℕ) → Dia d → List (Step d) → Dia (suc d)
all_steps d C steps = record {
  regs = C ∷ map (λ s. s.contraction.result) steps;
  sings = map (λ s. s.contraction.result) steps;
  fwds = map (λ s. s.contraction.arrow) steps;
  bwds = map (λ s. ident d s.contraction.result) steps;
}

-- ---- the rule, for a test of the diagrams that are stored

module _ (d : ℕ) (accept : Dia (suc (suc d)) → Bool) where
  -- C opens to c at the height k: without a bias c is the contraction there, and what is stored passes the test
  pub record OpensTo (C : Dia (suc d)) (k : ℕ) (c : Contraction (suc d)) : Type 0 where
    pub contracts : ContractsTo d C k [] c.result c.arrow
    pub accepted : accept (stored_contraction (suc d) C c) ≡ true

  -- no height of C is open
  abbrev pub IsSettled : Dia (suc d) → Type 0
  IsSettled C = (k : ℕ) (c : Contraction (suc d)) → OpensTo C k c → ⊥

  -- s is the step at the least open height of C
  pub record IsLeastStep (C : Dia (suc d)) (s : Step (suc d)) : Type 0 where
    pub opens : OpensTo C s.height s.contraction
    pub least : (k : ℕ) (c : Contraction (suc d)) → k < s.height → OpensTo C k c → ⊥

  -- each of the steps is at the least open height, and in the end no height is open
  abbrev pub Settles : Dia (suc d) → List (Step (suc d)) → Type 0
  Settles C [] = IsSettled C
  Settles C (s ∷ steps) = IsLeastStep C s × Settles s.contraction.result steps

  -- ---- the program

  -- the contraction at a height, if it is accepted
  abbrev pub if_accepted : Dia (suc d) → Result (Contraction (suc d)) ContractionFault → Option (Contraction (suc d))
  if_accepted C (Err e) = None
  if_accepted C (Ok c) = if accept (stored_contraction (suc d) C c) then Some c else None

  unfoldable pub open_at : Dia (suc d) → ℕ → Option (Contraction (suc d))
  open_at C k = if_accepted C (contract (suc d) C [] k [])

  -- the first of n heights from k on that is open
  abbrev pub or_later : ℕ → Option (Contraction (suc d)) → Option (Step (suc d)) → Option (Step (suc d))
  or_later k None later = later
  or_later k (Some c) later = Some (record { height = k; contraction = c })

  unfoldable pub first_open : Dia (suc d) → ℕ → ℕ → Option (Step (suc d))
  first_open C k zero = None
  first_open C k (suc n) = or_later k (open_at C k) (first_open C (suc k) n)

  -- a step, if there is one, and what follows
  abbrev pub and_then : Option (Step (suc d)) → (Step (suc d) → List (Step (suc d))) → List (Step (suc d))
  and_then None more = []
  and_then (Some s) more = s ∷ more s

  -- at most n steps
  unfoldable pub steps_of : ℕ → Dia (suc d) → List (Step (suc d))
  steps_of zero C = []
  steps_of (suc n) C = and_then (first_open C 0 (length C.sings)) (λ s. steps_of n s.contraction.result)

  -- all steps
  unfoldable pub settle : Dia (suc d) → List (Step (suc d))
  settle C = steps_of (length C.sings) C
