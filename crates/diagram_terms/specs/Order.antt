-- The order of visiting as data: the steps from a diagram to its parts.
use Rattle.std.specs.Prelude.{◌≡◌, ℕ, suc, ◌+◌, ◌-◌, ◌<◌, ◌≤◌, List, [], ◌∷◌, ◌++◌, map, Option, Some, None}
use Rattle.std.specs.List.{flat_map, range_with_len}
use Rattle.diagram_terms.specs.declared.place.Step.{Step}
use Rattle.diagram_terms.specs.declared.place.Step.TheVariants as step
use Rattle.diagram_terms.specs.Places.{Test, first_failure}

-- of a diagram of length n: the legs from the height k on, each height's leg forward before its leg backward
abbrev pub leg_steps : ℕ → ℕ → List Step
leg_steps n k = flat_map (λ i. step.F i ∷ step.B i ∷ []) (range_with_len k (n - k))

-- the singular slices from i on, and the legs
abbrev pub sing_steps : ℕ → ℕ → List Step
sing_steps n i = map (λ j. step.S j) (range_with_len i (n - i)) ++ leg_steps n 0

-- the regular slices from j on, and all that comes after them
abbrev pub reg_steps : ℕ → ℕ → List Step
reg_steps n j = map (λ i. step.R i) (range_with_len j (suc n - j)) ++ sing_steps n 0

-- all steps
abbrev pub steps : ℕ → List Step
steps n = reg_steps n 0

-- the steps from one on
abbrev pub steps_from : ℕ → Step → List Step
steps_from n step.SourceEnd = []
steps_from n step.TargetEnd = []
steps_from n (step.R j) = reg_steps n j
steps_from n (step.S i) = sing_steps n i
steps_from n (step.F k) = leg_steps n k
steps_from n (step.B k) = step.B k ∷ leg_steps n (k + 1)

-- from the next one on, if there is one
abbrev pub steps_on : ℕ → Option Step → List Step
steps_on n None = []
steps_on n (Some s) = steps_from n s

-- the step leads to a part of a diagram of length n
abbrev pub LeadsIn : ℕ → Step → Type 0
LeadsIn n step.SourceEnd = ⊥
LeadsIn n step.TargetEnd = ⊥
LeadsIn n (step.R j) = j ≤ n
LeadsIn n (step.S i) = i < n
LeadsIn n (step.F k) = k < n
LeadsIn n (step.B k) = k < n

-- the tests of the parts to which these steps lead
abbrev pub in_order : List Step → (Step → List Test) → List Test
in_order ss tests = flat_map tests ss

-- how many regular slices, and how many singular ones, are visited before the next step
abbrev pub regs_before : ℕ → Option Step → ℕ
regs_before n (Some (step.R j)) = j
regs_before n next = suc n

abbrev pub sings_before : ℕ → Option Step → ℕ
sings_before n (Some (step.R j)) = 0
sings_before n (Some (step.S i)) = i
sings_before n next = n

-- and once a step was made
abbrev pub regs_after : ℕ → Step → ℕ
regs_after n (step.R j) = suc j
regs_after n s = suc n

abbrev pub sings_after : ℕ → Step → ℕ
sings_after n (step.R j) = 0
sings_after n (step.S i) = suc i
sings_after n s = n

-- no test of the slices that are visited before the next step fails
pub record PassedBefore (tests : Step → List Test) (regs sings : ℕ) : Type 0 where
  pub regs_pass : (j : ℕ) → j < regs → None ≡ first_failure (tests (step.R j))
  pub sings_pass : (i : ℕ) → i < sings → None ≡ first_failure (tests (step.S i))
