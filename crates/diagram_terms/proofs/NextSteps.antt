-- Visiting the parts of a diagram step by step: the first failure among the tests of the parts.
use Rattle.std.proofs.Common.{◌≡◌, ℕ, suc, ◌+◌, ◌-◌, ◌<◌, ◌≤◌, List, [], ◌∷◌, ◌++◌, map, Option, option_map, Some, None, refl, sym, ap, ◌∙◌, append_assoc, subst, inl, inr, arith}
use Rattle.std.proofs.lemmas.Bool.{cases_lt}
use Rattle.std.specs.List.{flat_map, range_with_len}
use Rattle.std.proofs.lemmas.Grind.{flat_map-append}
use Rattle.diagram_terms.specs.declared.place.Place.{Place}
use Rattle.diagram_terms.specs.declared.place.Step.{Step}
use Rattle.diagram_terms.specs.declared.place.Step.TheVariants as step
use Rattle.diagram_terms.specs.Places.{Test, further_in, under, at_each, first_failure}
use Rattle.diagram_terms.proofs.Visiting.{append_passes, append_fails, first_failure-under}
use Rattle.diagram_terms.specs.Order.{PassedBefore, regs_before, sings_before, regs_after, sings_after, leg_steps, sing_steps, reg_steps, steps, steps_from, LeadsIn, in_order}

-- ---- the next step

range_next : (a n m : ℕ) → n ≡ suc m → range_with_len a n ≡ a ∷ range_with_len (a + 1) m
range_next a n m e = ap (range_with_len a) e

range_done : (a n : ℕ) → n ≡ 0 → range_with_len a n ≡ []
range_done a n e = ap (range_with_len a) e

-- a shorter list in front
in_front : {A : Type 0} (f : List ℕ → List A) (ns ms : List ℕ) (rest : List A) → ns ≡ ms → f ns ++ rest ≡ f ms ++ rest
in_front f ns ms rest e = ap (λ xs. f xs ++ rest) e

abbrev rs : List ℕ → List Step
rs ns = map (λ i. step.R i) ns

abbrev ss : List ℕ → List Step
ss ns = map (λ i. step.S i) ns

abbrev ls : List ℕ → List Step
ls ns = flat_map (λ i. step.F i ∷ step.B i ∷ []) ns

pub reg_then_reg : (n j : ℕ) → j < n → reg_steps n j ≡ step.R j ∷ reg_steps n (j + 1)
reg_then_reg n j l = in_front rs _ _ (sing_steps n 0) (range_next j (suc n - j) (suc n - (j + 1)) (omega arith))

pub reg_then_sing : (n j : ℕ) → n ≡ j → reg_steps n j ≡ step.R j ∷ sing_steps n 0
reg_then_sing n j e =
    in_front rs _ _ (sing_steps n 0) (range_next j (suc n - j) 0 (omega arith))

pub sing_then_sing : (n i : ℕ) → i + 1 < n → sing_steps n i ≡ step.S i ∷ sing_steps n (i + 1)
sing_then_sing n i l = in_front ss _ _ (leg_steps n 0) (range_next i (n - i) (n - (i + 1)) (omega arith))

pub sing_then_legs : (n i : ℕ) → i + 1 ≡ n → sing_steps n i ≡ step.S i ∷ leg_steps n 0
sing_then_legs n i e =
    in_front ss _ _ (leg_steps n 0) (range_next i (n - i) 0 (omega arith))

pub fwd_then_bwd : (n k : ℕ) → k < n → leg_steps n k ≡ step.F k ∷ step.B k ∷ leg_steps n (k + 1)
fwd_then_bwd n k l = ap ls (range_next k (n - k) (n - (k + 1)) (omega arith))

pub none_after : (n k : ℕ) → n ≤ k → leg_steps n k ≡ []
none_after n k l = ap ls (range_done k (n - k) (omega arith))

pub none_in_zero_length : (n : ℕ) → n ≤ 0 → sing_steps n 0 ≡ []
none_in_zero_length n l = (λ i. ss (range_done 0 (n - 0) (omega arith) i) ++ none_after n 0 (omega arith) i)

-- the list from a step on begins with it
pub begins : (n : ℕ) (s : Step) → LeadsIn n s → (rest : List Step) × (steps_from n s ≡ s ∷ rest)
begins n step.SourceEnd h = absurd h
begins n step.TargetEnd h = absurd h
begins n (step.R j) h = (_, in_front rs _ _ (sing_steps n 0) (range_next j (suc n - j) (n - j) (omega arith)))
begins n (step.S i) h = (_, in_front ss _ _ (leg_steps n 0) (range_next i (n - i) (n - (i + 1)) (omega arith)))
begins n (step.F k) h = (_, fwd_then_bwd n k h)
begins n (step.B k) h = (_, refl)

pub ruleset order = (reg_then_reg, reg_then_sing, sing_then_sing, sing_then_legs, fwd_then_bwd, none_after, none_in_zero_length)

-- ---- the first failure

-- of the parts from a step on, where what was found in the part to which it leads is a place, and where it is none
module _ (tests : Step → List Test) (n : ℕ) (s : Step) (found place : Option Place) (exact : found ≡ first_failure (tests s))
    (here : place ≡ option_map (further_in s) found) where
  abbrev seen : Step → List Test
  seen u = under u (tests u)

  seen_is : first_failure (seen s) ≡ place
  seen_is = first_failure-under s (tests s) ∙ sym (ap (option_map (further_in s)) exact) ∙ sym here

  pub part_fails : (p : Place) → LeadsIn n s → place ≡ Some p → Some p ≡ first_failure (in_order (steps_from n s) seen)
  part_fails p leads e =
      let b = begins n s leads in
      sym (ap (λ us. first_failure (in_order us seen)) b.1 ∙ append_fails (seen s) (in_order b.0 seen) p (seen_is ∙ e))

  pub part_passes : (rest : List Step) → steps_from n s ≡ s ∷ rest → place ≡ None
      → first_failure (in_order rest seen) ≡ first_failure (in_order (steps_from n s) seen)
  part_passes rest next e =
      sym (ap (λ us. first_failure (in_order us seen)) next ∙ append_passes (seen s) (in_order rest seen) (seen_is ∙ e))

-- ---- the tests of the parts, by slices and heights

-- a fact of each number below j, and of j
below_suc : (P : ℕ → Type 0) (j : ℕ) → ((i : ℕ) → i < j → P i) → P j → (i : ℕ) → i < suc j → P i
below_suc P j h p i l = elim (cases_lt i j) [ inl m ↦ h i m | inr m ↦ (let e : j ≡ i = omega arith in subst P e p) ]

in_map : (tests : Step → List Test) (f : ℕ → Step) (ns : List ℕ) → flat_map (λ i. tests (f i)) ns ≡ flat_map tests (map f ns)
in_map tests f [] = refl
in_map tests f (n ∷ ns) = ap (λ ts. tests (f n) ++ ts) (in_map tests f ns)

in_legs : (tests : Step → List Test) (ns : List ℕ) → flat_map (λ k. tests (step.F k) ++ tests (step.B k)) ns ≡ flat_map tests (ls ns)
in_legs tests [] = refl
in_legs tests (n ∷ ns) =
    append_assoc (tests (step.F n)) (tests (step.B n)) _ ∙ ap (λ ts. tests (step.F n) ++ (tests (step.B n) ++ ts)) (in_legs tests ns)

pub by_steps : (tests : Step → List Test) (n : ℕ)
    → at_each (suc n) (λ j. tests (step.R j)) ++ at_each n (λ i. tests (step.S i)) ++ at_each n (λ k. tests (step.F k) ++ tests (step.B k))
    ≡ in_order (steps n) tests
by_steps tests n =
    let p : at_each (suc n) (λ j. tests (step.R j)) ≡ flat_map tests (rs (range_with_len 0 (suc n - 0))) =
    let e : suc n ≡ suc n - 0 = omega arith in in_map tests (λ i. step.R i) (range_with_len 0 (suc n)) ∙ ap (λ m. flat_map tests (rs (range_with_len 0 m))) e in
    let q : at_each n (λ i. tests (step.S i)) ≡ flat_map tests (ss (range_with_len 0 (n - 0))) =
    let e : n ≡ n - 0 = omega arith in in_map tests (λ i. step.S i) (range_with_len 0 n) ∙ ap (λ m. flat_map tests (ss (range_with_len 0 m))) e in
    let r : at_each n (λ k. tests (step.F k) ++ tests (step.B k)) ≡ flat_map tests (leg_steps n 0) =
    let e : n ≡ n - 0 = omega arith in in_legs tests (range_with_len 0 n) ∙ ap (λ m. flat_map tests (ls (range_with_len 0 m))) e in
    (λ i. p i ++ q i ++ r i)
    ∙ append_assoc (flat_map tests (rs (range_with_len 0 (suc n - 0)))) _ _
    ∙ ap (λ ts. flat_map tests (rs (range_with_len 0 (suc n - 0))) ++ ts) (sym (flat_map-append tests (ss (range_with_len 0 (n - 0))) (leg_steps n 0)))
    ∙ sym (flat_map-append tests (rs (range_with_len 0 (suc n - 0))) (sing_steps n 0))

-- ---- what has passed

-- where no place was found, none was found further in
pub none_in_part : (s : Step) (found place : Option Place) (ts : List Test) → found ≡ first_failure ts → place ≡ option_map (further_in s) found
    → place ≡ None → None ≡ first_failure ts
none_in_part s None place ts e h n = e
none_in_part s (Some p) place ts e h n = absurd (let q : None ≡ Some (further_in s p) = sym n ∙ h in cc)

pub passed-none : (tests : Step → List Test) → PassedBefore tests 0 0
passed-none tests = record { regs_pass = λ j l. absurd (omega arith); sings_pass = λ i l. absurd (omega arith) }

-- once a step was made to a part that passes
pub passed-more : (tests : Step → List Test) (n : ℕ) (s : Step) → PassedBefore tests (regs_before n (Some s)) (sings_before n (Some s))
    → None ≡ first_failure (tests s) → PassedBefore tests (regs_after n s) (sings_after n s)
passed-more tests n step.SourceEnd h e = h
passed-more tests n step.TargetEnd h e = h
passed-more tests n (step.R j) h e = record { regs_pass = below_suc (λ k. None ≡ first_failure (tests (step.R k))) j h.regs_pass e; sings_pass = h.sings_pass }
passed-more tests n (step.S i) h e = record { regs_pass = h.regs_pass; sings_pass = below_suc (λ k. None ≡ first_failure (tests (step.S k))) i h.sings_pass e }
passed-more tests n (step.F k) h e = h
passed-more tests n (step.B k) h e = h
