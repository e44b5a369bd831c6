-- The first failure of a list of tests that is made of parts.
use Rattle.std.proofs.Common.{◌≡◌, ℕ, zero, suc, ◌+◌, ◌<◌, ◌≤◌, List, [], ◌∷◌, ◌++◌, Bool, true, false, None, Some, option_map, refl, sym, ap, ◌∙◌, subst, inl, inr, arith}
use Rattle.std.specs.List.{flat_map, range_with_len}
use Rattle.std.proofs.lemmas.Bool.{cases_Bool, cases_lt}
use Rattle.std.proofs.lemmas.Option.{none-some}
use Rattle.diagram_terms.specs.declared.place.Place.{Place}
use Rattle.diagram_terms.specs.declared.place.Step.{Step}
use Rattle.diagram_terms.specs.declared.place.End.{End}
use Rattle.diagram_terms.specs.Places.{Test, here, further_in, one_step_in, under, at_each, first_failure}
use Rattle.diagram_terms.proofs.FirstFaults.{first_failed, first_passed}

-- ---- one test

pub here_passes : (e : End) (holds : Bool) → holds ≡ true → first_failure (here e holds) ≡ None
here_passes e holds h = first_passed _ [] h

pub here_fails : (e : End) (holds : Bool) → holds ≡ false → first_failure (here e holds) ≡ Some (record { steps = []; end = e })
here_fails e holds h = first_failed _ [] h

-- ---- one list after another

-- where nothing fails in the first list, the second decides
pub append_passes : (ts us : List Test) → first_failure ts ≡ None → first_failure (ts ++ us) ≡ first_failure us
append_passes [] us e = refl
append_passes (t ∷ ts) us e = elim (cases_Bool t.holds) [
  | inl h ↦ first_passed t (ts ++ us) h ∙ append_passes ts us (sym (first_passed t ts h) ∙ e)
  | inr h ↦ absurd (none-some t.place (sym e ∙ first_failed t ts h))
]

-- a failure in the first list is that of both
pub append_fails : (ts us : List Test) (p : Place) → first_failure ts ≡ Some p → first_failure (ts ++ us) ≡ Some p
append_fails [] us p e = absurd (none-some p e)
append_fails (t ∷ ts) us p e = elim (cases_Bool t.holds) [
  | inl h ↦ first_passed t (ts ++ us) h ∙ append_fails ts us p (sym (first_passed t ts h) ∙ e)
  | inr h ↦ first_failed t (ts ++ us) h ∙ sym (first_failed t ts h) ∙ e
]

-- ---- one step further in

pub first_failure-under : (s : Step) (ts : List Test) → first_failure (under s ts) ≡ option_map (further_in s) (first_failure ts)
first_failure-under s [] = refl
first_failure-under s (t ∷ ts) = elim (cases_Bool t.holds) [
  | inl h ↦ first_passed (one_step_in s t) (under s ts) h ∙ first_failure-under s ts ∙ ap (option_map (further_in s)) (sym (first_passed t ts h))
  | inr h ↦ first_failed (one_step_in s t) (under s ts) h ∙ ap (option_map (further_in s)) (sym (first_failed t ts h))
]

pub under_passes : (s : Step) (ts : List Test) → first_failure ts ≡ None → first_failure (under s ts) ≡ None
under_passes s ts e = first_failure-under s ts ∙ ap (option_map (further_in s)) e

pub under_fails : (s : Step) (ts : List Test) (p : Place) → first_failure ts ≡ Some p → first_failure (under s ts) ≡ Some (further_in s p)
under_fails s ts p e = first_failure-under s ts ∙ ap (option_map (further_in s)) e

-- ---- the tests at each height

module _ (tests : ℕ → List Test) where
  from_passes : (a n : ℕ) → ((i : ℕ) → a ≤ i → i < a + n → first_failure (tests i) ≡ None)
      → first_failure (flat_map tests (range_with_len a n)) ≡ None
  from_passes a zero h = refl
  from_passes a (suc n) h =
      append_passes (tests a) (flat_map tests (range_with_len (a + 1) n)) (h a (omega arith) (omega arith))
      ∙ from_passes (a + 1) n (λ i l k. h i (omega arith) (omega arith))

  from_fails : (a n k : ℕ) (p : Place) → a ≤ k → k < a + n → ((i : ℕ) → a ≤ i → i < k → first_failure (tests i) ≡ None)
      → first_failure (tests k) ≡ Some p → first_failure (flat_map tests (range_with_len a n)) ≡ Some p
  from_fails a zero k p low high before e = absurd (omega arith)
  from_fails a (suc n) k p low high before e = elim (cases_lt a k) [
    | inl l ↦ append_passes (tests a) (flat_map tests (range_with_len (a + 1) n)) (before a (omega arith) l)
        ∙ from_fails (a + 1) n k p (omega arith) (omega arith) (λ i m q. before i (omega arith) q) e
    | inr l ↦ (let same : k ≡ a = omega arith in
        append_fails (tests a) (flat_map tests (range_with_len (a + 1) n)) p (subst (λ (j : ℕ). first_failure (tests j) ≡ Some p) same e))
  ]

  -- nothing fails where nothing fails at any height
  pub each_passes : (n : ℕ) → ((i : ℕ) → i < n → first_failure (tests i) ≡ None) → first_failure (at_each n tests) ≡ None
  each_passes n h = from_passes 0 n (λ i low l. h i (omega arith))

  -- the first failure is that of the first height at which something fails
  pub each_fails : (n k : ℕ) (p : Place) → k < n → ((i : ℕ) → i < k → first_failure (tests i) ≡ None)
      → first_failure (tests k) ≡ Some p → first_failure (at_each n tests) ≡ Some p
  each_fails n k p l before e = from_fails 0 n k p (omega arith) (omega arith) (λ i low m. before i m) e

  -- nothing fails at the heights below k
  abbrev pub PassBefore : ℕ → Type 0
  PassBefore k = (i : ℕ) → i < k → first_failure (tests i) ≡ None

  pub one_more_passes : (k : ℕ) → PassBefore k → first_failure (tests k) ≡ None → PassBefore (k + 1)
  one_more_passes k h e i l = elim (cases_lt i k) [
    | inl m ↦ h i m
    | inr m ↦ (let same : k ≡ i = omega arith in subst (λ (j : ℕ). first_failure (tests j) ≡ None) same e)
  ]

-- ---- three and four lists, one after the other

module _ (ts us vs ws : List Test) where
  pub first_of_four : (p : Place) → first_failure ts ≡ Some p → Some p ≡ first_failure (ts ++ us ++ vs ++ ws)
  first_of_four p e = sym (append_fails (ts ++ us ++ vs) ws p (append_fails (ts ++ us) vs p (append_fails ts us p e)))

  pub second_of_four : (p : Place) → first_failure ts ≡ None → Some p ≡ first_failure us → Some p ≡ first_failure (ts ++ us ++ vs ++ ws)
  second_of_four p a e = sym (append_fails (ts ++ us ++ vs) ws p (append_fails (ts ++ us) vs p (append_passes ts us a ∙ sym e)))

  pub third_of_four : (p : Place) → first_failure ts ≡ None → None ≡ first_failure us → Some p ≡ first_failure vs → Some p ≡ first_failure (ts ++ us ++ vs ++ ws)
  third_of_four p a b e = sym (append_fails (ts ++ us ++ vs) ws p (append_passes (ts ++ us) vs (append_passes ts us a ∙ sym b) ∙ sym e))

  pub last_of_four : first_failure ts ≡ None → None ≡ first_failure us → None ≡ first_failure vs → first_failure ws ≡ first_failure (ts ++ us ++ vs ++ ws)
  last_of_four a b e = sym (append_passes (ts ++ us ++ vs) ws (append_passes (ts ++ us) vs (append_passes ts us a ∙ sym b) ∙ sym e))

module _ (ts us vs : List Test) where
  pub first_of_three : (p : Place) → Some p ≡ first_failure ts → Some p ≡ first_failure (ts ++ us ++ vs)
  first_of_three p e = sym (append_fails (ts ++ us) vs p (append_fails ts us p (sym e)))

  pub second_of_three : (p : Place) → None ≡ first_failure ts → Some p ≡ first_failure us → Some p ≡ first_failure (ts ++ us ++ vs)
  second_of_three p a e = sym (append_fails (ts ++ us) vs p (append_passes ts us (sym a) ∙ sym e))

  pub last_of_three : None ≡ first_failure ts → None ≡ first_failure us → first_failure vs ≡ first_failure (ts ++ us ++ vs)
  last_of_three a b = sym (append_passes (ts ++ us) vs (append_passes ts us (sym a) ∙ sym b))
