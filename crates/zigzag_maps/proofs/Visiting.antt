-- The first failure of tests that are visited a step further in, and height by height.
use Rattle.std.proofs.Common.{◌≡◌, ℕ, zero, suc, ◌+◌, ◌-◌, ◌<◌, ◌≤◌, List, ◌++◌, flat_map, None, Some, refl, ap, ◌∙◌, arith}
use Rattle.std.specs.List.{range_with_len}
use Rattle.std.proofs.lemmas.List.{append-nil}
use Rattle.diagram_terms.specs.declared.place.Place.{Place}
use Rattle.diagram_terms.specs.declared.place.Step.{Step}
use Rattle.diagram_terms.specs.Places.{Test, under, at_each, first_failure}
use Rattle.diagram_terms.proofs.Decisions.{passes_each, passes_under}
use Rattle.diagram_terms.proofs.FirstFaults.{none_iff_all_pass}
use Rattle.diagram_terms.proofs.Visiting.{append_passes, append_fails}

-- ---- a step further in

-- what passes a step further in passes
pub passed_under : (s : Step) (ts : List Test) → first_failure (under s ts) ≡ None → first_failure ts ≡ None
passed_under s ts e = (none_iff_all_pass ts).1 ((passes_under s ts).0 ((none_iff_all_pass (under s ts)).0 e))

-- ---- height by height

-- the tests at the heights from k on, below n
abbrev pub from_height : (ℕ → List Test) → ℕ → ℕ → List Test
from_height tests n k = flat_map tests (range_with_len k (n - k))

module _ (tests : ℕ → List Test) (n : ℕ) where
  pub visit_start : first_failure (from_height tests n 0) ≡ first_failure (at_each n tests)
  visit_start = let z : n - 0 ≡ n = omega arith in ap (λ m. first_failure (flat_map tests (range_with_len 0 m))) z

  pub visit_end : (k : ℕ) → n ≤ k → first_failure (from_height tests n k) ≡ None
  visit_end k l = let z : n - k ≡ 0 = omega arith in ap (λ m. first_failure (flat_map tests (range_with_len k m))) z

  more : (k : ℕ) → k < n → first_failure (from_height tests n k) ≡ first_failure (tests k ++ from_height tests n (k + 1))
  more k l = let z : n - k ≡ suc (n - (k + 1)) = omega arith in ap (λ m. first_failure (flat_map tests (range_with_len k m))) z

  -- a height that passes leaves it to the later ones
  pub visit_passes : (k : ℕ) → k < n → first_failure (tests k) ≡ None → first_failure (from_height tests n k) ≡ first_failure (from_height tests n (k + 1))
  visit_passes k l e = more k l ∙ append_passes (tests k) (from_height tests n (k + 1)) e

  -- one that fails is the first
  pub visit_fails : (k : ℕ) (p : Place) → k < n → first_failure (tests k) ≡ Some p → first_failure (from_height tests n k) ≡ Some p
  visit_fails k p l e = more k l ∙ append_fails (tests k) (from_height tests n (k + 1)) p e

  -- the last height decides
  pub visit_last : (k : ℕ) → n ≡ suc k → first_failure (from_height tests n k) ≡ first_failure (tests k)
  visit_last k e =
      let z : n - k ≡ 1 = omega arith in
      ap (λ m. first_failure (flat_map tests (range_with_len k m))) z ∙ ap first_failure (append-nil (tests k))

  -- no height fails where there is no first failure
  pub passed_each : first_failure (at_each n tests) ≡ None → (k : ℕ) → k < n → first_failure (tests k) ≡ None
  passed_each e k l = (none_iff_all_pass (tests k)).1 ((passes_each n tests).0 ((none_iff_all_pass (at_each n tests)).0 e) k l)

-- the tests of equal heights are equal
same_from : (f g : ℕ → List Test) (k n : ℕ) → ((j : ℕ) → k ≤ j → j < k + n → f j ≡ g j) → flat_map f (range_with_len k n) ≡ flat_map g (range_with_len k n)
same_from f g k zero e = refl
same_from f g k (suc n) e =
    (λ i. e k (omega arith) (omega arith) i ++ flat_map f (range_with_len (k + 1) n))
    ∙ ap (λ ts. g k ++ ts) (same_from f g (k + 1) n (λ j l m. e j (omega arith) (omega arith)))

pub same_each : (f g : ℕ → List Test) (n : ℕ) → ((j : ℕ) → j < n → f j ≡ g j) → at_each n f ≡ at_each n g
same_each f g n e = same_from f g 0 n (λ j l m. e j (omega arith))
