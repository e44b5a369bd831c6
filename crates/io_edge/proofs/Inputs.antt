-- What was taken of an input.
use Rattle.std.proofs.Common.{◌≡◌, ℕ, ◌+◌, ◌<◌, List, ◌++◌, length, Option, Some, None, unwrap_or, refl, sym, ap, ◌∙◌, arith, append-nil, length-append}
use Rattle.std.specs.Prelude.{IfSome}
use Rattle.std.specs.Io.KnownBytes.{Consumes, IsAtEnd}

-- what was taken up to the end is what was left
pub whole_input : (old new : Option (List ℕ)) (taken : List ℕ)
    → Consumes old new taken → IsAtEnd new → IfSome old (λ left. taken ≡ left)
whole_input None new taken p q = tt
whole_input (Some x) None taken p q = absurd p
whole_input (Some x) (Some y) taken p q = sym (p ∙ ap (λ (l : List ℕ). taken ++ l) q ∙ append-nil taken)

-- some input of which this was taken: the one that is told, or else what was taken itself
abbrev pub input_from : Option (List ℕ) → List ℕ → List ℕ
input_from left taken = unwrap_or left taken

pub input_from_is : (left : Option (List ℕ)) (taken : List ℕ) → IfSome left (λ l. input_from left taken ≡ l)
input_from_is None taken = tt
input_from_is (Some x) taken = refl

-- an input of which more than n bytes were taken is longer than n
pub longer : (old new : Option (List ℕ)) (taken : List ℕ) (n : ℕ)
    → Consumes old new taken → length taken ≡ n + 1 → n < length (input_from old taken)
longer None new taken n p long = omega arith
longer (Some x) None taken n p long = absurd p
longer (Some x) (Some y) taken n p long = omega (arith, ap length p, length-append taken y)
