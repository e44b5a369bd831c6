-- When a count rose.
use Rattle.std.proofs.Common.{ℕ, ◌<◌, ◌≤◌, inl, inr, arith}
use Rattle.io_edge.specs.Counts.{Rose, last_count}

-- a count that rose in a part of a call rose in the call
pub Rose-within : (old before after new : ℕ)
    → old ≤ before → before ≤ after → Rose before after → after ≤ new → Rose old new
Rose-within old before after new earlier kept (inl more) later = inl (omega arith)
Rose-within old before after new earlier kept (inr last) later = grind arith

-- a constant count below the last value does not rise
pub constant_never_rose : (count : ℕ) → count < last_count → Rose count count → ⊥
constant_never_rose count below (inl more) = omega arith
constant_never_rose count below (inr last) = omega arith
