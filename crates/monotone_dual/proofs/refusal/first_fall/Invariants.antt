use Rattle.std.proofs.Common.{ℕ, ◌-◌, ◌<◌, ◌≤◌, get_or}
use Rattle.monotone_dual.proofs.refusal.first_fall.Given as goal

abbrev pub invariant-loop-at : goal.invariant-loop-at
invariant-loop-at l = (k : ℕ) → 0 < k → k < l.at → get_or l.heights (k - 1) 0 ≤ get_or l.heights k 0
