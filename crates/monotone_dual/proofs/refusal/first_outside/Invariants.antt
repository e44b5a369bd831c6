use Rattle.std.proofs.Common.{ℕ, ◌<◌, get_or}
use Rattle.monotone_dual.proofs.refusal.first_outside.Given as goal

abbrev pub invariant-loop-at : goal.invariant-loop-at
invariant-loop-at l = (k : ℕ) → k < l.at → get_or l.heights k 0 < l.target_len
