use Rattle.std.proofs.Common.{◌≡◌, replicate}
use Rattle.boundary_paths.proofs.cones.zeros.Given as goal

abbrev pub invariant-loop : goal.invariant-loop
invariant-loop l = l.heights.items ≡ replicate l.counter 0
