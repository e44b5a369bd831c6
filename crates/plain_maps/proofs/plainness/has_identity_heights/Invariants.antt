use Rattle.std.proofs.Common.{◌≡◌, ℕ, ◌<◌, get_or}
use Rattle.diagram_terms.specs.Tree.{heights}
use Rattle.hashcons.specs.Contents.{arrow_at}
use Rattle.plain_maps.proofs.plainness.has_identity_heights.Given as goal

abbrev pub invariant-loop-i : goal.invariant-loop-i
invariant-loop-i l = (k : ℕ) → k < l.i → get_or (heights (arrow_at l.store l.a)) k 0 ≡ k
