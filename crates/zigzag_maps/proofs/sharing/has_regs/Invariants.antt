use Rattle.std.proofs.Common.{◌≡◌, ℕ, ◌<◌, get_or}
use Rattle.diagram_terms.specs.Shape.{reg_at}
use Rattle.hashcons.specs.Contents.{arrow_at}
use Rattle.zigzag_maps.proofs.sharing.has_regs.Given as goal

abbrev pub invariant-loop-at : goal.invariant-loop-at
invariant-loop-at l = (j : ℕ) → j < l.at → arrow_at l.store (get_or l.slices j 0) ≡ reg_at (arrow_at l.store l.a) j
