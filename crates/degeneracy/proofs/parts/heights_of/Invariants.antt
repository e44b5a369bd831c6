use Rattle.std.proofs.Common.{◌≡◌, take}
use Rattle.diagram_terms.specs.Tree.{heights}
use Rattle.hashcons.specs.Contents.{arrow_at}
use Rattle.degeneracy.proofs.parts.heights_of.Given as goal

abbrev pub invariant-loop-i : goal.invariant-loop-i
invariant-loop-i l = l.heights.items ≡ take l.i (heights (arrow_at l.store l.a))
