use Rattle.diagram_terms.specs.Shape.{reg_at}
use Rattle.hashcons.specs.Contents.{arrow_at}
use Rattle.hashcons.specs.Gathers.{Gathers}
use Rattle.degeneracy.proofs.parts.regs_of.Given as goal

abbrev pub invariant-loop-k : goal.invariant-loop-k
invariant-loop-k l = Gathers l.store.arrows l.ids.items l.k (reg_at (arrow_at l.store l.a))
