use Rattle.hashcons.specs.Contents.{arrow_at, diagram_at}
use Rattle.hashcons.specs.Gathers.{Gathers}
use Rattle.degeneracy.specs.SplitTrees.{middle_reg}
use Rattle.degeneracy.proofs.parts.middle_regs.Given as goal

abbrev pub invariant-loop-k : goal.invariant-loop-k
invariant-loop-k l = Gathers l.store.diagrams l.ids.items l.k (middle_reg (diagram_at l.store l.f.source) (arrow_at l.store l.f.arrow))
