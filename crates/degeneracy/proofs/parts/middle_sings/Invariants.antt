use Rattle.hashcons.specs.Contents.{arrow_at, diagram_at}
use Rattle.hashcons.specs.Gathers.{Gathers}
use Rattle.degeneracy.specs.SplitTrees.{middle_sing}
use Rattle.degeneracy.proofs.parts.middle_sings.Given as goal

abbrev pub invariant-loop-k : goal.invariant-loop-k
invariant-loop-k l = Gathers l.store.diagrams l.ids.items l.k (middle_sing (diagram_at l.store l.f.source) (arrow_at l.store l.f.arrow))
