use Rattle.hashcons.specs.Contents.{arrow_at, diagram_at}
use Rattle.hashcons.specs.Gathers.{Gathers}
use Rattle.degeneracy.specs.SplitTrees.{middle_bwd}
use Rattle.degeneracy.proofs.parts.middle_bwds.Given as goal

abbrev pub invariant-loop-k : goal.invariant-loop-k
invariant-loop-k l = Gathers l.store.arrows l.ids.items l.k (middle_bwd (diagram_at l.store l.f.source) (arrow_at l.store l.f.arrow))
