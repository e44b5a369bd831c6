use Rattle.hashcons.specs.Contents.{Grows, arrow_at, diagram_at}
use Rattle.hashcons.specs.Gathers.{Gathers}
use Rattle.degeneracy.specs.SplitTrees.{simple_reg}
use Rattle.degeneracy.proofs.parts.regular_identities.Given as goal

abbrev pub invariant-loop-k : goal.invariant-loop-k
invariant-loop-k l = record {
  grows : Grows l.fn.store l.store;
  gathers : Gathers l.store.arrows l.ids.items l.k (simple_reg (diagram_at l.fn.store l.f.source) (arrow_at l.fn.store l.f.arrow));
}
