use Rattle.diagram_terms.specs.Operations.{identity_tree}
use Rattle.diagram_terms.specs.Shape.{sing_at}
use Rattle.hashcons.specs.Contents.{Grows, diagram_at}
use Rattle.hashcons.specs.Gathers.{Gathers}
use Rattle.degeneracy.proofs.parts.singular_identities.Given as goal

abbrev pub invariant-loop-i : goal.invariant-loop-i
invariant-loop-i l = record {
  grows : Grows l.fn.store l.store;
  gathers : Gathers l.store.arrows l.ids.items l.i (λ i. identity_tree (sing_at (diagram_at l.fn.store l.d) i));
}
