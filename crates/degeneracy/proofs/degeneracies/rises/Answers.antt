use Rattle.std.proofs.Common.{refl, arith}
use Rattle.diagram_terms.specs.Tree.{heights}
use Rattle.hashcons.specs.Contents.{arrow_at}
use Rattle.degeneracy.proofs.DegeneraciesInStore.{adjacent_increases}
use Rattle.degeneracy.proofs.degeneracies.rises.Goals as goal

pub returns : goal.returns
returns c = (
  λ yes. adjacent_increases (heights (arrow_at c.args.store.now c.args.a)) (λ j l. c.loop-i.invariant j (omega arith)),
  λ h. refl,
)
