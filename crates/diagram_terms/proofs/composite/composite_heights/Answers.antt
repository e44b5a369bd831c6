use Rattle.std.proofs.Common.{arith}
use Rattle.std.proofs.lemmas.Grind.{common_steps}
use Rattle.diagram_terms.specs.Dual.{after}
use Rattle.diagram_terms.proofs.composite.composite_heights.Goals as goal

pub returns : goal.returns
unfolding after
returns c = grind (arith, common_steps)
