use Rattle.std.proofs.Common.{arith}
use Rattle.diagram_terms.proofs.Injections.{mono_from_steps}
use Rattle.monotone_dual.proofs.refusal.first_fall.Goals as goal

pub returns : goal.returns
returns c = mono_from_steps c.args.heights.now (λ k p l. c.loop-at.invariant k p (omega arith))
