use Rattle.std.proofs.Common.{◌≡◌, take}
use Rattle.diagram_terms.specs.Dual.{after}
use Rattle.monotone_dual.proofs.composite.composite_heights.Given as goal

abbrev pub invariant-loop-height : goal.invariant-loop-height
invariant-loop-height l = l.heights ≡ after l.g (take l.height-index l.f)
