use Rattle.std.proofs.Common.{◌≡◌, length, take}
use Rattle.diagram_terms.specs.Dual.{AreBelow, after}
use Rattle.monotone_dual.proofs.injection.places.Given as goal

abbrev pub invariant-loop-height : goal.invariant-loop-height
invariant-loop-height l = record {
  same : after l.e l.places ≡ take l.height-index l.f;
  below : AreBelow l.places (length l.e);
}
