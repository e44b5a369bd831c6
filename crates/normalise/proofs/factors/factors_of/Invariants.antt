use Rattle.hashcons.specs.Contents.{Grows}
use Rattle.hashcons.specs.NoteTables.{key_of}
use Rattle.normalise.specs.StoreForms.{AreFactorsOf}
use Rattle.normalise.proofs.factors.factors_of.Given as goal

abbrev pub invariant-loop-i : goal.invariant-loop-i
invariant-loop-i l = record {
  grows : Grows l.fn.store l.store;
  factors : AreFactorsOf l.store (key_of l.key) (l.fn.source, l.fn.arrow) l.i l.factors.items;
}
