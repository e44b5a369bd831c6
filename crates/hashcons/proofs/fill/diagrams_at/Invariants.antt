use Rattle.hashcons.specs.Ids.{NameDiagrams}
use Rattle.hashcons.proofs.fill.diagrams_at.Given as goal

abbrev pub invariant-loop-place : goal.invariant-loop-place
invariant-loop-place l = NameDiagrams l.ids l.places l.place-index l.diagrams.items
