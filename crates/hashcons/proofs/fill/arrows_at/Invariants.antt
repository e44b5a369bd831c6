use Rattle.hashcons.specs.Ids.{NameArrows}
use Rattle.hashcons.proofs.fill.arrows_at.Given as goal

abbrev pub invariant-loop-place : goal.invariant-loop-place
invariant-loop-place l = NameArrows l.ids l.places l.place-index l.arrows.items
