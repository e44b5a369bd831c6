use Rattle.std.proofs.Common.{◌≡◌, ◌+◌, ◌*◌, length, IfSome}
use Rattle.diagram_terms.specs.Order.{steps_on, LeadsIn, PassedBefore, regs_before, sings_before, in_order}
use Rattle.diagram_terms.specs.Places.{first_failure}
use Rattle.hashcons.specs.Contents.{Grows, diagram_at}
use Rattle.zigzag_maps.specs.Walks.{tests_in_part, tests_to_part}
use Rattle.zigzag_maps.proofs.walk.+walks.Given as goal

abbrev pub decreases-first_in : goal.decreases-first_in
decreases-first_in g l = 3 * l.dim + 2

abbrev pub decreases-first_in_parts : goal.decreases-first_in_parts
decreases-first_in_parts g l = 3 * l.dim + 1

abbrev pub decreases-first_at : goal.decreases-first_at
decreases-first_at g l = 3 * l.dim

abbrev pub decreases-first_in_parts-loop-next : goal.decreases-first_in_parts-loop-next
decreases-first_in_parts-loop-next g l = length (steps_on l.length l.next)

abbrev pub invariant-first_in_parts-loop-next : goal.invariant-first_in_parts-loop-next
invariant-first_in_parts-loop-next g l = record {
  right : g.W.Walk.right (g.S.Held.contents l.store) l.walk;
  grows : Grows (g.S.Held.contents l.fn.store) (g.S.Held.contents l.store);
  leads : IfSome l.next (LeadsIn l.length);
  before : PassedBefore (tests_in_part g.W.Walk.tests g.W.Walk.legs (diagram_at (g.S.Held.contents l.fn.store) l.d)) (regs_before l.length l.next) (sings_before l.length l.next);
  rest : first_failure (in_order (steps_on l.length l.next) (tests_to_part g.W.Walk.tests g.W.Walk.legs (diagram_at (g.S.Held.contents l.fn.store) l.d))) ≡ first_failure (g.W.Walk.tests (diagram_at (g.S.Held.contents l.fn.store) l.d));
}
