use Rattle.std.proofs.Common.{◌≡◌, ◌+◌, ◌*◌, suc, length}
use Rattle.diagram_terms.specs.Dual.{dual}
use Rattle.diagram_terms.specs.Places.{at_each, first_failure}
use Rattle.diagram_terms.specs.Tree.{heights, sings}
use Rattle.zigzag_maps.proofs.Visiting.{from_height}
use Rattle.hashcons.specs.Contents.{Grows, diagram_at, arrow_at}
use Rattle.zigzag_maps.specs.Visits.{IsMapAt, reg_tests, sing_tests}
use Rattle.zigzag_maps.proofs.faults.+faults.Given as goal

abbrev pub decreases-map_fault : goal.decreases-map_fault
decreases-map_fault l = 4 * l.dim + 3

abbrev pub decreases-fault_anew : goal.decreases-fault_anew
decreases-fault_anew l = 4 * l.dim + 2

abbrev pub decreases-regular_fault : goal.decreases-regular_fault
decreases-regular_fault l = 4 * l.dim + 1

abbrev pub decreases-regular_slice_fault : goal.decreases-regular_slice_fault
decreases-regular_slice_fault l = 4 * l.dim

abbrev pub decreases-singular_fault : goal.decreases-singular_fault
decreases-singular_fault l = 4 * l.dim

abbrev pub invariant-regular_fault-loop-j : goal.invariant-regular_fault-loop-j
invariant-regular_fault-loop-j l = record {
  grows : Grows l.fn.store l.store;
  map : IsMapAt l.store l.dim l.f;
  below : l.below ≡ dual (heights (arrow_at l.fn.store l.f.arrow)) l.j;
  rest : first_failure (from_height (reg_tests (diagram_at l.fn.store l.f.source) (diagram_at l.fn.store l.f.target) (arrow_at l.fn.store l.f.arrow)) (suc (length (sings (diagram_at l.fn.store l.f.target)))) l.j)
      ≡ first_failure (at_each (suc (length (sings (diagram_at l.fn.store l.f.target)))) (reg_tests (diagram_at l.fn.store l.f.source) (diagram_at l.fn.store l.f.target) (arrow_at l.fn.store l.f.arrow)));
}

abbrev pub invariant-singular_fault-loop-i : goal.invariant-singular_fault-loop-i
invariant-singular_fault-loop-i l = record {
  grows : Grows l.fn.store l.store;
  map : IsMapAt l.store l.dim l.f;
  rest : first_failure (from_height (sing_tests (diagram_at l.fn.store l.f.source) (diagram_at l.fn.store l.f.target) (arrow_at l.fn.store l.f.arrow)) (length (sings (diagram_at l.fn.store l.f.source))) l.i)
      ≡ first_failure (at_each (length (sings (diagram_at l.fn.store l.f.source))) (sing_tests (diagram_at l.fn.store l.f.source) (diagram_at l.fn.store l.f.target) (arrow_at l.fn.store l.f.arrow)));
}
