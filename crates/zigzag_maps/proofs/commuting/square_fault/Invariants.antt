use Rattle.std.proofs.Common.{◌≡◌, length}
use Rattle.diagram_terms.specs.Dual.{dual}
use Rattle.diagram_terms.specs.Places.{at_each, first_failure}
use Rattle.diagram_terms.specs.Tree.{heights, sings}
use Rattle.zigzag_maps.proofs.Visiting.{from_height}
use Rattle.hashcons.specs.Contents.{Grows, diagram_at, arrow_at}
use Rattle.zigzag_maps.specs.Visits.{IsValidSlicewise, square_tests}
use Rattle.zigzag_maps.proofs.commuting.square_fault.Given as goal

abbrev pub invariant-loop-k : goal.invariant-loop-k
invariant-loop-k l = record {
  grows : Grows l.fn.store l.store;
  slicewise : IsValidSlicewise l.store l.dim l.f;
  from : l.from ≡ dual (heights (arrow_at l.fn.store l.f.arrow)) l.k;
  rest : first_failure (from_height (square_tests (diagram_at l.fn.store l.f.source) (diagram_at l.fn.store l.f.target) (arrow_at l.fn.store l.f.arrow)) (length (sings (diagram_at l.fn.store l.f.target))) l.k)
      ≡ first_failure (at_each (length (sings (diagram_at l.fn.store l.f.target))) (square_tests (diagram_at l.fn.store l.f.source) (diagram_at l.fn.store l.f.target) (arrow_at l.fn.store l.f.arrow)));
}
