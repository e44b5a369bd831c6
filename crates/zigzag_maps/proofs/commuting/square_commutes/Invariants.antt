use Rattle.std.proofs.Common.{◌≡◌, ℕ, ◌<◌, ◌≤◌}
use Rattle.hashcons.specs.Contents.{Grows, IsArrowOf, diagram_at, arrow_at}
use Rattle.zigzag_maps.specs.Visits.{IsValidSlicewise, enter_edge}
use Rattle.zigzag_maps.proofs.SquareEdges.{edge_at}
use Rattle.zigzag_maps.proofs.commuting.square_commutes.Given as goal

abbrev pub invariant-loop-i : goal.invariant-loop-i
invariant-loop-i l = record {
  grows : Grows l.fn.store l.store;
  slicewise : IsValidSlicewise l.store l.dim l.f;
  of_store : IsArrowOf l.store l.edge;
  edge : arrow_at l.store l.edge
      ≡ edge_at (diagram_at l.fn.store l.f.source) (diagram_at l.fn.store l.f.target) (arrow_at l.fn.store l.f.arrow) l.fibre.over l.fibre.from l.i;
  agree : (i : ℕ) → l.fibre.from ≤ i → i < l.i
      → edge_at (diagram_at l.fn.store l.f.source) (diagram_at l.fn.store l.f.target) (arrow_at l.fn.store l.f.arrow) l.fibre.over l.fibre.from i
      ≡ enter_edge (diagram_at l.fn.store l.f.source) (arrow_at l.fn.store l.f.arrow) i;
}
