use Rattle.std.proofs.Common.{◌≡◌, drop}
use Rattle.diagram_terms.specs.Slices.{slice_along, slice_from}
use Rattle.hashcons.specs.Contents.{IsDiagramOf, diagram_at}
use Rattle.boundary_paths.proofs.slices.slice.Given as goal

abbrev pub invariant-loop-step : goal.invariant-loop-step
invariant-loop-step l = record {
  of_store : IsDiagramOf l.store l.reached;
  path : slice_along (diagram_at l.store l.fn.d) l.path ≡ slice_from l.step (diagram_at l.store l.reached) (drop l.step l.path);
}
