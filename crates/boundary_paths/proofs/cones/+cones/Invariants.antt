use Rattle.std.proofs.Common.{◌+◌, ◌*◌}
use Rattle.diagram_terms.specs.ConeTrees.{cone_tree}
use Rattle.diagram_terms.specs.Shape.{sing_at}
use Rattle.hashcons.specs.Contents.{Grows, diagram_at}
use Rattle.hashcons.specs.Gathers.{Gathers}
use Rattle.boundary_paths.specs.Cones.{AreCones}
use Rattle.boundary_paths.proofs.cones.+cones.Given as goal

abbrev pub decreases-cospan_of_cones : goal.decreases-cospan_of_cones
decreases-cospan_of_cones l = 4 * l.dim + 3

abbrev pub decreases-cone_of : goal.decreases-cone_of
decreases-cone_of l = 4 * l.dim + 2

abbrev pub decreases-cone_anew : goal.decreases-cone_anew
decreases-cone_anew l = 4 * l.dim + 1

abbrev pub decreases-singular_cones : goal.decreases-singular_cones
decreases-singular_cones l = 4 * l.dim

abbrev pub invariant-singular_cones-loop-i : goal.invariant-singular_cones-loop-i
invariant-singular_cones-loop-i l = record {
  grows : Grows l.fn.store l.store;
  cones : AreCones l.store l.x l.made;
  gathers : Gathers l.store.arrows l.ids.items l.i (λ i. cone_tree (sing_at (diagram_at l.fn.store l.d) i) l.x);
}
