use Rattle.std.proofs.Common.{◌≡◌, ◌+◌, ◌*◌, take}
use Rattle.diagram_terms.specs.Nodes.{picked, trees_of}
use Rattle.diagram_terms.specs.Values.{trees_of_diagrams}
use Rattle.library_tests.proofs.NodePlaces.{reach}
use Rattle.library_tests.proofs.unshared.+diagrams.Given as goal

abbrev pub decreases-unshared : goal.decreases-unshared
decreases-unshared l = 2 * l.place + 1

abbrev pub decreases-unshared_diagrams : goal.decreases-unshared_diagrams
decreases-unshared_diagrams l = 2 * reach l.places.now

abbrev pub invariant-unshared_diagrams-loop-place : goal.invariant-unshared_diagrams-loop-place
invariant-unshared_diagrams-loop-place l = trees_of_diagrams l.trees.items ≡ picked (trees_of l.nodes) (take l.place-index l.places)
