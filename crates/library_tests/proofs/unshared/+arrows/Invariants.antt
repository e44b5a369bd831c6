use Rattle.std.proofs.Common.{◌≡◌, ◌+◌, ◌*◌, take}
use Rattle.diagram_terms.specs.Nodes.{picked, trees_of}
use Rattle.diagram_terms.specs.Values.{trees_of_arrows}
use Rattle.library_tests.proofs.NodePlaces.{reach}
use Rattle.library_tests.proofs.unshared.+arrows.Given as goal

abbrev pub decreases-unshared_arrow : goal.decreases-unshared_arrow
decreases-unshared_arrow l = 2 * l.place + 1

abbrev pub decreases-unshared_arrows : goal.decreases-unshared_arrows
decreases-unshared_arrows l = 2 * reach l.places.now

abbrev pub invariant-unshared_arrows-loop-place : goal.invariant-unshared_arrows-loop-place
invariant-unshared_arrows-loop-place l = trees_of_arrows l.trees.items ≡ picked (trees_of l.nodes) (take l.place-index l.places)
