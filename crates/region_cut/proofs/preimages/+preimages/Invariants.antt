use Rattle.std.proofs.Common.{◌+◌, ◌*◌, suc}
use Rattle.diagram_terms.specs.Decoded.{dia, arr}
use Rattle.hashcons.specs.Contents.{arrow_at, diagram_at}
use Rattle.diagram_terms.specs.Preimages.{preimage as preimage_of}
use Rattle.diagram_terms.specs.Preimages.{reg_preimage, sing_preimage}
use Rattle.diagram_terms.specs.Regions.{tab_from}
use Rattle.region_cut.specs.RegionValues.{AreRegionValues, region_of}
use Rattle.region_cut.proofs.preimages.+preimages.Given as goal

abbrev pub decreases-preimage_along : goal.decreases-preimage_along
decreases-preimage_along l = 3 * l.dim

abbrev pub decreases-singular_preimages : goal.decreases-singular_preimages
decreases-singular_preimages l = 3 * l.below + 2

abbrev pub decreases-regular_preimages : goal.decreases-regular_preimages
decreases-regular_preimages l = 3 * l.below + 2

abbrev pub decreases-first_preimage : goal.decreases-first_preimage
decreases-first_preimage l = 3 * l.below + 1

abbrev pub invariant-singular_preimages-loop-i : goal.invariant-singular_preimages-loop-i
invariant-singular_preimages-loop-i l =
    AreRegionValues l.below
    (tab_from (sing_preimage l.below (preimage_of l.below) (dia (suc l.below) (diagram_at l.store l.source)) (arr (suc l.below) (arrow_at l.store l.f))
    (region_of (suc l.below) l.region)) l.first l.i) l.made.items

abbrev pub invariant-regular_preimages-loop-i : goal.invariant-regular_preimages-loop-i
invariant-regular_preimages-loop-i l =
    AreRegionValues l.below
    (tab_from (reg_preimage l.below (preimage_of l.below) (dia (suc l.below) (diagram_at l.store l.source)) (arr (suc l.below) (arrow_at l.store l.fn.f))
    (region_of (suc l.below) l.region)) l.first (l.i + 1)) l.made.items
