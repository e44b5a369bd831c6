use Rattle.std.proofs.Common.{◌≡◌, suc}
use Rattle.hashcons.specs.Contents.{arrow_at}
use Rattle.diagram_terms.specs.Regions.{tab_from}
use Rattle.region_cut.specs.CutTrees.{cut_height}
use Rattle.region_cut.specs.RegionValues.{region_of}
use Rattle.region_cut.proofs.arrows.cut_heights.Given as goal

abbrev pub invariant-loop-i : goal.invariant-loop-i
invariant-loop-i l = l.heights.items ≡ tab_from (cut_height l.fn.below (arrow_at l.store l.f) (region_of (suc l.fn.below) l.fn.region)) l.first l.i
