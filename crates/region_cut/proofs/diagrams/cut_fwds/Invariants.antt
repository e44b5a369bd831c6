use Rattle.std.proofs.Common.{◌+◌, suc}
use Rattle.diagram_terms.specs.Decoded.{arr_tree}
use Rattle.hashcons.specs.Contents.{Grows, diagram_at}
use Rattle.hashcons.specs.Gathers.{Gathers}
use Rattle.region_cut.specs.CutTrees.{cut_fwd}
use Rattle.region_cut.specs.RegionValues.{region_of}
use Rattle.region_cut.proofs.diagrams.cut_fwds.Given as goal

abbrev pub invariant-loop-k : goal.invariant-loop-k
invariant-loop-k l = record {
  grows : Grows l.fn.store l.store;
  gathers : Gathers l.store.arrows l.ids.items l.k
      (λ i. arr_tree l.below (cut_fwd l.below (diagram_at l.fn.store l.d) (region_of (suc l.below) l.fn.region) ((region_of (suc l.below) l.fn.region).from + i)));
}
