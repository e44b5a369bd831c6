use Rattle.std.proofs.Common.{◌+◌, ◌*◌, suc}
use Rattle.diagram_terms.specs.Decoded.{arr_tree}
use Rattle.hashcons.specs.Contents.{Grows, arrow_at}
use Rattle.hashcons.specs.Gathers.{Gathers}
use Rattle.region_cut.specs.CutTrees.{cut_arrow_reg, cut_arrow_sing}
use Rattle.region_cut.specs.RegionValues.{region_of}
use Rattle.region_cut.proofs.arrows.+arrows.Given as goal

abbrev pub decreases-arrow_cut : goal.decreases-arrow_cut
decreases-arrow_cut l = 3 * l.dim

abbrev pub decreases-zag_cut : goal.decreases-zag_cut
decreases-zag_cut l = 3 * l.below + 2

abbrev pub decreases-cut_arrow_regs : goal.decreases-cut_arrow_regs
decreases-cut_arrow_regs l = 3 * l.below + 1

abbrev pub decreases-cut_arrow_sings : goal.decreases-cut_arrow_sings
decreases-cut_arrow_sings l = 3 * l.below + 1

abbrev pub invariant-cut_arrow_regs-loop-j : goal.invariant-cut_arrow_regs-loop-j
invariant-cut_arrow_regs-loop-j l = record {
  grows : Grows l.fn.store l.store;
  gathers : Gathers l.store.arrows l.ids.items (l.j + 1)
      (λ j. arr_tree l.below (cut_arrow_reg l.below (arrow_at l.fn.store l.f) (region_of (suc l.below) l.fn.region) ((region_of (suc l.below) l.fn.region).from + j)));
}

abbrev pub invariant-cut_arrow_sings-loop-i : goal.invariant-cut_arrow_sings-loop-i
invariant-cut_arrow_sings-loop-i l = record {
  grows : Grows l.fn.store l.store;
  gathers : Gathers l.store.arrows l.ids.items l.i
      (λ i. arr_tree l.below (cut_arrow_sing l.below (arrow_at l.fn.store l.f) (region_of (suc l.below) l.fn.region) (l.first + i)));
}
