use Rattle.std.proofs.Common.{◌+◌, ◌*◌, suc}
use Rattle.diagram_terms.specs.Decoded.{dia_tree}
use Rattle.hashcons.specs.Contents.{Grows, diagram_at}
use Rattle.hashcons.specs.Gathers.{Gathers}
use Rattle.region_cut.specs.CutTrees.{cut_reg, cut_sing}
use Rattle.region_cut.specs.RegionValues.{region_of}
use Rattle.region_cut.proofs.diagrams.+diagrams.Given as goal

abbrev pub decreases-diagram_cut : goal.decreases-diagram_cut
decreases-diagram_cut l = 3 * l.dim

abbrev pub decreases-zig_cut : goal.decreases-zig_cut
decreases-zig_cut l = 3 * l.below + 2

abbrev pub decreases-cut_regs : goal.decreases-cut_regs
decreases-cut_regs l = 3 * l.below + 1

abbrev pub decreases-cut_sings : goal.decreases-cut_sings
decreases-cut_sings l = 3 * l.below + 1

abbrev pub invariant-cut_regs-loop-j : goal.invariant-cut_regs-loop-j
invariant-cut_regs-loop-j l = record {
  grows : Grows l.fn.store l.store;
  gathers : Gathers l.store.diagrams l.ids.items (l.j + 1)
      (λ i. dia_tree l.below (cut_reg l.below (diagram_at l.fn.store l.d) (region_of (suc l.below) l.fn.region) ((region_of (suc l.below) l.fn.region).from + i)));
}

abbrev pub invariant-cut_sings-loop-i : goal.invariant-cut_sings-loop-i
invariant-cut_sings-loop-i l = record {
  grows : Grows l.fn.store l.store;
  gathers : Gathers l.store.diagrams l.ids.items l.i
      (λ i. dia_tree l.below (cut_sing l.below (diagram_at l.fn.store l.d) (region_of (suc l.below) l.fn.region) ((region_of (suc l.below) l.fn.region).from + i)));
}
