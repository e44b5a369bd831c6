use Rattle.region_cut.specs.RegionValues.{region_of}
use Rattle.region_cut.proofs.MapCuts.{has_region, valid_cut, told_at}
use Rattle.region_cut.proofs.cuts.cut_diagram.Goals as goal

pub diagram_cut-requires-clause-has : goal.diagram_cut-requires-clause-has
diagram_cut-requires-clause-has c = has_region _ _ c.args.region.now c.dim-dim.ensures.dim c.requires.valid.valid c.requires.closed

pub returns-clause-made : goal.returns-clause-made
returns-clause-made c = told_at _ _ _ _ c.args.region.now _ c.dim-dim.ensures.dim c.diagram_cut.ensures

pub returns-clause-valid : goal.returns-clause-valid
returns-clause-valid c =
    valid_cut _ _ _ _ (region_of c.dim-dim.result c.args.region.now) _ (has_region _ _ c.args.region.now c.dim-dim.ensures.dim c.requires.valid.valid c.requires.closed) c.diagram_cut.ensures
