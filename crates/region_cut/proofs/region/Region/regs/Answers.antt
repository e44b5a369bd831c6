use Rattle.std.proofs.Common.{◌∙◌, suc, ap, sym, map}
use Rattle.diagram_terms.specs.Regions.{Reg}
use Rattle.region_cut.specs.RegionValues.{region_of}
use Rattle.region_cut.proofs.ReadRegions.{all_regs, span_is}
use Rattle.region_cut.proofs.region.Region.regs.Goals as goal

pub returns-in-All : goal.returns-in-All
returns-in-All c d = all_regs d _ c.in-All.is

pub returns-in-Span : goal.returns-in-Span
returns-in-Span c d =
    ap (map (region_of d)) c.deref.ensures.value ∙ sym (ap (λ (W : Reg (suc d)). W.regs) (span_is d _ _ _ _ _ c.in-Span.is))
