use Rattle.region_cut.proofs.ReadRegions.{all_from}
use Rattle.region_cut.proofs.region.Region.from.Goals as goal

pub returns-in-All : goal.returns-in-All
returns-in-All c d = all_from d _ c.in-All.is
