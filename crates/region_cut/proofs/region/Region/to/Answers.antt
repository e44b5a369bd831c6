use Rattle.region_cut.proofs.ReadRegions.{all_to}
use Rattle.region_cut.proofs.region.Region.to.Goals as goal

pub returns-in-All : goal.returns-in-All
returns-in-All c d = all_to d _ c.in-All.is
