use Rattle.monotone_dual.proofs.LawProofs.{injections_hit_every_height}
use Rattle.monotone_dual.proofs.laws.injections_hit_every_height.Goals as goal

pub returns : goal.returns
returns c = injections_hit_every_height
