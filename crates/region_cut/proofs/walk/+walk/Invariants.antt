use Rattle.std.proofs.Common.{◌+◌, ◌*◌}
use Rattle.region_cut.proofs.walk.+walk.Given as goal

abbrev pub decreases-point_after : goal.decreases-point_after
decreases-point_after l = 2 * l.dim

abbrev pub decreases-after_regular : goal.decreases-after_regular
decreases-after_regular l = 2 * l.below + 1

abbrev pub decreases-after_singular : goal.decreases-after_singular
decreases-after_singular l = 2 * l.below + 1
