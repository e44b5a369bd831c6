use Rattle.std.proofs.Common.{◌≡◌, map, take}
use Rattle.normalise.specs.NormalMaps.{as_leg}
use Rattle.normalise.proofs.keys.key_for.Given as goal

abbrev pub invariant-loop-i : goal.invariant-loop-i
invariant-loop-i l = l.ids.items ≡ map as_leg (take l.i l.legs)
