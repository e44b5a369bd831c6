use Rattle.std.proofs.Common.{sym}
use Rattle.zigzag_maps.proofs.ValiditySteps.{kept_passes}
use Rattle.zigzag_maps.proofs.validity.NotingWalkStore.has_passed.Goals as goal

pub returns : goal.returns
returns c = λ known. sym (kept_passes c.args.store.now c.args.d (c.known_valid.ensures.right known))
