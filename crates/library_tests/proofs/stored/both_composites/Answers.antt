use Rattle.zigzag_maps.proofs.KeptMaps.{valid_map-grows}
use Rattle.library_tests.proofs.stored.both_composites.Goals as goal

pub before_identity-requires : goal.before_identity-requires
before_identity-requires c = valid_map-grows _ _ _ c.after_identity.ensures c.requires
