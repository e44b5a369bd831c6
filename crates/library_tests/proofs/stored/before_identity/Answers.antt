use Rattle.zigzag_maps.proofs.KeptMaps.{valid_map-grows}
use Rattle.library_tests.proofs.stored.before_identity.Goals as goal

pub compose-requires-clause-inner : goal.compose-requires-clause-inner
compose-requires-clause-inner c = valid_map-grows _ _ _ c.valid_identity.ensures.grows c.requires
