use Rattle.hashcons.proofs.Growth.{Grows-trans}
use Rattle.zigzag_maps.proofs.KeptMaps.{valid_map-grows}
use Rattle.library_tests.proofs.stored.after_identity.Goals as goal

pub compose-requires-clause-outer : goal.compose-requires-clause-outer
compose-requires-clause-outer c = valid_map-grows _ _ _ c.valid_identity.ensures.grows c.requires

pub returns-in_err-compose : goal.returns-in_err-compose
returns-in_err-compose c = Grows-trans _ _ _ c.valid_identity.ensures.grows c.compose.ensures.made.grows

pub returns : goal.returns
returns c = Grows-trans _ _ _ c.valid_identity.ensures.grows c.compose.ensures.made.grows
