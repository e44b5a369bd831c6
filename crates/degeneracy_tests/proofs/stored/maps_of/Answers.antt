use Rattle.zigzag_maps.proofs.KeptMaps.{valid_map-grows}
use Rattle.degeneracy_tests.proofs.stored.maps_of.Goals as goal

pub returns-clause-one : goal.returns-clause-one
returns-clause-one c = valid_map-grows _ _ _ c.map_of-2.ensures.grows c.in_ok-one.ensures.valid
