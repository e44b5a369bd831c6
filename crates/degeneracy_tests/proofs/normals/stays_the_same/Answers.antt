use Rattle.zigzag_maps.proofs.KeptMaps.{valid_map-grows}
use Rattle.degeneracy_tests.proofs.normals.stays_the_same.Goals as goal

pub form_for-requires-2 : goal.form_for-requires-2
form_for-requires-2 c = valid_map-grows _ _ _ c.form_for.ensures.grows c.in_ok-map.ensures.valid
