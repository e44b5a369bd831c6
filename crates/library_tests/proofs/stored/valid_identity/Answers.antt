use Rattle.hashcons.proofs.Growth.{Grows-trans}
use Rattle.library_tests.proofs.stored.valid_identity.Goals as goal

pub returns-in_err-check_map-clause-grows : goal.returns-in_err-check_map-clause-grows
returns-in_err-check_map-clause-grows c = Grows-trans _ _ _ c.identity.ensures.made.grows c.check_map.ensures.grows

pub returns-clause-grows : goal.returns-clause-grows
returns-clause-grows c = Grows-trans _ _ _ c.identity.ensures.made.grows c.check_map.ensures.grows
