use Rattle.hashcons.proofs.Growth.{Grows-trans}
use Rattle.zigzag_maps.proofs.KeptMaps.{valid_diagram-grows}
use Rattle.library_tests.proofs.stored.check_ends.Goals as goal

pub check_valid-requires-2 : goal.check_valid-requires-2
check_valid-requires-2 c = c.check_valid.ensures.grows.diagrams _ c.requires.target

pub returns-in_err-check_valid-2-clause-grows : goal.returns-in_err-check_valid-2-clause-grows
returns-in_err-check_valid-2-clause-grows c = Grows-trans _ _ _ c.check_valid.ensures.grows c.check_valid-2.ensures.grows

pub returns-clause-source : goal.returns-clause-source
returns-clause-source c = valid_diagram-grows _ _ _ c.check_valid-2.ensures.grows c.in_ok-check_valid.ensures.valid

pub returns-clause-grows : goal.returns-clause-grows
returns-clause-grows c = Grows-trans _ _ _ c.check_valid.ensures.grows c.check_valid-2.ensures.grows
