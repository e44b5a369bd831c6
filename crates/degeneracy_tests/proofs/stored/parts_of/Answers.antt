use Rattle.hashcons.proofs.Growth.{Grows-trans}
use Rattle.degeneracy_tests.proofs.stored.parts_of.Goals as goal

pub returns-in_err-split : goal.returns-in_err-split
returns-in_err-split c = Grows-trans _ _ _ c.check_degeneracy.ensures.grows c.split.ensures.grows

pub returns : goal.returns
returns c = Grows-trans _ _ _ c.check_degeneracy.ensures.grows c.split.ensures.grows
