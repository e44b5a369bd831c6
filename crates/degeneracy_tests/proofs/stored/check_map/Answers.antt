use Rattle.hashcons.proofs.Growth.{Grows-trans}
use Rattle.degeneracy_tests.proofs.stored.check_map.Goals as goal

pub returns-in_default-2-clause-grows : goal.returns-in_default-2-clause-grows
returns-in_default-2-clause-grows c = Grows-trans _ _ _ c.valid.ensures.grows c.valid-2.ensures.grows

pub returns-in_default-3-clause-grows : goal.returns-in_default-3-clause-grows
returns-in_default-3-clause-grows c =
    Grows-trans _ _ _ (Grows-trans _ _ _ c.valid.ensures.grows c.valid-2.ensures.grows) c.squares.ensures.grows
