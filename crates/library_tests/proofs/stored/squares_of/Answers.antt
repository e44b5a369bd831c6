use Rattle.hashcons.proofs.Growth.{Grows-trans}
use Rattle.library_tests.proofs.stored.squares_of.Goals as goal

pub squares-requires-clause-arrow : goal.squares-requires-clause-arrow
squares-requires-clause-arrow c = c.check_ends.ensures.grows.arrows _ c.requires.arrow

pub returns-in_err-squares-clause-grows : goal.returns-in_err-squares-clause-grows
returns-in_err-squares-clause-grows c = Grows-trans _ _ _ c.check_ends.ensures.grows c.squares.ensures.grows

pub returns-clause-grows : goal.returns-clause-grows
returns-clause-grows c = Grows-trans _ _ _ c.check_ends.ensures.grows c.squares.ensures.grows
