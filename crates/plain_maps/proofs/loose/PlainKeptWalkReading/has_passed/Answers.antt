use Rattle.hashcons.specs.declared.id.AnyId.TheVariants as id
use Rattle.plain_maps.proofs.loose.PlainKeptWalkReading.has_passed.Goals as goal

pub returns : goal.returns
returns c = λ known. c.requires.right.passed.are (id.Diagram c.args.d) (c.has.ensures.0 known)
