use Rattle.hashcons.specs.NoteTables.{key_of, normal_of}
use Rattle.normalise.proofs.FormsInStore.{known_is}
use Rattle.normalise.proofs.known.known_form.Goals as goal

pub returns-clause-form : goal.returns-clause-form
returns-clause-form c = known_is c.args.store.now (key_of c.args.key.now) (normal_of c.in-Some.known.now) c.in-Some.ensures.right
