use Rattle.hashcons.proofs.Entries.{gains-answer}
use Rattle.hashcons.proofs.tables.put_heights.Goals as goal

pub returns-clause-gains : goal.returns-clause-gains
returns-clause-gains c parts a =
    gains-answer c.args.lists.now c.put.new.self c.args.heights.now c.put.result c.put.ensures.put c.put.ensures.err parts a
