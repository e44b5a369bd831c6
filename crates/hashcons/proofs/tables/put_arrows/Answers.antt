use Rattle.std.proofs.Common.{◌∙◌, sym, subst, take_all, arith}
use Rattle.block_lists.specs.Blocks.{Among}
use Rattle.hashcons.proofs.Entries.{gains-answer}
use Rattle.hashcons.proofs.tables.put_arrows.Goals as goal

pub returns-clause-gains : goal.returns-clause-gains
returns-clause-gains c parts a =
    let e = c.as_slice.ensures ∙ c.loop-a.invariant
    ∙ take_all c.loop-a.a-index c.args.arrows.now (omega (arith, c.loop-a-test.false)) in
    gains-answer c.args.lists.now c.put.new.self c.as_slice.result.now c.put.result c.put.ensures.put c.put.ensures.err parts
    (subst (Among parts) (sym e) a)
