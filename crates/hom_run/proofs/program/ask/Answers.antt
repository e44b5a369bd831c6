use Rattle.std.proofs.Common.{[], ◌∙◌, rules}
use Rattle.io_edge.proofs.Inputs.{whole_input, input_from, input_from_is, longer}
use Rattle.io_edge.proofs.Parts.{not_begun}
use Rattle.hom_run.specs.Modes.{question_in}
use Rattle.hom_run.proofs.Runs.{there, too_much, writes_too_long, writes_answer}
use Rattle.hom_run.proofs.program.ask.Goals as goal

pub returns-in-Ok-clause-writes : goal.returns-in-Ok-clause-writes
returns-in-Ok-clause-writes g c =
    let takes = c.in-Ok.ensures.bytes in
    let question = there (question_in c.args.query) c.requires in (
      takes.taken,
      whole_input _ _ takes.taken takes.consumed takes.whole.1,
      writes_answer _ question.0 question.1 takes.taken _ _ _ _ (takes.within (λ e. cc)) (c.deref.ensures.value ∙ takes.whole.0) c.answer.ensures.writes,
    )

pub returns-in-Err-ReadFault-clause-writes : goal.returns-in-Err-ReadFault-clause-writes
returns-in-Err-ReadFault-clause-writes g c =
    let left = g.S.Source.left c.args.input.now in
    (input_from left [], input_from_is left [], not_begun _ _)

pub returns-in-Err-TooLong-clause-writes : goal.returns-in-Err-TooLong-clause-writes
returns-in-Err-TooLong-clause-writes g c =
    let left = g.S.Source.left c.args.input.now in
    let takes = c.in-Err-TooLong.ensures.bytes in
    let question = there (question_in c.args.query) c.requires in
    (input_from left takes.taken, input_from_is left takes.taken, writes_too_long _ question.0 question.1 _ _ (longer _ _ takes.taken _ takes.consumed (takes.too_long (search rules))))

pub returns-in-Err-TooLong-clause-reads : goal.returns-in-Err-TooLong-clause-reads
returns-in-Err-TooLong-clause-reads g c =
    let takes = c.in-Err-TooLong.ensures.bytes in
    (takes.taken, takes.consumed, too_much (question_in c.args.query) takes.taken (takes.too_long (search rules)))

pub returns-in-Err-NoMemory-clause-writes : goal.returns-in-Err-NoMemory-clause-writes
returns-in-Err-NoMemory-clause-writes g c =
    let left = g.S.Source.left c.args.input.now in
    (input_from left [], input_from_is left [], not_begun _ _)
