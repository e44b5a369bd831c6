use Rattle.hom_run.proofs.Replays.{replied_good}
use Rattle.hom_run.proofs.replay.answer_to.Goals as goal

pub returns-in_ok-reply_text-in-Ok-clause-good : goal.returns-in_ok-reply_text-in-Ok-clause-good
returns-in_ok-reply_text-in-Ok-clause-good c =
    replied_good _ _ _ c.in-Ok.command c.in_ok-reply-in-Ok.reply _ c.in-Ok.ensures.exact c.in_ok-reply-in-Ok.ensures.step c.is_yes.ensures

pub apply-requires : goal.apply-requires
apply-requires c = c.in-Ok.ensures.form
