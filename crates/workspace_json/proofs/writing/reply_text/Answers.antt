use Rattle.workspace_json.specs.Replies.{reply_data}
use Rattle.node_json.proofs.ForCallers.{compact_text_of}
use Rattle.workspace_json.proofs.ReplyTexts.{reply_no_float}
use Rattle.workspace_json.proofs.writing.reply_text.Goals as goal

pub returns : goal.returns
returns c = compact_text_of c.to_vec.result _ (reply_data c.args.reply.now) c.to_vec.ensures.text c.in_ok-reply_value.ensures (reply_no_float c.args.reply.now)
