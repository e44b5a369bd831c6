-- What a program's value asks for.
use Rattle.std.specs.Prelude.{List, [], Option, Some, None, Result, Ok, Err, option_map}
use Rattle.node_json.specs.declared.document.Document.{Document}
use Rattle.node_json.specs.declared.fault.FormFault.{FormFault}
use Rattle.workspace_json.specs.declared.reply.Reply.{Reply}
use Rattle.hom_run.specs.declared.words.Asked.{Asked}
use Rattle.hom_run.specs.declared.words.Asked.TheVariants as asked
use Rattle.hom_run.specs.declared.words.Query.{Query}
use Rattle.hom_run.specs.declared.words.Query.TheVariants as query
use Rattle.hom_run.specs.Full.{Mode, Question, Run, asks, fault_run, looks, normalises, replays, replies, replying, slice_question}

abbrev pub question_in : Query → Option Question
question_in query.Look = Some looks
question_in (query.Slice name path) = slice_question name.now path.now
question_in (query.Normalise name) = Some (normalises name.now)

abbrev pub mode_in : Asked → Option Mode
mode_in (asked.Document question) = option_map asks (question_in question)
mode_in asked.Replay = Some replays

-- the replies to a question, and none where there is none
abbrev pub question_replies : Option Question → Document → List Reply
question_replies None document = []
question_replies (Some question) document = replies question document

-- what is left of a document
abbrev pub question_run : Option Question → Result Document FormFault → Run
question_run question (Ok document) = replying (question_replies question document)
question_run question (Err fault) = fault_run fault
