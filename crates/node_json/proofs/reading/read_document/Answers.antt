use Rattle.node_json.proofs.DocumentsKept.{form_given, given_of_bytes}
use Rattle.node_json.proofs.JsonKept.{no_json_given}
use Rattle.node_json.proofs.reading.read_document.Goals as goal

pub returns-clause-form : goal.returns-clause-form
returns-clause-form c = form_given c.args.bytes.now c.document_of.result (given_of_bytes c.args.bytes.now _ c.document_of.result c.in_ok-value.ensures c.document_of.ensures)

pub returns-clause-not_json : goal.returns-clause-not_json
returns-clause-not_json c = no_json_given c.args.bytes.now c.document_of.result (given_of_bytes c.args.bytes.now _ c.document_of.result c.in_ok-value.ensures c.document_of.ensures)
