use Rattle.serde_json.specs.View.{view}
use Rattle.node_json.specs.Printing.{document_data}
use Rattle.node_json.proofs.ForCallers.{compact_text_of, document_no_float}
use Rattle.node_json.proofs.printing.document_text.Goals as goal

pub returns : goal.returns
returns c = compact_text_of c.to_vec.result (view c.in_ok-document_value.field-0) (document_data c.args.document.now) c.to_vec.ensures.text c.in_ok-document_value.ensures (document_no_float c.args.document.now)
