use Rattle.std.proofs.Common.{rules}
use Rattle.serde_json.proofs.Views.{view-Array}
use Rattle.node_json.proofs.Shapes.{items_list-items_of}
use Rattle.node_json.proofs.parts.list_of.Goals as goal

pub returns-in-Some-Array : goal.returns-in-Some-Array
returns-in-Some-Array c = search (rules, items_list-items_of, view-Array)
