-- The text of a document is read back as that document.
use Rattle.std.proofs.Common.{◌≡◌, List, ◌++◌, Some, Ok, refl, ap, ◌∙◌}
use Rattle.diagram_terms.specs.declared.node.Node.{Node}
use Rattle.node_json.specs.declared.document.Document.{Document}
use Rattle.node_json.specs.declared.fault.FormFault.TheVariants as fault
use Rattle.node_json.specs.Step.{◌>>=◌, or_fault}
use Rattle.node_json.specs.Json.{json_of}
use Rattle.node_json.specs.Entries.{generator_names, diagram_names, map_names}
use Rattle.node_json.specs.Reading.{entries_of, document_of, exact_document}
use Rattle.node_json.specs.Documents.{IsDocument}
use Rattle.node_json.specs.Printing.{document_data, text_of_document, HasWords}
use Rattle.node_json.proofs.Bytes.{json_of_text}
use Rattle.node_json.proofs.PrintedNodes.{nodes_read}
use Rattle.node_json.proofs.PrintedEntries.{are_names_front, generators_read, diagrams_read, maps_read}
use Rattle.node_json.proofs.PrintedData.{document_can_return, document_shallow}
use Rattle.node_json.proofs.ReadBack.{read-compact_text, IsUtf8-compact_text}

entries_read : (document : Document) → IsDocument document → entries_of document.nodes (document_data document) ≡ Ok document
unfolding entries_of
entries_read document is =
    let gs = generator_names document.generators in
    let ds = diagram_names document.diagrams in
    let front = are_names_front (gs ++ ds) (map_names document.maps) is.names in
    let generators = generators_read document.nodes document.generators (record {
      entries = record { each_fits = is.generators; names = are_names_front gs ds front };
      count = is.count;
    }) in
    let diagrams = diagrams_read document.nodes gs document.diagrams (record { each_fits = is.diagrams; names = front }) in
    let maps = maps_read document.nodes (gs ++ ds) document.maps (record { each_fits = is.maps; names = is.names }) in
    rw (generators, diagrams, maps) refl

data_is_read : (document : Document) → IsDocument document → document_of (document_data document) ≡ Ok document
unfolding document_of
data_is_read document is =
    ap (λ r. r >>= λ (nodes : List Node). entries_of nodes (document_data document)) (nodes_read document.nodes is.nodes)
    ∙ entries_read document is

pub documents_are_read_back : (document : Document) → IsDocument document → HasWords document → exact_document (text_of_document document) ≡ Ok document
documents_are_read_back document is words =
    let d = document_data document in
    let can = document_can_return document is words in
    let json : json_of (text_of_document document) ≡ Some d =
    json_of_text (text_of_document document) d (IsUtf8-compact_text d can) (read-compact_text d can (document_shallow document)) in
    ap (λ o. or_fault fault.NotJson o >>= document_of) json ∙ data_is_read document is
