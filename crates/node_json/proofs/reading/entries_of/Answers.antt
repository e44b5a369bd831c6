use Rattle.std.proofs.Common.{◌≡◌, ◌++◌, [], map, Ok, sym, ◌∙◌, rules}
use Rattle.serde_json.specs.View.{view}
use Rattle.diagram_terms.specs.Nodes.{sorts_of}
use Rattle.node_json.specs.Step.{Fails}
use Rattle.node_json.specs.Names.{has_name, is_among}
use Rattle.node_json.specs.Entries.{generator_names, diagram_names, generators_in, diagrams_in, maps_in}
use Rattle.node_json.specs.Reading.{entries_of}
use Rattle.node_json.proofs.NameSets.{has_name_empty, after_first, after_next, same_reading}
use Rattle.node_json.proofs.reading.entries_of.Goals as goal

pub returns-in_err-generators : goal.returns-in_err-generators
unfolding entries_of
returns-in_err-generators c =
    let nodes = c.args.read.nodes in
    let same1 = same_reading generators_in _ (sorts_of nodes) _ (is_among []) (map view c.in_ok-list.list.now) (c.as_slice.ensures ∙ c.requires) (has_name_empty c.new-names.result c.new-names.ensures.empty) in
    let fault : Fails c.in_err-generators.field-0.0 (generators_in (sorts_of nodes) (is_among []) (map view c.in_ok-list.list.now)) = rw same1 at c.in_err-generators.ensures.entries in search rules

pub returns-in_err-list-2 : goal.returns-in_err-list-2
unfolding entries_of
returns-in_err-list-2 c =
    let nodes = c.args.read.nodes in
    let same1 = same_reading generators_in _ (sorts_of nodes) _ (is_among []) (map view c.in_ok-list.list.now) (c.as_slice.ensures ∙ c.requires) (has_name_empty c.new-names.result c.new-names.ensures.empty) in
    let g = c.in_ok-generators.generators in
    let read1 : generators_in (sorts_of nodes) (is_among []) (map view c.in_ok-list.list.now) ≡ Ok g = sym same1 ∙ c.in_ok-generators.ensures.entries in
    search rules

pub returns-in_err-diagrams : goal.returns-in_err-diagrams
unfolding entries_of
returns-in_err-diagrams c =
    let nodes = c.args.read.nodes in
    let same1 = same_reading generators_in _ (sorts_of nodes) _ (is_among []) (map view c.in_ok-list.list.now) (c.as_slice.ensures ∙ c.requires) (has_name_empty c.new-names.result c.new-names.ensures.empty) in
    let g = c.in_ok-generators.generators in
    let read1 : generators_in (sorts_of nodes) (is_among []) (map view c.in_ok-list.list.now) ≡ Ok g = sym same1 ∙ c.in_ok-generators.ensures.entries in
    let names1 = after_first c.new-names.result (has_name c.generators_in.new.names) (generator_names g) c.new-names.ensures.empty c.in_ok-generators.ensures.taken in
    let same2 = same_reading diagrams_in _ (sorts_of nodes) _ (is_among (generator_names g)) (map view c.in_ok-list-2.list.now) (c.as_slice-2.ensures ∙ c.requires) names1 in
    let fault : Fails c.in_err-diagrams.field-0.0 (diagrams_in (sorts_of nodes) (is_among (generator_names g)) (map view c.in_ok-list-2.list.now)) = rw same2 at c.in_err-diagrams.ensures.entries in search rules

pub returns-in_err-list-3 : goal.returns-in_err-list-3
unfolding entries_of
returns-in_err-list-3 c =
    let nodes = c.args.read.nodes in
    let same1 = same_reading generators_in _ (sorts_of nodes) _ (is_among []) (map view c.in_ok-list.list.now) (c.as_slice.ensures ∙ c.requires) (has_name_empty c.new-names.result c.new-names.ensures.empty) in
    let g = c.in_ok-generators.generators in
    let read1 : generators_in (sorts_of nodes) (is_among []) (map view c.in_ok-list.list.now) ≡ Ok g = sym same1 ∙ c.in_ok-generators.ensures.entries in
    let names1 = after_first c.new-names.result (has_name c.generators_in.new.names) (generator_names g) c.new-names.ensures.empty c.in_ok-generators.ensures.taken in
    let same2 = same_reading diagrams_in _ (sorts_of nodes) _ (is_among (generator_names g)) (map view c.in_ok-list-2.list.now) (c.as_slice-2.ensures ∙ c.requires) names1 in
    let d = c.in_ok-diagrams.diagrams in
    let read2 : diagrams_in (sorts_of nodes) (is_among (generator_names g)) (map view c.in_ok-list-2.list.now) ≡ Ok d = sym same2 ∙ c.in_ok-diagrams.ensures.entries in
    search rules

pub returns-in_err-maps : goal.returns-in_err-maps
unfolding entries_of
returns-in_err-maps c =
    let nodes = c.args.read.nodes in
    let same1 = same_reading generators_in _ (sorts_of nodes) _ (is_among []) (map view c.in_ok-list.list.now) (c.as_slice.ensures ∙ c.requires) (has_name_empty c.new-names.result c.new-names.ensures.empty) in
    let g = c.in_ok-generators.generators in
    let read1 : generators_in (sorts_of nodes) (is_among []) (map view c.in_ok-list.list.now) ≡ Ok g = sym same1 ∙ c.in_ok-generators.ensures.entries in
    let names1 = after_first c.new-names.result (has_name c.generators_in.new.names) (generator_names g) c.new-names.ensures.empty c.in_ok-generators.ensures.taken in
    let same2 = same_reading diagrams_in _ (sorts_of nodes) _ (is_among (generator_names g)) (map view c.in_ok-list-2.list.now) (c.as_slice-2.ensures ∙ c.requires) names1 in
    let d = c.in_ok-diagrams.diagrams in
    let read2 : diagrams_in (sorts_of nodes) (is_among (generator_names g)) (map view c.in_ok-list-2.list.now) ≡ Ok d = sym same2 ∙ c.in_ok-diagrams.ensures.entries in
    let names2 = after_next (has_name c.generators_in.new.names) (has_name c.diagrams_in.new.names) (generator_names g) (diagram_names d) names1 c.in_ok-diagrams.ensures.taken in
    let same3 = same_reading maps_in _ (sorts_of nodes) _ (is_among (generator_names g ++ diagram_names d)) (map view c.in_ok-list-3.list.now) (c.as_slice-3.ensures ∙ c.requires) names2 in
    let fault : Fails c.in_err-maps.field-0.0 (maps_in (sorts_of nodes) (is_among (generator_names g ++ diagram_names d)) (map view c.in_ok-list-3.list.now)) = rw same3 at c.in_err-maps.ensures in search rules

pub returns : goal.returns
unfolding entries_of
returns c =
    let nodes = c.args.read.nodes in
    let same1 = same_reading generators_in _ (sorts_of nodes) _ (is_among []) (map view c.in_ok-list.list.now) (c.as_slice.ensures ∙ c.requires) (has_name_empty c.new-names.result c.new-names.ensures.empty) in
    let g = c.in_ok-generators.generators in
    let read1 : generators_in (sorts_of nodes) (is_among []) (map view c.in_ok-list.list.now) ≡ Ok g = sym same1 ∙ c.in_ok-generators.ensures.entries in
    let names1 = after_first c.new-names.result (has_name c.generators_in.new.names) (generator_names g) c.new-names.ensures.empty c.in_ok-generators.ensures.taken in
    let same2 = same_reading diagrams_in _ (sorts_of nodes) _ (is_among (generator_names g)) (map view c.in_ok-list-2.list.now) (c.as_slice-2.ensures ∙ c.requires) names1 in
    let d = c.in_ok-diagrams.diagrams in
    let read2 : diagrams_in (sorts_of nodes) (is_among (generator_names g)) (map view c.in_ok-list-2.list.now) ≡ Ok d = sym same2 ∙ c.in_ok-diagrams.ensures.entries in
    let names2 = after_next (has_name c.generators_in.new.names) (has_name c.diagrams_in.new.names) (generator_names g) (diagram_names d) names1 c.in_ok-diagrams.ensures.taken in
    let same3 = same_reading maps_in _ (sorts_of nodes) _ (is_among (generator_names g ++ diagram_names d)) (map view c.in_ok-list-3.list.now) (c.as_slice-3.ensures ∙ c.requires) names2 in
    let read3 : maps_in (sorts_of nodes) (is_among (generator_names g ++ diagram_names d)) (map view c.in_ok-list-3.list.now) ≡ Ok c.in_ok-maps.maps = sym same3 ∙ c.in_ok-maps.ensures in search rules
