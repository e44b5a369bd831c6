use Rattle.std.proofs.Common.{◌∙◌, length, ap, sym}
use Rattle.workspace_lists.specs.Roots.{end_ids, part_ids}
use Rattle.workspace_lists.proofs.DocumentEntries.{diagrams-within, document-over, ends-length, ends-places, maps-within, parts-length, parts-places, tops-length, tops-places}
use Rattle.workspace_lists.proofs.HeldRoots.{roots-of_store}
use Rattle.workspace_lists.proofs.saved.document.Goals as goal

pub list-requires : goal.list-requires
list-requires c = roots-of_store c.args.store.now c.args.workspace.now c.deref.result.now c.requires
    (c.deref.ensures.value ∙ c.in_ok-roots.ensures.ids)

pub split_at-requires : goal.split_at-requires
split_at-requires c =
    let s = c.args.store.now in
    let w = c.args.workspace.now in
    let roots = c.deref.ensures.value ∙ c.in_ok-roots.ensures.ids in
    let places = c.deref-2.ensures.value ∙ c.in_ok-nodes.ensures.places in
    maps-within s w c.deref.result.now c.deref-2.result.now roots places c.in_ok-roots.roots.maps c.in_ok-roots.ensures.maps

pub split_at-requires-2 : goal.split_at-requires-2
split_at-requires-2 c =
    let s = c.args.store.now in
    let w = c.args.workspace.now in
    let roots = c.deref.ensures.value ∙ c.in_ok-roots.ensures.ids in
    let places = c.deref-2.ensures.value ∙ c.in_ok-nodes.ensures.places in
    diagrams-within s w c.deref.result.now c.deref-2.result.now roots places c.in_ok-roots.roots.maps c.in_ok-roots.ensures.maps
    c.split_at.result.0.now c.split_at.ensures.front c.in_ok-roots.roots.diagrams c.in_ok-roots.ensures.diagrams

pub generator_entries-requires : goal.generator_entries-requires
generator_entries-requires c =
    let s = c.args.store.now in
    let w = c.args.workspace.now in
    let roots = c.deref.ensures.value ∙ c.in_ok-roots.ensures.ids in
    let places = c.deref-2.ensures.value ∙ c.in_ok-nodes.ensures.places in
    ends-length s w c.deref.result.now c.deref-2.result.now roots places c.in_ok-roots.roots.maps c.in_ok-roots.ensures.maps
    c.split_at.result.0.now c.split_at.ensures.front c.in_ok-roots.roots.diagrams c.in_ok-roots.ensures.diagrams
    c.split_at-2.result.0.now c.split_at-2.ensures.front
    ∙ ap (λ gs. length (end_ids gs)) (sym c.deref-3.ensures.value)

pub diagram_entries-requires : goal.diagram_entries-requires
diagram_entries-requires c =
    let s = c.args.store.now in
    let w = c.args.workspace.now in
    let roots = c.deref.ensures.value ∙ c.in_ok-roots.ensures.ids in
    let places = c.deref-2.ensures.value ∙ c.in_ok-nodes.ensures.places in
    tops-length s w c.deref.result.now c.deref-2.result.now roots places c.in_ok-roots.roots.maps c.in_ok-roots.ensures.maps
    c.split_at.result.0.now c.split_at.ensures.front c.in_ok-roots.roots.diagrams c.in_ok-roots.ensures.diagrams
    c.split_at-2.result.1.now c.split_at-2.ensures.back
    ∙ ap length (sym c.deref-4.ensures.value)

pub map_entries-requires : goal.map_entries-requires
map_entries-requires c =
    let s = c.args.store.now in
    let w = c.args.workspace.now in
    let roots = c.deref.ensures.value ∙ c.in_ok-roots.ensures.ids in
    let places = c.deref-2.ensures.value ∙ c.in_ok-nodes.ensures.places in
    parts-length s w c.deref.result.now c.deref-2.result.now roots places c.in_ok-roots.roots.maps c.in_ok-roots.ensures.maps
    c.split_at.result.1.now c.split_at.ensures.back
    ∙ ap (λ ms. length (part_ids ms)) (sym c.deref-5.ensures.value)

pub returns : goal.returns
returns c =
    let s = c.args.store.now in
    let w = c.args.workspace.now in
    let roots = c.deref.ensures.value ∙ c.in_ok-roots.ensures.ids in
    let places = c.deref-2.ensures.value ∙ c.in_ok-nodes.ensures.places in
    let front = ends-places s w c.deref.result.now c.deref-2.result.now roots places c.in_ok-roots.roots.maps c.in_ok-roots.ensures.maps
    c.split_at.result.0.now c.split_at.ensures.front c.in_ok-roots.roots.diagrams c.in_ok-roots.ensures.diagrams
    c.split_at-2.result.0.now c.split_at-2.ensures.front in
    let middle = tops-places s w c.deref.result.now c.deref-2.result.now roots places c.in_ok-roots.roots.maps c.in_ok-roots.ensures.maps
    c.split_at.result.0.now c.split_at.ensures.front c.in_ok-roots.roots.diagrams c.in_ok-roots.ensures.diagrams
    c.split_at-2.result.1.now c.split_at-2.ensures.back in
    let back = parts-places s w c.deref.result.now c.deref-2.result.now roots places c.in_ok-roots.roots.maps c.in_ok-roots.ensures.maps
    c.split_at.result.1.now c.split_at.ensures.back in
    document-over s w c.deref.result.now c.from_vec-4.result c.split_at-2.result.0.now c.split_at-2.result.1.now c.split_at.result.1.now
    c.deref-3.result.now c.deref-4.result.now c.deref-5.result.now c.from_vec.result c.from_vec-2.result c.from_vec-3.result
    roots (c.from_vec-4.ensures ∙ c.in_ok-nodes.ensures.nodes) c.deref-3.ensures.value c.deref-4.ensures.value c.deref-5.ensures.value front middle back
    (λ place at. c.from_vec.ensures ∙ c.in_ok-generators.ensures place at)
    (λ place at. c.from_vec-2.ensures ∙ c.in_ok-diagrams.ensures place at)
    (λ place at. c.from_vec-3.ensures ∙ c.in_ok-maps.ensures place at)
