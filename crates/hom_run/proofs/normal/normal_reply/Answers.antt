use Rattle.std.proofs.Common.{sym, subst}
use Rattle.node_json.specs.Documents.{IsArrowPlace, IsDiagramPlace}
use Rattle.hom_run.specs.declared.normal.MapPlaces.{MapPlaces}
use Rattle.hom_run.proofs.NormalReplies.{entry_of}
use Rattle.hom_run.proofs.SliceReplies.{root_place}
use Rattle.hom_run.proofs.normal.normal_reply.Goals as goal

pub reply_of_diagram-requires-clause-place : goal.reply_of_diagram-requires-clause-place
reply_of_diagram-requires-clause-place c = root_place c.args.document.now c.requires c.args.name.now c.root_named.result c.in-Some.root c.root_named.ensures c.in-Some.is

pub reply_of_map-requires-clause-source : goal.reply_of_map-requires-clause-source
reply_of_map-requires-clause-source c =
    let h = entry_of c.args.document.now c.requires c.args.name.now c.map_named.result c.in-Some-map_named.places c.map_named.ensures c.in-Some-map_named.is in
    subst (λ (p : MapPlaces). IsDiagramPlace c.args.document.now.nodes p.source) (sym h.places_are) h.is_entry.source

pub reply_of_map-requires-clause-target : goal.reply_of_map-requires-clause-target
reply_of_map-requires-clause-target c =
    let h = entry_of c.args.document.now c.requires c.args.name.now c.map_named.result c.in-Some-map_named.places c.map_named.ensures c.in-Some-map_named.is in
    subst (λ (p : MapPlaces). IsDiagramPlace c.args.document.now.nodes p.target) (sym h.places_are) h.is_entry.target

pub reply_of_map-requires-clause-arrow : goal.reply_of_map-requires-clause-arrow
reply_of_map-requires-clause-arrow c =
    let h = entry_of c.args.document.now c.requires c.args.name.now c.map_named.result c.in-Some-map_named.places c.map_named.ensures c.in-Some-map_named.is in
    subst (λ (p : MapPlaces). IsArrowPlace c.args.document.now.nodes p.arrow) (sym h.places_are) h.is_entry.arrow
