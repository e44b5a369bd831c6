-- The places of a map of a document.
use Rattle.node_json.specs.declared.document.MapEntry.{MapEntry}
use Rattle.hom_run.specs.declared.normal.MapPlaces.{MapPlaces}

abbrev pub places_in : MapEntry → MapPlaces
places_in e = record { source = e.source; target = e.target; arrow = e.arrow }
