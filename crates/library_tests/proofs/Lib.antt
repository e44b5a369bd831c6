pub mod NodePlaces
pub mod PlacedDiagrams
