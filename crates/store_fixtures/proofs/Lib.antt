pub mod PlacedIds
