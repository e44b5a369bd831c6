pub mod FoundStays
