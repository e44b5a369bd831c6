pub mod LawProofs
pub mod Scans
pub mod Skips
