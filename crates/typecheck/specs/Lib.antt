pub mod Outcomes
pub mod Points
pub mod Signatures
pub mod Verdicts
pub mod Walk
