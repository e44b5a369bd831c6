pub mod Meanings
pub mod Kinds
pub mod Edits
pub mod States
pub mod EditSteps
pub mod Signing
