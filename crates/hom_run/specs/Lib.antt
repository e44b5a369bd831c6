pub mod Status
pub mod Full
pub mod Modes
pub mod Taken
pub mod Named
