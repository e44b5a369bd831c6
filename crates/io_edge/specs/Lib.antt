pub mod Counts
pub mod Lines
pub mod Memory
pub mod Transfers
