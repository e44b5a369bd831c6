pub mod Below
pub mod Cutting
pub mod Distinct
pub mod Counting
pub mod Blocks
