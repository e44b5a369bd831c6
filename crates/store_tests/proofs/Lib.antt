pub mod Roots
pub mod SameArrows
