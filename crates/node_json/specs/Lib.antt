pub mod Step
pub mod Json
pub mod Names
pub mod NodeForms
pub mod Entries
pub mod Reading
pub mod Documents
pub mod Printing
