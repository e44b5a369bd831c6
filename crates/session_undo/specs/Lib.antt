pub mod Views
pub mod Equals
pub mod Added
pub mod NormalForms
pub mod Outcomes
