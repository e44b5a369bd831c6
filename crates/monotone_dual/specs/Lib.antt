pub mod Injections
pub mod Laws
pub mod Refusals
