pub mod Cones
pub mod Laws
