pub mod Cones
