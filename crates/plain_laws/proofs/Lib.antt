pub mod Absorption
pub mod ConeParts
pub mod Cones
pub mod Cospans
pub mod Parallels
pub mod PlainEnds
