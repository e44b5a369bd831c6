pub mod ConeLaws
pub mod ConesBySlices
pub mod ConeSteps
pub mod Ends
pub mod SlicesAtHeights
