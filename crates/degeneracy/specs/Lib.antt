pub mod FactorTrees
pub mod DegeneracyTrees
pub mod FoundFactors
pub mod FactorKeeps
pub mod DegeneracyShapes
pub mod DegeneracyKeeps
pub mod SplitTrees
