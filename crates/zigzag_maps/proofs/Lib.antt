pub mod CompositeSlices
pub mod CompositeSteps
pub mod SquareEdges
pub mod EdgeSteps
pub mod FaultSteps
pub mod IdentitySlices
pub mod KeptMaps
pub mod SliceMaps
pub mod ValidArrows
pub mod TestsByParts
pub mod ValiditySteps
pub mod Verdicts
pub mod TestsOfArrows
pub mod Visiting
mod ValidMaps
pub mod SlicesBeforeLegs
pub mod SharedSlices
