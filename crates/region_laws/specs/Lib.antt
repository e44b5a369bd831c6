pub mod PreimageCases
pub mod PointsInCuts
pub mod PulledPoints
pub mod Laws
