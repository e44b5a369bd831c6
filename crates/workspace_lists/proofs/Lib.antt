pub mod CountedNodes
pub mod DocumentEntries
pub mod ForCallers
pub mod HeldRoots
pub mod MapEntries
pub mod NormalRoots
