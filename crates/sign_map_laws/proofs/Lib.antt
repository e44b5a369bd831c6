pub mod CarriedCuts
pub mod CarriedPoints
pub mod Relabelled
pub mod Suspended
pub mod SuspendedPoints
pub mod SuspendedSignatures
pub mod TypeTrees
pub mod Samples
