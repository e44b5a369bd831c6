pub mod Found
pub mod Visits
pub mod DiagramTests
pub mod Walks
pub mod MapTrees
