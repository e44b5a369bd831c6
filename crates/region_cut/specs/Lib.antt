pub mod RegionValues
pub mod OverRegions
pub mod CutTrees
pub mod PointTrees
pub mod NextPoints
