pub mod LegSlices
pub mod FormTrees
pub mod StoreForms
pub mod NormalMaps
