pub mod Lists
pub mod StepPoints
pub mod Laws
