pub mod Deciding
pub mod TypedParts
pub mod Alike
pub mod Laws
