pub mod LooseTests
pub mod PlainSlices
