pub mod AllLines
mod Bytes
pub mod Inputs
pub mod LineEnds
pub mod LinePieces
pub mod LinesTaken
pub mod Parts
pub mod Readers
pub mod Rises
mod Samples
