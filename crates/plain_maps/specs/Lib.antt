pub mod PlainKeeps
pub mod Plainness
pub mod ValidPlain
