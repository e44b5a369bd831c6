pub mod FoundIds
