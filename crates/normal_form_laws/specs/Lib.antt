pub mod Carried
pub mod CarriedTypes
pub mod Laws
pub mod PlainLaws
