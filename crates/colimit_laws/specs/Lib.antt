pub mod RankConditions
pub mod EachObject
pub mod Laws
