pub mod SortLaws
pub mod ViewLaws
pub mod OrderLaws
mod NameLaws
pub mod KeyLaws
pub mod WalkLaws
pub mod TurnLaws
pub mod FillLaws
pub mod MatchLaws
pub mod PriceLaws
pub mod KeptLaws
