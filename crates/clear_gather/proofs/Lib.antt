mod ListLaws
pub mod HolderLaws
pub mod CountLaws
pub mod DayLaws
pub mod HourLaws
pub mod OfferLaws
pub mod RangeLaws
pub mod UnitLaws
pub mod InsertLaws
pub mod HourReadyLaws
pub mod HoldingLaws
