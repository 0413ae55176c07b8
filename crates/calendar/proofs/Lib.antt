pub mod ClockLaws
pub mod DateLaws
