mod RiseLaws
pub mod RangeLaws
pub mod LaidLaws
pub mod PairLaws
pub mod LineLaws
pub mod UnitLaws
