pub mod DirectionLaws
pub mod CapacityLaws
