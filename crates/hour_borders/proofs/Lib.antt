pub mod DirectionLaws
pub mod FlowLaws
pub mod LimitLaws
