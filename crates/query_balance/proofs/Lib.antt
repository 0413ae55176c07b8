pub mod RowLaws
pub mod FlowLaws
