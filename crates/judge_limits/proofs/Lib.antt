pub mod RightsLaws
pub mod RowLaws
pub mod BorderLaws
pub mod NoticeLaws
pub mod IndexLaws
