pub mod LoadLaws
pub mod MarkLaws
