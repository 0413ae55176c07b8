pub mod FigureLaws
pub mod RowLaws
pub mod ReplyLaws
