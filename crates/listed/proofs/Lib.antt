mod BlankLaws
pub mod ViewLaws
