pub mod PassedLaws
pub mod CountedLaws
pub mod JudgeLaws
